-- A plain stack of numbers, and the points of its jobs: the operation of each, and what the registers hold there.
use Rattle.std.specs.Prelude.{ℕ, List, [], ◌∷◌, refl, ◌≡◌, ◌⊎◌, ◌==◌, Option, Some, None, Result, Ok, Err}
use Rattle.std.specs.Prelude.{if◌then◌else◌}
use Rattle.std.proofs.Common.{arith}
use Rattle.mk_never.specs.declared.{types.Kind.Kind, values.Value.TheVariants.{Null, Ptr}}
use Rattle.mk_never.specs.NeverHeap.{NeverState, global_at, word_at}
use Rattle.mk_jobs.specs.Typing.{Plan, Hold, Anything, MayPoint, Points, Owns, Owes, IsTyped, IsTypedStep}
use Rattle.mk_jobs.specs.{declared.{steps.Step.Step, linked.Full.Full}, Jobs.{AreLinked, numbers_in}}
use Rattle.mk_stack.specs.declared.{jobs.{Job.Job, Done.Done}, points.Point.Point}

-- the operation of a point, and where its answers lead
abbrev pub step_of : Point → Step Point Done
step_of Point.Founding = Step.New 0 1 Point.Placing Point.Founded
step_of Point.Placing = Step.SetGlobal 0 0 Point.Founded
step_of Point.Founded = Step.End Done.Empty
step_of (Point.Starting j) = Step.GetGlobal 0 0 (Point.Checking j)
step_of (Point.Checking (Job.Push n)) = Step.IsNull 0 (Point.Ended Done.Full) (Point.Making n)
step_of (Point.Checking Job.Pop) = Step.IsNull 0 (Point.Ended Done.Empty) Point.Peeking
step_of (Point.Making n) = Step.New 1 0 (Point.Filling n) (Point.Ended Done.Full)
step_of (Point.Filling n) = Step.SetNum 1 0 n (Point.Looking n)
step_of (Point.Looking n) = Step.GetPtr 2 0 0 (Point.Linking n)
step_of (Point.Linking n) = Step.SetPtr 1 1 2 (Point.Publishing n)
step_of (Point.Publishing n) = Step.CasPtr 0 0 2 1 (Point.Ended Done.Pushed) (Point.Looking n)
step_of Point.Peeking = Step.GetPtr 2 0 0 Point.Testing
step_of Point.Testing = Step.IsNull 2 (Point.Ended Done.Empty) Point.Following
step_of Point.Following = Step.GetPtr 1 2 1 Point.Taking
step_of Point.Taking = Step.CasPtr 0 0 2 1 Point.Freeing Point.Peeking
step_of Point.Freeing = Step.Free 2 Point.Reading
step_of Point.Reading = Step.GetNum 2 0 (Point.Ended (Done.Popped 0))
step_of (Point.Ended d) = Step.End d

-- the point with the number that was loaded
abbrev pub with_number : Point → ℕ → Point
with_number (Point.Ended (Done.Popped x)) n = Point.Ended (Done.Popped n)
with_number s n = s

-- what registers 0 to 2 hold: the top; the node that is pushed, or the one below the uppermost; and the uppermost
abbrev pub holds : Point → List Hold
holds Point.Placing = Owns 1 ∷ []
holds (Point.Checking j) = MayPoint 1 ∷ []
holds (Point.Making n) = Points 1 ∷ []
holds (Point.Filling n) = Points 1 ∷ Owns 0 ∷ []
holds (Point.Looking n) = Points 1 ∷ Owns 0 ∷ []
holds (Point.Linking n) = Points 1 ∷ Owns 0 ∷ MayPoint 0 ∷ []
holds (Point.Publishing n) = Points 1 ∷ Owns 0 ∷ MayPoint 0 ∷ []
holds Point.Peeking = Points 1 ∷ []
holds Point.Testing = Points 1 ∷ Anything ∷ MayPoint 0 ∷ []
holds Point.Following = Points 1 ∷ Anything ∷ Points 0 ∷ []
holds Point.Taking = Points 1 ∷ MayPoint 0 ∷ Points 0 ∷ []
holds Point.Freeing = Anything ∷ Anything ∷ Owes 0 ∷ []
holds Point.Reading = Anything ∷ Anything ∷ MayPoint 0 ∷ []
holds _ = []

-- the jobs on a stack
abbrev pub stack_plan : Plan Job Done Point
stack_plan = record {
  types = (Kind.Num ∷ Kind.To 0 0 ∷ []) ∷ (Kind.To 0 0 ∷ []) ∷ [];
  globals = 1 ∷ [];
  registers = 3;
  founding = Point.Founding;
  starting = Point.Starting;
  step = step_of;
  with_number = with_number;
  holds = holds;
}

-- Each operation finds in its registers what it asks.
stack_steps_are_typed : (s : Point) → IsTypedStep stack_plan (holds s) (step_of s)
stack_steps_are_typed (Point.Checking (Job.Push n)) = refl
stack_steps_are_typed (Point.Checking Job.Pop) = refl
stack_steps_are_typed Point.Reading = (refl, λ n. refl)
stack_steps_are_typed x0 = refl

-- The jobs on a stack are typed.
pub stack_is_typed : IsTyped stack_plan
stack_is_typed = record {
  few = omega arith;
  steps = stack_steps_are_typed;
  founding = refl;
  starting = λ j. refl;
}

-- What the job leaves of the list, where the list explains what became of it.
abbrev pub left_by : List ℕ → Job → Done → Option (List ℕ)
left_by xs (Job.Push n) Done.Pushed = Some (n ∷ xs)
left_by xs (Job.Push n) Done.Full = Some xs
left_by xs (Job.Push n) _ = None
left_by [] Job.Pop Done.Empty = Some []
left_by (x ∷ xs) Job.Pop (Done.Popped n) = if x == n then Some xs else None
left_by _ Job.Pop _ = None

-- Global 0 points to the top, and the nodes that are linked from it have the numbers.
pub record HasNodes (n : NeverState) (parts xs : List ℕ) : Type 0 where
  pub top : ℕ
  pub nodes : List ℕ
  pub global : global_at n 0 ≡ Ptr top 1 0
  pub linked : AreLinked n 0 1 (word_at n top 0) nodes
  pub are_parts : parts ≡ top ∷ nodes
  pub numbers : numbers_in n 0 nodes ≡ xs

-- The stack of these allocations has these numbers, or none was founded.
abbrev pub HasNumbers : NeverState → List ℕ → List ℕ → Type 0
HasNumbers n parts xs = ((global_at n 0 ≡ Null) × (parts ≡ []) × (xs ≡ [])) ⊎ HasNodes n parts xs

-- what became of a push
abbrev pub pushed : Result (Unit {0}) Full → Done
pushed (Ok x) = Done.Pushed
pushed (Err x) = Done.Full

-- what became of a pop
abbrev pub popped : Option ℕ → Done
popped (Some n) = Done.Popped n
popped None = Done.Empty
