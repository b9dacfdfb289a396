-- A plain queue of numbers, and the points of its jobs: the operation of each, and what the registers hold there.
use Rattle.std.specs.Prelude.{ℕ, List, [], ◌∷◌, refl, ◌≡◌, ◌⊎◌, ◌==◌, ◌++◌, Option, Some, None, Result, Ok, Err}
use Rattle.std.specs.Prelude.{if◌then◌else◌}
use Rattle.std.proofs.Common.{arith}
use Rattle.mk_never.specs.declared.{types.Kind.Kind, values.Value.TheVariants.{Null, Ptr}}
use Rattle.mk_never.specs.NeverHeap.{NeverState, global_at, word_at}
use Rattle.mk_jobs.specs.Typing.{Plan, Hold, Anything, MayPoint, Points, Owns, Owes, IsTyped, IsTypedStep}
use Rattle.mk_jobs.specs.{declared.{steps.Step.Step, linked.Full.Full}, Jobs.{AreLinked, numbers_in}}
use Rattle.mk_queue.specs.declared.{jobs.{Job.Job, Done.Done}, points.Point.Point}

-- the operation of each point, and where its answers lead
abbrev pub step_of : Point → Step Point Done
step_of Point.Founding = Step.New 0 1 Point.Grounding Point.Founded
step_of Point.Grounding = Step.New 1 0 Point.FirstHead Point.Dropping
step_of Point.Dropping = Step.Free 0 Point.Founded
step_of Point.FirstHead = Step.SetPtr 0 0 1 Point.FirstTail
step_of Point.FirstTail = Step.SetPtr 0 1 1 Point.Placing
step_of Point.Placing = Step.SetGlobal 0 0 Point.Founded
step_of Point.Founded = Step.End Done.Empty
step_of (Point.Starting j) = Step.GetGlobal 0 0 (Point.Checking j)
step_of (Point.Checking (Job.Enqueue n)) = Step.IsNull 0 (Point.Ended Done.Full) (Point.Making n)
step_of (Point.Checking Job.Dequeue) = Step.IsNull 0 (Point.Ended Done.Empty) Point.Heading
step_of (Point.Making n) = Step.New 1 0 (Point.Filling n) (Point.Ended Done.Full)
step_of (Point.Filling n) = Step.SetNum 1 0 n (Point.Loading n)
step_of (Point.Loading n) = Step.GetPtr 2 0 1 (Point.Following n)
step_of (Point.Following n) = Step.GetPtr 3 2 1 (Point.Testing n)
step_of (Point.Testing n) = Step.IsNull 3 (Point.Linking n) (Point.Helping n)
step_of (Point.Linking n) = Step.CasPtr 2 1 3 1 Point.Swinging (Point.Loading n)
step_of Point.Swinging = Step.CasPtr 0 1 2 1 (Point.Ended Done.Enqueued) (Point.Ended Done.Enqueued)
step_of (Point.Helping n) = Step.CasPtr 0 1 2 3 (Point.Loading n) (Point.Loading n)
step_of Point.Heading = Step.GetPtr 2 0 0 Point.Peeking
step_of Point.Peeking = Step.GetPtr 3 2 1 Point.Asking
step_of Point.Asking = Step.IsNull 3 (Point.Ended Done.Empty) Point.Taking
step_of Point.Taking = Step.CasPtr 0 0 2 3 Point.Freeing Point.Heading
step_of Point.Freeing = Step.Free 2 Point.Reading
step_of Point.Reading = Step.GetNum 3 0 (Point.Ended (Done.Dequeued 0))
step_of (Point.Ended d) = Step.End d

-- the point, with the number that was loaded
abbrev pub with_number : Point → ℕ → Point
with_number (Point.Ended (Done.Dequeued x)) n = Point.Ended (Done.Dequeued n)
with_number s n = s

-- what registers 0 to 3 hold: the ends, the node that is enqueued, the tail or the head, and its link
abbrev pub holds : Point → List Hold
holds Point.Grounding = Owns 1 ∷ []
holds Point.Dropping = Owns 1 ∷ []
holds Point.FirstHead = Owns 1 ∷ Owns 0 ∷ []
holds Point.FirstTail = Owns 1 ∷ Owns 0 ∷ []
holds Point.Placing = Owns 1 ∷ Owns 0 ∷ []
holds (Point.Checking j) = MayPoint 1 ∷ []
holds (Point.Making n) = Points 1 ∷ []
holds (Point.Filling n) = Points 1 ∷ Owns 0 ∷ []
holds (Point.Loading n) = Points 1 ∷ Owns 0 ∷ []
holds (Point.Following n) = Points 1 ∷ Owns 0 ∷ MayPoint 0 ∷ []
holds (Point.Testing n) = Points 1 ∷ Owns 0 ∷ MayPoint 0 ∷ MayPoint 0 ∷ []
holds (Point.Linking n) = Points 1 ∷ Owns 0 ∷ MayPoint 0 ∷ MayPoint 0 ∷ []
holds Point.Swinging = Points 1 ∷ Points 0 ∷ MayPoint 0 ∷ []
holds (Point.Helping n) = Points 1 ∷ Owns 0 ∷ MayPoint 0 ∷ Points 0 ∷ []
holds Point.Heading = Points 1 ∷ []
holds Point.Peeking = Points 1 ∷ Anything ∷ MayPoint 0 ∷ []
holds Point.Asking = Points 1 ∷ Anything ∷ MayPoint 0 ∷ MayPoint 0 ∷ []
holds Point.Taking = Points 1 ∷ Anything ∷ MayPoint 0 ∷ Points 0 ∷ []
holds Point.Freeing = Anything ∷ Anything ∷ Owes 0 ∷ Points 0 ∷ []
holds Point.Reading = Anything ∷ Anything ∷ Anything ∷ Points 0 ∷ []
holds _ = []

-- what the layer is told of a queue
abbrev pub queue_plan : Plan Job Done Point
queue_plan = record {
  types = (Kind.Num ∷ Kind.To 0 0 ∷ []) ∷ (Kind.To 0 0 ∷ Kind.To 0 0 ∷ []) ∷ [];
  globals = 1 ∷ [];
  registers = 4;
  founding = Point.Founding;
  starting = Point.Starting;
  step = step_of;
  with_number = with_number;
  holds = holds;
}

queue_steps_are_typed : (s : Point) → IsTypedStep queue_plan (holds s) (step_of s)
queue_steps_are_typed (Point.Checking (Job.Enqueue n)) = refl
queue_steps_are_typed (Point.Checking Job.Dequeue) = refl
queue_steps_are_typed Point.Reading = (refl, λ n. refl)
queue_steps_are_typed x0 = refl

-- Each operation has in its registers what it asks.
pub queue_is_typed : IsTyped queue_plan
queue_is_typed = record {
  few = omega arith;
  steps = queue_steps_are_typed;
  founding = refl;
  starting = λ j. refl;
}

-- What the job leaves of the list, where the list explains what became of it.
abbrev pub left_by : List ℕ → Job → Done → Option (List ℕ)
left_by xs (Job.Enqueue n) Done.Enqueued = Some (xs ++ n ∷ [])
left_by xs (Job.Enqueue n) Done.Full = Some xs
left_by xs (Job.Enqueue n) _ = None
left_by [] Job.Dequeue Done.Empty = Some []
left_by (x ∷ xs) Job.Dequeue (Done.Dequeued n) = if x == n then Some xs else None
left_by _ Job.Dequeue _ = None

-- what became of an enqueue
abbrev pub enqueued : Result (Unit {0}) Full → Done
enqueued (Ok x) = Done.Enqueued
enqueued (Err x) = Done.Full

-- what became of a dequeue
abbrev pub dequeued : Option ℕ → Done
dequeued (Some n) = Done.Dequeued n
dequeued None = Done.Empty

-- Global 0 points to the ends. Their head points to a dummy, and the nodes that are linked from there have the numbers.
pub record HasNodes (n : NeverState) (parts xs : List ℕ) : Type 0 where
  pub ends : ℕ
  pub dummy : ℕ
  pub nodes : List ℕ
  pub global : global_at n 0 ≡ Ptr ends 1 0
  pub linked : AreLinked n 0 1 (word_at n ends 0) (dummy ∷ nodes)
  pub are_parts : parts ≡ ends ∷ dummy ∷ nodes
  pub numbers : numbers_in n 0 nodes ≡ xs

-- The queue of these allocations has these numbers, or none was founded.
abbrev pub HasNumbers : NeverState → List ℕ → List ℕ → Type 0
HasNumbers n parts xs = ((global_at n 0 ≡ Null) × (parts ≡ []) × (xs ≡ [])) ⊎ HasNodes n parts xs
