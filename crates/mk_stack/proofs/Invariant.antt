-- What holds of a stack, and of each caller at its point, at every place of an interleaving.
use Rattle.mk_heap.proofs.Below.Laws.Vocabulary.{List, None, Null, Option, Some, Value, get_or, number_of, register_at}
use Rattle.mk_heap.proofs.Below.Laws.Vocabulary.{ℕ, [], ◌≡◌}
use Rattle.mk_heap.proofs.Below.Laws.Vocabulary.{◌⊎◌}
use Rattle.mk_jobs.{specs.Keeping.{World}, proofs.Rows.{HasRow}}
use Rattle.mk_jobs.proofs.{Having.{HasOwn, HasRoot, HasWord, IsFounder, PointsTo, Relies}, Roots.{IsChecked, IsShared}}
use Rattle.mk_stack.specs.{declared.jobs.Done.Done, declared.jobs.Job.Job, declared.points.Point.Point}

-- The nodes that are linked from top t have these numbers.
pub record IsStack (w : World) (t : ℕ) (xs : List ℕ) : Type 0 where
  pub nodes : List ℕ
  pub row : HasRow w 1 0 0 1 0 t nodes xs

abbrev pub Shared : World → List ℕ → Type 0
Shared = IsShared 1 0 [] IsStack

-- Both words of a node stay.
abbrev pub Final : ℕ → Value → Type 0
Final i v = Unit {0}

abbrev pub Rely : ℕ → World → World → Type 0
Rely = Relies Final 0

-- A caller whose job isn't decided has the top in register 0.
abbrev pub IsAtTop : World → ℕ → Option Done → Type 0
IsAtTop w k u = (u ≡ None) × HasRoot w k 0 1

-- A push has a node in register 1, with this number,
abbrev pub HasNumbered : World → ℕ → ℕ → Type 0
HasNumbered w k m = HasOwn w k 1 0 (λ ws. number_of (get_or ws 0 Null) ≡ m)

-- and with this link.
abbrev pub HasLinked : World → ℕ → ℕ → Value → Type 0
HasLinked w k m v = HasOwn w k 1 0 (λ ws. (number_of (get_or ws 0 Null) ≡ m) × (get_or ws 1 Null ≡ v))

-- A pop has taken off the node in register 2, and its number is what became of the pop.
pub record HasTaken (w : World) (k : ℕ) (u : Option Done) : Type 0 where
  pub number : Value
  pub word : HasWord Final w 0 0 (register_at w.n k 2) number
  pub owes : u ≡ Some (Done.Popped (number_of number))

-- what a job ends with where there is no top
abbrev pub done_without : Job → Done
done_without (Job.Push n) = Done.Full
done_without Job.Pop = Done.Empty

-- What holds of a caller at a point, whose job was decided so, or not yet.
abbrev pub Local : World → ℕ → Point → Option Done → Type 0
Local w k Point.Founding u = IsFounder w k u
Local w k Point.Placing u = IsFounder w k u × HasOwn w k 0 1 (λ ws. get_or ws 0 Null ≡ Null)
Local w k Point.Founded u = u ≡ None
Local w k (Point.Starting j) u = u ≡ None
Local w k (Point.Checking j) u = IsChecked 1 w k (done_without j) u
Local w k (Point.Making m) u = IsAtTop w k u
Local w k (Point.Filling m) u = IsAtTop w k u × HasOwn w k 1 0 (λ ws. Unit {0})
Local w k (Point.Looking m) u = IsAtTop w k u × HasNumbered w k m
Local w k (Point.Linking m) u = IsAtTop w k u × HasNumbered w k m
Local w k (Point.Publishing m) u = IsAtTop w k u × HasLinked w k m (register_at w.n k 2)
Local w k Point.Peeking u = IsAtTop w k u
Local w k Point.Testing u =
    ((register_at w.n k 2 ≡ Null) × (u ≡ Some Done.Empty)) ⊎ (IsAtTop w k u × PointsTo w 0 (register_at w.n k 2))
Local w k Point.Following u = IsAtTop w k u × PointsTo w 0 (register_at w.n k 2)
Local w k Point.Taking u = IsAtTop w k u × HasWord Final w 0 1 (register_at w.n k 2) (register_at w.n k 1)
Local w k Point.Freeing u = HasTaken w k u
Local w k Point.Reading u = HasTaken w k u
Local w k (Point.Ended d) u = u ≡ Some d

-- the job that isn't decided yet
abbrev pub job_at : Point → Option Job
job_at (Point.Starting j) = Some j
job_at (Point.Checking j) = Some j
job_at (Point.Making n) = Some (Job.Push n)
job_at (Point.Filling n) = Some (Job.Push n)
job_at (Point.Looking n) = Some (Job.Push n)
job_at (Point.Linking n) = Some (Job.Push n)
job_at (Point.Publishing n) = Some (Job.Push n)
job_at Point.Peeking = Some Job.Pop
job_at Point.Testing = Some Job.Pop
job_at Point.Following = Some Job.Pop
job_at Point.Taking = Some Job.Pop
job_at _ = None
