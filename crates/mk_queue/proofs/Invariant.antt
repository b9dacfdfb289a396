-- What holds of a queue, and of each caller at its point, at every place of an interleaving.
use Rattle.mk_heap.proofs.Below.Laws.Vocabulary.{List, None, Null, Option, Ptr, Some, Value, get_or, global_at}
use Rattle.mk_heap.proofs.Below.Laws.Vocabulary.{number_of}
use Rattle.mk_heap.proofs.Below.Laws.Vocabulary.{register_at, suc, word_at, zero, ℕ, [], ◌∷◌, ◌≡◌, ◌≢◌, ◌⊎◌}
use Rattle.mk_jobs.{specs.Keeping.{Public, World}, proofs.{Roots.{IsChecked, IsShared}, Rows.HasRow}}
use Rattle.mk_jobs.proofs.Having.{HasOwn, HasRoot, IsFounder, IsPassed, IsShownOf, PointsTo, Relies}
use Rattle.mk_queue.specs.{declared.jobs.Done.Done, declared.jobs.Job.Job, declared.points.Point.Point}

-- The number of a node stays, and its link, once it isn't null.
abbrev pub Final : ℕ → Value → Type 0
Final zero v = Unit {0}
Final (suc i) v = v ≢ Null

-- A node that head has left is linked to a node.
abbrev pub IsLinkedIfPassed : World → ℕ → Type 0
IsLinkedIfPassed w a = (w.role a ≡ Public) ⊎ PointsTo w 0 (word_at w.n a 1)

-- From head of the ends e on, a dummy and the nodes with these numbers are linked. Tail points to a node.
pub record IsQueue (w : World) (e : ℕ) (xs : List ℕ) : Type 0 where
  pub dummy : ℕ
  pub of_dummy : ℕ
  pub nodes : List ℕ
  pub row : HasRow w 1 0 0 1 0 e (dummy ∷ nodes) (of_dummy ∷ xs)
  pub tail : PointsTo w 0 (word_at w.n e 1)
  pub passed : (a : ℕ) → IsShownOf w 0 a → IsLinkedIfPassed w a

abbrev pub Shared : World → List ℕ → Type 0
Shared = IsShared 1 0 [] IsQueue

-- Head of the ends e goes on only from what is passed then.
abbrev pub GoesOn : World → World → ℕ → Type 0
GoesOn w w' e = (a : ℕ) → word_at w.n e 0 ≡ Ptr a 0 0 → (word_at w'.n e 0 ≡ Ptr a 0 0) ⊎ IsPassed (w'.role a)

-- What an operation of caller j leaves to the others
pub record Rely (j : ℕ) (w w' : World) : Type 0 where
  pub stays : Relies Final 0 j w w'
  pub head : (e : ℕ) → global_at w.n 0 ≡ Ptr e 1 0 → GoesOn w w' e

-- A node that is linked to none, and one with this number as well
abbrev pub IsLast : List Value → Type 0
IsLast ws = get_or ws 1 Null ≡ Null

abbrev pub IsNumbered : ℕ → List Value → Type 0
IsNumbered m ws = IsLast ws × (number_of (get_or ws 0 Null) ≡ m)

-- The first caller has the ends in register 0, with such words, and the dummy in register 1.
abbrev pub IsFounding : World → ℕ → Option Done → (Value → List Value → Type 0) → Type 0
IsFounding w k u Ends = IsFounder w k u × HasOwn w k 0 1 (Ends (register_at w.n k 1)) × HasOwn w k 1 0 IsLast

-- The job isn't decided, and its caller has the ends in register 0,
abbrev pub HasEnds : World → ℕ → Option Done → Type 0
HasEnds w k u = (u ≡ None) × HasRoot w k 0 1

-- with such a node of its own in register 1,
abbrev pub IsEnqueuing : World → ℕ → (List Value → Type 0) → Option Done → Type 0
IsEnqueuing w k Also u = HasEnds w k u × HasOwn w k 1 0 Also

-- and with one in register 2 that was the tail when it was loaded,
abbrev pub HasTail : World → ℕ → ℕ → Option Done → Type 0
HasTail w k m u = IsEnqueuing w k (IsNumbered m) u × PointsTo w 0 (register_at w.n k 2)

-- or with a node in register 2 that was the dummy when it was loaded,
pub record HasHead (w : World) (k : ℕ) (u : Option Done) : Type 0 where
  pub ends : HasEnds w k u
  pub node : PointsTo w 0 (register_at w.n k 2)
  pub was : (word_at w.n ends.1.t 0 ≡ Ptr node.a 0 0) ⊎ IsPassed (w.role node.a)

-- and in register 3 the node that this is linked to.
pub record HasNext (w : World) (k : ℕ) (u : Option Done) : Type 0 where
  pub head : HasHead w k u
  pub link : word_at w.n head.node.a 1 ≡ register_at w.n k 3
  pub next : PointsTo w 0 (register_at w.n k 3)

-- The number of the node in register 3 is what became of its dequeue.
pub record HasTaken (w : World) (k : ℕ) (u : Option Done) : Type 0 where
  pub node : PointsTo w 0 (register_at w.n k 3)
  pub owes : u ≡ Some (Done.Dequeued (number_of (word_at w.n node.a 0)))

-- what a job ends with where there are no ends
abbrev pub done_without : Job → Done
done_without (Job.Enqueue n) = Done.Full
done_without Job.Dequeue = Done.Empty

-- What holds of a caller at a point, whose job was decided so, or not yet.
abbrev pub Local : World → ℕ → Point → Option Done → Type 0
Local w k Point.Founding u = IsFounder w k u
Local w k Point.Grounding u = IsFounder w k u × HasOwn w k 0 1 (λ ws. Unit {0})
Local w k Point.Dropping u = IsFounder w k u × HasOwn w k 0 1 (λ ws. Unit {0})
Local w k Point.FirstHead u = IsFounding w k u (λ v ws. Unit {0})
Local w k Point.FirstTail u = IsFounding w k u (λ v ws. get_or ws 0 Null ≡ v)
Local w k Point.Placing u = IsFounding w k u (λ v ws. (get_or ws 0 Null ≡ v) × (get_or ws 1 Null ≡ v))
Local w k Point.Founded u = u ≡ None
Local w k (Point.Starting j) u = u ≡ None
Local w k (Point.Checking j) u = IsChecked 1 w k (done_without j) u
Local w k (Point.Making m) u = HasEnds w k u
Local w k (Point.Filling m) u = IsEnqueuing w k IsLast u
Local w k (Point.Loading m) u = IsEnqueuing w k (IsNumbered m) u
Local w k (Point.Following m) u = HasTail w k m u
Local w k (Point.Testing m) u = HasTail w k m u × ((register_at w.n k 3 ≡ Null) ⊎ PointsTo w 0 (register_at w.n k 3))
Local w k (Point.Linking m) u = HasTail w k m u × (register_at w.n k 3 ≡ Null)
Local w k Point.Swinging u = (u ≡ Some Done.Enqueued) × HasRoot w k 0 1 × PointsTo w 0 (register_at w.n k 1)
Local w k (Point.Helping m) u = IsEnqueuing w k (IsNumbered m) u × PointsTo w 0 (register_at w.n k 3)
Local w k Point.Heading u = HasEnds w k u
Local w k Point.Peeking u = HasHead w k u
Local w k Point.Asking u = ((register_at w.n k 3 ≡ Null) × (u ≡ Some Done.Empty)) ⊎ (Unit {0} × HasNext w k u)
Local w k Point.Taking u = HasNext w k u
Local w k Point.Freeing u = HasTaken w k u × PointsTo w 0 (register_at w.n k 2)
Local w k Point.Reading u = HasTaken w k u
Local w k (Point.Ended d) u = u ≡ Some d

-- the job that isn't decided yet
abbrev pub job_at : Point → Option Job
job_at (Point.Starting j) = Some j
job_at (Point.Checking j) = Some j
job_at (Point.Making n) = Some (Job.Enqueue n)
job_at (Point.Filling n) = Some (Job.Enqueue n)
job_at (Point.Loading n) = Some (Job.Enqueue n)
job_at (Point.Following n) = Some (Job.Enqueue n)
job_at (Point.Testing n) = Some (Job.Enqueue n)
job_at (Point.Linking n) = Some (Job.Enqueue n)
job_at (Point.Helping n) = Some (Job.Enqueue n)
job_at Point.Heading = Some Job.Dequeue
job_at Point.Peeking = Some Job.Dequeue
job_at Point.Asking = Some Job.Dequeue
job_at Point.Taking = Some Job.Dequeue
job_at _ = None
