-- A job as operations of the heap that never reuses storage, and an order of jobs on a plain object of one thread.
use Rattle.std.specs.Prelude.{◌≡◌, ◌⊎◌, ℕ, zero, suc, ◌<◌, ◌==◌, true, false, List, [], ◌∷◌, ◌++◌, if◌then◌else◌}
use Rattle.std.specs.{Prelude.{Option, Some, option_and_then, length, take, drop}, List.{AllByRecursion, filter_map}}
use Rattle.std.specs.List.{flat_map}
use Rattle.mk_never.specs.{declared.operations.Op.Op, declared.operations.Reply.Reply, declared.values.Value.Value}
use Rattle.mk_never.specs.{declared.values.Value.TheVariants.{Ptr, Null}, declared.types.Kind.TheVariants.To}
use Rattle.mk_never.specs.{Admitted.IsOfKind, NeverHeap.{NeverState, Call, reply_of, after_op, number_of, word_at}}
use Rattle.mk_never.specs.declared.types.Kind.{Kind}
use Rattle.mk_jobs.specs.Typing.{Plan, Hold, Anything, MayPoint, Points, Owns, Owes, hold_of}
use Rattle.mk_jobs.specs.declared.steps.Step.{Step}

-- an operation, and what it was replied
pub record Replied : Type 0 where
  pub op : Op
  pub reply : Reply

-- the number of the reply
abbrev pub number_replied : Reply → ℕ
number_replied (Reply.Num n) = n
number_replied _ = 0

-- The operation of a step is asked, is replied so, and leads there. What isn't replied yes leads where no does.
abbrev pub Asks : {Point Done : Type 0} → (Point → ℕ → Point) → Step Point Done → Op → Reply → Point → Type 0
Asks w (Step.New d ty to full) o r t =
    ((o ≡ Op.New d ty false) × (t ≡ to)) ⊎ ((o ≡ Op.New d ty true) × (t ≡ full))
Asks w (Step.Free p to) o r t = (o ≡ Op.Free p) × (t ≡ to)
Asks w (Step.GetNum q i to) o r t = (o ≡ Op.GetNum q i) × (t ≡ w to (number_replied r))
Asks w (Step.SetNum q i n to) o r t = (o ≡ Op.SetNum q i n) × (t ≡ to)
Asks w (Step.GetPtr d q i to) o r t = (o ≡ Op.GetPtr d q i) × (t ≡ to)
Asks w (Step.SetPtr q i p to) o r t = (o ≡ Op.SetPtr q i p) × (t ≡ to)
Asks w (Step.CasPtr q i p x so not_so) o r t =
    (o ≡ Op.CasPtr q i p x) × (((r ≡ Reply.Num 1) × (t ≡ so)) ⊎ ((r ≡ Reply.Num 1 → ⊥) × (t ≡ not_so)))
Asks w (Step.GetGlobal d g to) o r t = (o ≡ Op.GetGlobal d g) × (t ≡ to)
Asks w (Step.SetGlobal g p to) o r t = (o ≡ Op.SetGlobal g p) × (t ≡ to)
Asks w (Step.Clear d to) o r t = (o ≡ Op.Clear d) × (t ≡ to)
Asks w (Step.Same p q so not_so) o r t =
    (o ≡ Op.Same p q) × (((r ≡ Reply.Num 1) × (t ≡ so)) ⊎ ((r ≡ Reply.Num 1 → ⊥) × (t ≡ not_so)))
Asks w (Step.IsNull p so not_so) o r t =
    (o ≡ Op.IsNull p) × (((r ≡ Reply.Num 1) × (t ≡ so)) ⊎ ((r ≡ Reply.Num 1 → ⊥) × (t ≡ not_so)))
Asks w (Step.End done) o r t = ⊥

-- Nothing is asked any more.
abbrev pub IsEnd : {Point Done : Type 0} → Step Point Done → Type 0
IsEnd (Step.End done) = Unit {0}
IsEnd _ = ⊥

-- It clears one of the eight registers.
abbrev pub IsClear : Op → Type 0
IsClear (Op.Clear d) = d < 8
IsClear _ = ⊥

-- It points to the first word of an object of this type.
pub record IsPointerTo (ty : ℕ) (v : Value) : Type 0 where
  pub number : ℕ
  pub is : v ≡ Ptr number ty 0

-- The value is as the register should hold it.
abbrev pub Has : Value → Hold → Type 0
Has v Anything = Unit {0}
Has v (MayPoint t) = IsOfKind v (To t 0)
Has v (Points t) = IsPointerTo t v
Has v (Owns t) = IsPointerTo t v
Has v (Owes t) = IsOfKind v (To t 0)

-- the operations of caller k among those of all, with their replies
abbrev pub own_replied : ℕ → NeverState → List Call → List Replied
own_replied k n [] = []
own_replied k n (x ∷ xs) =
    if x.caller == k then record { op = x.op; reply = reply_of n x.caller x.op }
    ∷ own_replied k (after_op n x.caller x.op) xs
    else own_replied k (after_op n x.caller x.op) xs

-- a job, what became of it, and its operations with their replies
pub record JobRun (Job Done : Type 0) : Type 0 where
  pub job : Job
  pub done : Done
  pub all : List Replied

-- the operations of these jobs, in order
abbrev pub all_of : {Job Done : Type 0} → List (JobRun Job Done) → List Replied
all_of rs = flat_map (λ r. r.all) rs

-- the first caller makes the object before its jobs; the others begin with their jobs
abbrev pub jobs_of_first : ℕ → List Replied → List Replied
jobs_of_first zero founding = founding
jobs_of_first (suc k) founding = []

module _ {Job Done Point : Type 0} (p : Plan Job Done Point) where
  -- The operations with their replies lead from one point to another. Where nothing is asked any more, a caller may set
  -- its registers to null.
  abbrev pub Leads : Point → List Replied → Point → Type 0
  Leads s [] t = s ≡ t
  Leads s (x ∷ xs) t =
      ((next : Point) × Asks p.with_number (p.step s) x.op x.reply next × Leads next xs t)
      ⊎ (IsEnd (p.step s) × IsClear x.op × Leads s xs t)

  -- The operations lead from the job's start to its outcome.
  abbrev pub IsJobRun : JobRun Job Done → Type 0
  IsJobRun r = (t : Point) × Leads (p.starting r.job) r.all t × (p.step t ≡ Step.End r.done)

  -- Each is the run of a job.
  abbrev pub AreJobRuns : List (JobRun Job Done) → Type 0
  AreJobRuns rs = AllByRecursion IsJobRun rs

  -- These operations make the object.
  pub record IsFounding (founding : List Replied) : Type 0 where
    pub found : Point
    pub founds : Leads p.founding founding found
    pub founded : IsEnd (p.step found)

  -- what the registers hold at a point
  abbrev pub HoldsAt : (ℕ → Value) → Point → Type 0
  HoldsAt v s = (r : ℕ) → r < 8 → Has (v r) (hold_of (p.holds s) r)

  -- Each caller below this number does its jobs one after the other, whatever the others do between.
  pub record IsInterleaved (n : NeverState) (callers : ℕ) (founding : List Replied) (runs : ℕ → List (JobRun Job Done))
      (calls : List Call) : Type 0 where
    pub founds : IsFounding founding
    pub jobs : (k : ℕ) → AreJobRuns (runs k)
    pub own : (k : ℕ) → own_replied k n calls ≡ jobs_of_first k founding ++ all_of (runs k)
    pub exist : AllByRecursion (λ (x : Call). x.caller < callers) calls

-- a caller's job, and what became of it
pub record Ordered (Job Done : Type 0) : Type 0 where
  pub caller : ℕ
  pub job : Job
  pub done : Done

module _ {Job Done State : Type 0} (left_by : State → Job → Done → Option State) where
  -- what the jobs leave, one after the other
  abbrev pub left_by_all : State → List (Ordered Job Done) → Option State
  left_by_all x [] = Some x
  left_by_all x (e ∷ es) = option_and_then (λ y. left_by_all y es) (left_by x e.job e.done)

module _ {Job Done : Type 0} where
  -- the jobs that are decided, in the order of their operations
  abbrev pub order_of : List (Option (Ordered Job Done)) → List (Ordered Job Done)
  order_of ds = filter_map (λ d. d) ds

  -- what a caller's own operations decide
  abbrev pub own_decisions : ℕ → List Call → List (Option (Ordered Job Done)) → List (Option (Ordered Job Done))
  own_decisions k [] ds = []
  own_decisions k (x ∷ xs) [] = []
  own_decisions k (x ∷ xs) (d ∷ ds) = if x.caller == k then d ∷ own_decisions k xs ds else own_decisions k xs ds

  -- Each of the caller's jobs is decided by exactly one of its own operations, as what became of it.
  abbrev pub AreDecidedOnce : ℕ → List (JobRun Job Done) → List (Option (Ordered Job Done)) → Type 0
  AreDecidedOnce k [] ds = ds ≡ []
  AreDecidedOnce k (r ∷ rs) ds =
      (order_of (take (length r.all) ds) ≡ record { caller = k; job = r.job; done = r.done } ∷ [])
      × AreDecidedOnce k rs (drop (length r.all) ds)

-- a node of a number and a link
abbrev pub node_kinds : List Kind
node_kinds = Kind.Num ∷ Kind.To 0 0 ∷ []

-- the type of the root
abbrev pub root_type : ℕ
root_type = 1

-- From this pointer on, objects of type ty are linked by their word i. The last is linked to none.
abbrev pub AreLinked : NeverState → ℕ → ℕ → Value → List ℕ → Type 0
AreLinked n ty i v [] = v ≡ Null
AreLinked n ty i v (a ∷ nodes) = (v ≡ Ptr a ty 0) × AreLinked n ty i (word_at n a i) nodes

-- the number that each has in its word i
abbrev pub numbers_in : NeverState → ℕ → List ℕ → List ℕ
numbers_in n i [] = []
numbers_in n i (a ∷ nodes) = number_of (word_at n a i) ∷ numbers_in n i nodes
