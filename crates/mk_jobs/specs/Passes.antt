-- Jobs in the history of a running heap: what a caller's operations were replied there, and what comes next.
use Rattle.std.specs.Prelude.{◌≡◌, ℕ, ◌<◌, ◌≤◌, Bool, List, ◌++◌, ◌==◌, true, false, Option, Some, None, if◌then◌else◌}
use Rattle.std.specs.List.{AllByRecursion}
use Rattle.mk_never.specs.{declared.values.Value.TheVariants.Null, declared.operations.Op.Op}
use Rattle.mk_core.specs.{declared.config.Config.Config, declared.events.Event.Event, Calls.asked}
use Rattle.mk_core.specs.{History.{calls, never_first}, declared.events.Answer.Answer}
use Rattle.mk_heap.specs.{Below.Words.States.PassState, Below.Callers.States.{CallerState, caller_of_pass, value_of}}
use Rattle.mk_heap.specs.Below.Objects.TurnCalls.{OwnAreExact, MayTakeTurns}
use Rattle.mk_jobs.specs.{Typing.Plan, Jobs.{Replied, Leads, own_replied, IsClear}, declared.steps.Step.Step}

-- the operations of caller k in a history, with the replies of the heap that never reuses storage
abbrev pub replied_in : Config → ℕ → List Event → List Replied
replied_in c k es = own_replied k (never_first c) (asked (calls c es))

-- the operations of the pass's caller, with their replies
abbrev pub replied_to : PassState → List Replied
replied_to p = replied_in p.table.config (caller_of_pass p) p.seen

module _ {Job Done Point : Type 0} (p : Plan Job Done Point) where
  -- the heap has the types and the globals of the object
  pub record IsMadeFor (c : Config) : Type 0 where
    pub types : c.types ≡ p.types
    pub globals : c.globals ≡ p.globals

  -- The caller may take turns with this engine, on a heap that is made for the object.
  pub record IsReady {E : Type 0} (made_for : E → ℕ) (s : CallerState) (engine : E) : Type 0 where
    pub may : MayTakeTurns (made_for engine) s
    pub made : IsMadeFor s.pass.table.config

  -- Its caller's registers that the object uses are null. If the others are as well, it keeps no object.
  abbrev pub KeepsNothing : PassState → Type 0
  KeepsNothing q = (r : ℕ) → r < p.registers → value_of q r ≡ Null

  -- The pass has seen more, in which its caller's operations led from one point to another. The registers that the
  -- object doesn't use are as they were.
  pub record GoesToPoint (q : PassState) (s : Point) (q' : PassState) (t : Point) : Type 0 where
    pub is : q' ≡ record q { seen = q'.seen }
    pub all : List Replied
    pub leads : Leads p s all t
    pub did : replied_to q' ≡ replied_to q ++ all
    pub others : (r : ℕ) → p.registers ≤ r → r < 8 → value_of q' r ≡ value_of q r

  -- They led from one point to an end with this outcome.
  pub record GoesToEnd (q : PassState) (s : Point) (q' : PassState) (done : Done) : Type 0 where
    pub last : Point
    pub goes : GoesToPoint q s q' last
    pub ended : p.step last ≡ Step.End done

  -- Its caller made the object.
  pub record Founds (q q' : PassState) : Type 0 where
    pub done : Done
    pub ends : GoesToEnd q p.founding q' done

  -- Its caller did the job, and this became of it. It is ready for the next job and keeps no object.
  pub record HasDone {E : Type 0} (made_for : E → ℕ) (on : Bool) (s : CallerState) (job : Job) (done : Done)
      (t : CallerState) (engine : E) : Type 0 where
    pub ready : IsReady made_for t engine
    pub does : GoesToEnd s.pass (p.starting job) t.pass done
    pub keeps : KeepsNothing t.pass
    pub exact : OwnAreExact on s.pass → OwnAreExact on t.pass

-- The operation of a step, and where its answer leads. Private functions alone cite this.

-- the operation of a step, if it asks for one
abbrev pub op_of : {Point Done : Type 0} → Step Point Done → Option Op
op_of (Step.New d ty to full) = Some (Op.New d ty false)
op_of (Step.Free p to) = Some (Op.Free p)
op_of (Step.GetNum q i to) = Some (Op.GetNum q i)
op_of (Step.SetNum q i n to) = Some (Op.SetNum q i n)
op_of (Step.GetPtr d q i to) = Some (Op.GetPtr d q i)
op_of (Step.SetPtr q i p to) = Some (Op.SetPtr q i p)
op_of (Step.CasPtr q i p r so not_so) = Some (Op.CasPtr q i p r)
op_of (Step.GetGlobal d g to) = Some (Op.GetGlobal d g)
op_of (Step.SetGlobal g p to) = Some (Op.SetGlobal g p)
op_of (Step.Clear d to) = Some (Op.Clear d)
op_of (Step.Same p q so not_so) = Some (Op.Same p q)
op_of (Step.IsNull p so not_so) = Some (Op.IsNull p)
op_of (Step.End done) = None

-- the answer is Full
abbrev pub says_full : Answer → Bool
says_full Answer.Full = true
says_full _ = false

-- the answer is 1
abbrev pub says_yes : Answer → Bool
says_yes (Answer.Num n) = n == 1
says_yes _ = false

-- the number of the answer
abbrev pub number_answered : Answer → ℕ
number_answered (Answer.Num n) = n
number_answered _ = 0

-- the point to which the answer leads
abbrev pub next_by : {Point Done : Type 0} → (Point → ℕ → Point) → Point → Step Point Done → Answer → Point
next_by w s (Step.New d ty to full) told = if says_full told then full else to
next_by w s (Step.Free p to) told = to
next_by w s (Step.GetNum q i to) told = w to (number_answered told)
next_by w s (Step.SetNum q i n to) told = to
next_by w s (Step.GetPtr d q i to) told = to
next_by w s (Step.SetPtr q i p to) told = to
next_by w s (Step.CasPtr q i p r so not_so) told = if says_yes told then so else not_so
next_by w s (Step.GetGlobal d g to) told = to
next_by w s (Step.SetGlobal g p to) told = to
next_by w s (Step.Clear d to) told = to
next_by w s (Step.Same p q so not_so) told = if says_yes told then so else not_so
next_by w s (Step.IsNull p so not_so) told = if says_yes told then so else not_so
next_by w s (Step.End done) told = s

-- The pass has seen more, in which its caller set its registers below this one to null, and did nothing else. The
-- others are as they were.
pub record Clears (p : PassState) (count : ℕ) (q : PassState) : Type 0 where
  pub is : q ≡ record p { seen = q.seen }
  pub all : List Replied
  pub are : AllByRecursion (λ (x : Replied). IsClear x.op) all
  pub did : replied_to q ≡ replied_to p ++ all
  pub null : (r : ℕ) → r < count → value_of q r ≡ Null
  pub others : (r : ℕ) → count ≤ r → r < 8 → value_of q r ≡ value_of p r
