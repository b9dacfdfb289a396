-- A call of a caller, in the history: the one clause of all calls, why one is refused, and what it leaves.
use Rattle.std.specs.Prelude.{◌≡◌, ℕ, Bool, ◌==◌, List, [], ◌∷◌, ◌++◌, map, filter, Some, if◌then◌else◌, ◌↔◌, true, ◌≢◌}
use Rattle.std.specs.Prelude.{◌<◌, Option, None}
use Rattle.mk_never.specs.{declared.operations.Op.Op, NeverHeap.{reply_of, after_op, target_of, word_at}}
use Rattle.mk_never.specs.{Laws.KeepsRegisters, declared.values.Target.Target}
use Rattle.mk_never.specs.declared.values.Target.TheVariants.{Unmapped, WordOf}
use Rattle.mk_never.specs.declared.values.Value.TheVariants.{Null as NullValue}
use Rattle.mk_core.specs.declared.events.{Answer.Answer, Event.Event, Step.Step}
use Rattle.mk_core.specs.{declared.seats.Stage.Stage, Calls.{at_rest, one_if, steps_of, is_same_stage, stage_refused}}
use Rattle.mk_core.specs.{Calls.{Decided, entry_of, q_of, i_of}, History.{Finding, in_this_call, left, calls}}
use Rattle.mk_core.specs.History.{call_decided, bases_of, answer_of}
use Rattle.mk_words.specs.{States.{IsPass, PassState, call_of, event_of}, Steps.FindsHeld}
use Rattle.mk_caller.specs.{States.{caller_of_pass, never_of, never_then, value_of}, declared.refusals.Refusal.Refusal}
use Rattle.mk_caller.specs.declared.refusals.Refusal.TheVariants.{Fault, Null, Held}

-- the step at a stage of a call
abbrev pub step_at : Stage → Step
step_at Stage.Probe = Step.Probe
step_at Stage.Read = Step.Read
step_at Stage.Write = Step.Write
step_at Stage.Cas = Step.Cas
step_at Stage.Getg = Step.Getg
step_at Stage.Setg = Step.Setg
step_at Stage.Dirty = Step.Dirty
step_at Stage.Leave = Step.Leave
step_at _ = Step.Reg

-- the stages up to this one, and with it
abbrev pub up_to : Stage → List Stage → List Stage
up_to s [] = []
up_to s (x ∷ xs) = x ∷ (if is_same_stage x s then [] else up_to s xs)

-- the stages after a refusal, from the first one on
abbrev pub refused_from : Stage → List Stage
refused_from Stage.Put = Stage.Put ∷ Stage.Leave ∷ []
refused_from _ = Stage.Leave ∷ []

-- the stages of a call that is answered so: Null comes at the load of q, and Fault at the probe
abbrev pub stages_made : Op → Answer → List Stage
stages_made o Answer.Null = up_to Stage.LoadQ (steps_of o) ++ refused_from (stage_refused o)
stages_made o Answer.Fault = up_to Stage.Probe (steps_of o) ++ refused_from (stage_refused o)
stages_made o _ = steps_of o

-- the steps of a call with this answer, from its `enter` on
abbrev pub steps_made : Op → Answer → List Step
steps_made o a = Step.Enter o ∷ map step_at (stages_made o a)

-- the steps of the pass's seat among the events that came after what it had seen
abbrev pub own_steps : PassState → List Event → List Step
own_steps p more = map (λ (x : Finding). x.event.step) (in_this_call p.table.config p.seat p.seen more)

-- the calls of its caller in a history
abbrev pub own_calls : PassState → List Event → List Decided
own_calls p es = filter (λ (x : Decided). x.caller == caller_of_pass p) (calls p.table.config es)

-- The event among these that decides the call. Its answer is the image of the reply of the heap that never reuses
-- storage, at its place. There the caller's registers have the values that they had before the call, and after the
-- call those that the operation leaves there.
pub record IsDecidedIn (p : PassState) (o : Op) (a : Answer) (more : List Event) : Type 0 where
  pub before : List Event
  pub event : Event
  pub behind : List Event
  pub is : more ≡ before ++ event ∷ behind
  pub decides : call_decided p.table.config (left p.table.config (p.seen ++ before)).now event
      ≡ entry_of (caller_of_pass p) o (Some a)
  pub reply : a ≡ answer_of (bases_of (left p.table.config (p.seen ++ before ++ event ∷ [])).allocations)
      (reply_of (never_then p before) (caller_of_pass p) o)
  pub known : KeepsRegisters (caller_of_pass p) (never_of p) (never_then p before)
  pub left_so : KeepsRegisters (caller_of_pass p) (after_op (never_then p before) (caller_of_pass p) o)
      (never_then p more)

-- The pass did this operation and was answered so. What it has seen begins with what it had seen. Its own steps since
-- are those of this call, in their order. Its caller has one entry more, and no call in flight. The pass is in order.
pub record Called (p : PassState) (o : Op) (a : Answer) (q : PassState) : Type 0 where
  pub more : List Event
  pub is : q ≡ record p { seen = p.seen ++ more }
  pub steps : own_steps p more ≡ steps_made o a
  pub entry : own_calls p (p.seen ++ more) ≡ own_calls p p.seen ++ entry_of (caller_of_pass p) o (Some a)
  pub decided : IsDecidedIn p o a more
  pub rest : call_of q ≡ at_rest
  pub pass : IsPass q

-- It was answered yes or no.
abbrev pub Says : PassState → Op → Bool → PassState → Type 0
Says p o said q = Called p o (Answer.Num (one_if said)) q

-- It was answered by a pointer, or null: which one says the reply of the heap that never reuses storage.
pub record IsAnswered (p : PassState) (o : Op) (q : PassState) : Type 0 where
  pub word : ℕ
  pub called : Called p o (Answer.Word word) q

-- The call has its probe here, where its access gets to this in the heap that never reuses storage: to a word, or to a
-- large allocation that is freed.
pub record Probes (p : PassState) (o : Op) (q : PassState) (t : Target) : Type 0 where
  pub before : List Event
  pub behind : List Event
  pub is : q.seen ≡ p.seen ++ before ++ event_of p Step.Probe ∷ behind
  pub gets_to : target_of (never_then p before) (value_of p (q_of o)) (i_of o) ≡ t

-- The call probed a word of an allocation.
pub record ProbesAWord (p : PassState) (o : Op) (q : PassState) : Type 0 where
  pub number : ℕ
  pub place : ℕ
  pub probes : Probes p o q (WordOf number place)

-- The call's own `enter` found its gate held, so there is no call: it has no entry, and its caller's registers are as
-- they were.
pub record FindsGateHeld (p : PassState) (o : Op) (q : PassState) : Type 0 where
  pub finds : FindsHeld p o q
  pub entries : own_calls p q.seen ≡ own_calls p p.seen
  pub registers : KeepsRegisters (caller_of_pass p) (never_of p) (never_of q)
  pub rest : call_of q ≡ at_rest
  pub pass : IsPass q

-- Each refusal has its cause: the register's allocation is large and was freed before the probe, the register is null,
-- or the gate was held.
abbrev pub IsRefused : PassState → Op → Refusal → PassState → Type 0
IsRefused p o Fault q = Called p o Answer.Fault q × Probes p o q Unmapped
IsRefused p o Null q = Called p o Answer.Null q × (value_of p (q_of o) ≡ NullValue)
IsRefused p o Held q = FindsGateHeld p o q

-- At the event that decides the call, its access gets to a word of an allocation, and the call says yes exactly where
-- that word and register e hold one value there. A pointer to what stood in the same storage before is another value.
pub record CallComparesValues (p : PassState) (x i e r : ℕ) (said : Bool) (q : PassState) : Type 0 where
  pub called : Says p (Op.CasPtr x i e r) said q
  pub number : ℕ
  pub place : ℕ
  pub gets_to : target_of (never_then p called.decided.before) (value_of p x) i ≡ WordOf number place
  pub compares : (said ≡ true) ↔ (word_at (never_then p called.decided.before) number place ≡ value_of p e)

-- the register that an operation sets
abbrev pub destination : Op → Option ℕ
destination (Op.New d ty full) = Some d
destination (Op.GetPtr d q i) = Some d
destination (Op.Lea d q i) = Some d
destination (Op.Move d q) = Some d
destination (Op.Clear d) = Some d
destination (Op.GetGlobal d g) = Some d
destination _ = None

-- A call leaves the registers that it doesn't set.
abbrev pub CallsLeaveOtherRegisters : Type 0
CallsLeaveOtherRegisters =
    (p : PassState) (o : Op) (a : Answer) (q : PassState) (r : ℕ) → Called p o a q → r < 8 → destination o ≢ Some r
    → value_of q r ≡ value_of p r
