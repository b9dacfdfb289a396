-- A call on its way, from one of its steps to the next.
use Rattle.std.specs.Prelude.{◌≡◌, ℕ, ◌<◌, Bool, true, false, List, [], ◌∷◌, ◌++◌, map, Option, Some, None}
use Rattle.std.specs.List.{list_any}
use Rattle.mk_never.specs.{declared.operations.Op.Op, Laws.KeepsRegisters}
use Rattle.mk_core.specs.{declared.events.{Answer.Answer, Event.Event}, Conditions.is_word_met}
use Rattle.mk_core.specs.declared.events.{Seat.TheVariants.Caller, Step.Step}
use Rattle.mk_core.specs.declared.seats.{Stage.Stage, Flight.Flight, Progress.Progress}
use Rattle.mk_core.specs.Calls.{at_rest, begun, entry_of, onward, is_same_stage, is_under_turn, stage_refused}
use Rattle.mk_words.specs.States.{PassState, IsPass, call_of}
use Rattle.mk_caller.specs.{States.{caller_of_pass, never_of, never_then, Admits}, Called.{own_calls, own_steps}}
use Rattle.mk_caller.specs.Called.{step_at, refused_from, IsDecidedIn}

-- whether a stage is one of these
abbrev pub is_stage_of : List Stage → Stage → Bool
is_stage_of stages s = list_any (is_same_stage s) stages

-- what is after the deciding step
abbrev pub is_past_decision : Stage → Bool
is_past_decision s = is_stage_of (Stage.Put ∷ Stage.Dirty ∷ Stage.Leave ∷ Stage.Idle ∷ []) s

-- a stage at which a register is loaded
abbrev pub loads_register : Stage → Bool
loads_register s = is_stage_of (Stage.LoadQ ∷ Stage.LoadP ∷ Stage.LoadR ∷ []) s

-- or stored
abbrev pub stores_register : Stage → Bool
stores_register s = is_stage_of (Stage.Store ∷ Stage.Put ∷ []) s

-- the operations that access through q
abbrev pub is_access : Op → Bool
is_access (Op.GetNum q i) = true
is_access (Op.SetNum q i n) = true
is_access (Op.GetPtr d q i) = true
is_access (Op.SetPtr q i p) = true
is_access (Op.CasPtr q i p r) = true
is_access (Op.Lea d q i) = true
is_access _ = false

-- A caller whose pass may begin a call of the operation.
pub record MayBeginCall (p : PassState) (o : Op) : Type 0 where
  pub caller : ℕ
  pub seat : p.seat ≡ Caller caller
  pub rest : call_of p ≡ at_rest
  pub entered : is_under_turn o ≡ false
  pub admits : Admits p o

-- The pass is in a call between `enter` and `leave`, and may make the next step.
pub record IsUnderway (p : PassState) : Type 0 where
  pub pass : IsPass p
  pub caller : ℕ
  pub seat : p.seat ≡ Caller caller
  pub exists : caller < p.table.config.callers
  pub entered : is_under_turn (call_of p).op ≡ false
  pub admits : is_past_decision (call_of p).stage ≡ false → Admits p (call_of p).op
  pub page : (call_of p).stage ≡ Stage.Dirty → is_word_met p.table.config (call_of p) ≡ true

-- The call was decided with this answer among these events; if there is none, it left the registers as they were.
abbrev pub IsDecidedAs : PassState → Op → Option Answer → List Event → Type 0
IsDecidedAs p o None more = KeepsRegisters (caller_of_pass p) (never_of p) (never_then p more)
IsDecidedAs p o (Some a) more = IsDecidedIn p o a more

-- The pass made these steps of a call of the operation, which decided this answer or none.
pub record MakesSteps (p : PassState) (o : Op) (ss : List Step) (a : Option Answer) (q : PassState) : Type 0 where
  pub more : List Event
  pub is : q ≡ record p { seen = p.seen ++ more }
  pub steps : own_steps p more ≡ ss
  pub entry : own_calls p (p.seen ++ more) ≡ own_calls p p.seen ++ entry_of (caller_of_pass p) o a
  pub decided : IsDecidedAs p o a more

-- It made these steps of a call, which decided this answer or none, and its call is this one then.
pub record IsAtFlight (p : PassState) (o : Op) (ss : List Step) (a : Option Answer) (f : Flight) (q : PassState) :
    Type 0 where
  pub makes : MakesSteps p o ss a q
  pub call : call_of q ≡ f
  pub underway : IsUnderway q

-- It made one step, and its call went on so.
abbrev pub CallMoves : PassState → Op → Step → Progress → PassState → Type 0
CallMoves p o s x q = IsAtFlight p o (s ∷ []) x.answer x.flight q

-- The pass made a step of the call in flight, which went on so.
abbrev pub CallGoesOn : PassState → Step → (Flight → Progress) → PassState → Type 0
CallGoesOn p s on q = CallMoves p (call_of p).op s (on (call_of p)) q

-- It made the last steps of the call in flight, which decided this answer or none.
abbrev pub Ends : PassState → List Step → Option Answer → PassState → Type 0
Ends p ss a q = IsAtFlight p (call_of p).op ss a at_rest q

-- The steps of a call that are left after a refusal: up to its end.
abbrev pub refused_steps : Op → List Step
refused_steps o = map step_at (refused_from (stage_refused o))

-- the call after the load of q
abbrev pub behind_q : Op → ℕ → Flight
behind_q o u = (onward (record (begun o) { q = u }) None).flight
