-- What contracts see of a caller.
use Rattle.std.specs.{Prelude.{◌≡◌, ℕ, Bool, true, false, List, [], ◌++◌, Option, Some, None}, Coded.codes}
use Rattle.mk_never.specs.{declared.{operations.Op.Op, values.Value.Value}, NeverHeap.{NeverState, register_at}}
use Rattle.mk_never.specs.Admitted.{IsAdmitted}
use Rattle.mk_core.specs.{Accesses.caller_number, History.never_behind, Calls.at_rest, declared.events.Event.Event}
use Rattle.mk_core.specs.declared.events.Seat.TheVariants.{Caller}
use Rattle.mk_words.specs.{Laws.pass_prop, States.{WordsState, IsPass, PassState, call_of}}
use denote.Struct.Props.{props}

-- the caller whose pass it is
abbrev pub caller_of_pass : PassState → ℕ
caller_of_pass p = caller_number p.seat

-- the pass of a caller, and no call of it is in flight
pub record IsIdleCaller (p : PassState) : Type 0 where
  pub seat : p.seat ≡ Caller (caller_of_pass p)
  pub rest : call_of p ≡ at_rest

-- What holds of a caller's pass that is home.
pub record IsHomePass (p : PassState) : Type 0 where
  pub pass : IsPass p
  pub idle : IsIdleCaller p

-- Its pass, and whether that is home. Of a pass that was lent the table and the seat are known, and no event.
pub record CallerState : Type 0 where
  pub pass : PassState
  pub home : Bool
  pub in_order : home ≡ true → IsHomePass pass

-- The caller's pass is this one, and home,
pub record IsAtHome (s : CallerState) (p : PassState) : Type 0 where
  pub pass : s.pass ≡ p
  pub home : s.home ≡ true

-- or it was this one, and is lent.
pub record IsLent (s : CallerState) (p : PassState) : Type 0 where
  pub pass : s.pass ≡ record p { seats = []; seen = [] }
  pub away : s.home ≡ false

-- the heap that never reuses storage, after what the pass has seen
abbrev pub never_of : PassState → NeverState
never_of p = never_behind p.table.config p.seen

-- and after events that came since
abbrev pub never_then : PassState → List Event → NeverState
never_then p more = never_behind p.table.config (p.seen ++ more)

-- the value of one of the caller's registers after what the pass has seen
abbrev pub value_of : PassState → ℕ → Value
value_of p r = register_at (never_of p) (caller_of_pass p) r

-- The operation is admitted there: the type and the offset of the value in the register admit the access.
abbrev pub Admits : PassState → Op → Type 0
Admits p o = IsAdmitted p.table.config.globals (never_of p) (caller_of_pass p) o

-- The pass is that of this caller of these words.
abbrev pub IsPassOfCaller : WordsState → ℕ → PassState → Type 0
IsPassOfCaller w k p = (p.table ≡ w) × (k ≡ caller_of_pass p)

-- What a caller is made of: its words, its number, and its pass, if that is home. While it is away, the pass stands
-- there that has seen nothing.
abbrev pub pass_of : WordsState → ℕ → Option PassState → PassState
pass_of w k (Some p) = p
pass_of w k None = record { table = w; seat = Caller k; seats = []; seen = [] }

-- What holds of a pass that is home has one proof.
pub home_prop : {home : Bool} {p : PassState} → IsProp (home ≡ true → IsHomePass p)
home_prop = hlevel (codes, props, pass_prop)
