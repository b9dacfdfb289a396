-- The law of an engine: what it makes of a cycle, what it leaves alone, and what all engines of a type are alike in.
use Rattle.std.specs.Prelude.{Bool, List, ◌≡◌, ℕ, true, false, ◌++◌}
use Rattle.mk_never.specs.declared.operations.Op.{Op}
use Rattle.mk_core.specs.declared.{config.Config.Config, events.{Event.Event, Seat.Seat}}
use Rattle.mk_core.specs.{History.World, declared.{events.Word.Word, seats.Flight.Flight}}
use Rattle.mk_core.specs.{declared.{seats.Stage.Stage, events.Step.Step}, Words.phase_of, Cycles.MarksAreClosed}
use Rattle.mk_words.specs.{States.{PassState, WordsState, world_of, now_of, call_of}, Below.Laws.Theorems.has_place}
use Rattle.mk_words.specs.Steps.{Does, count_done, IsEnabledTo, Makes}
use Rattle.mk_cycle.specs.{TurnKeeps.{is_want, LeavesTurn, IsGone, but_phase}, Tracing.is_tracing}

-- Whether a cycle that a free begins goes on after the call, and whether they make sweeping marks; what they do after a
-- `begin`; what a value says of the world in which it closed marks last, and what it did in that stop.
pub record Ways (V : Type 0) : Type 1 where
  pub on : Bool
  pub sweeps : Bool
  pub begins : Config → Seat → List Event → List Event → Type 0
  pub tells : V → Config → World → Type 0
  pub closes : V → PassState → PassState → Type 0

-- a Free that hasn't decided its answer yet
abbrev pub is_pending_free_at : Op → Stage → Bool
is_pending_free_at (Op.Free p) Stage.Give = false
is_pending_free_at (Op.Free p) _ = true
is_pending_free_at _ _ = false

-- the call is a Free that isn't decided
abbrev pub is_pending_free : Flight → Bool
is_pending_free f = is_pending_free_at f.op f.stage

-- The turn is for no undecided Free, no place of its New is under way, and the run that it freed is unmapped and wiped.
pub record IsFreeForCycle (p : PassState) : Type 0 where
  pub decided : is_pending_free (call_of p) ≡ false
  pub unplaced : has_place (now_of p).seats.holding.placing ≡ false
  pub gone : IsGone p

-- The phase is this number.
abbrev pub IsAtPhase : PassState → ℕ → Type 0
IsAtPhase p n = phase_of (now_of p).words ≡ n

-- The turn is on these words, free for a cycle, and at this phase.
pub record IsTurnAt (n : ℕ) (w : WordsState) (p : PassState) : Type 0 where
  pub one_table : p.table ≡ w
  pub free : IsFreeForCycle p
  pub phase : IsAtPhase p n

-- and the words have this many pages
pub record IsTurnAmong (n : ℕ) (w : WordsState) (p : PassState) (pages : ℕ) : Type 0 where
  pub is_turn : IsTurnAt n w p
  pub count : pages ≡ w.config.pages

-- Before all else that it does it wants the close.
pub record WantsFirst (p q : PassState) : Type 0 where
  pub wanted : PassState
  pub want : Makes p Step.Want wanted
  pub rest : List Event
  pub is : q.seen ≡ wanted.seen ++ rest

-- What it does in `close_marks`: it wants the close, first and once, and then it may close, with all marks closed.
pub record ClosesMarks (p q : PassState) : Type 0 where
  pub does : Does is_tracing p q
  pub wants : WantsFirst p q
  pub one_want : count_done is_want does ≡ 1
  pub keeps : LeavesTurn but_phase p q
  pub phase : IsAtPhase q 2
  pub close : IsEnabledTo q Step.Close
  pub closed : MarksAreClosed q.table.config (world_of q)

-- it is a register
abbrev pub is_register : Word → Bool
is_register (Word.Reg j r) = true
is_register _ = false
