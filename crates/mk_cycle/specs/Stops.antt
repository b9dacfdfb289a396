-- A stop: the gates of all other callers are held, no marker attends, and marks are closed. What an engine says of it.
use Rattle.std.specs.Prelude.{◌≡◌, Bool, true, false, Option, ◌==◌, ℕ, ◌<◌, ◌||◌, not, List, ◌∷◌, ◌++◌}
use Rattle.mk_core.specs.declared.events.{Seat.{Seat, TheVariants.Caller}, Word.Word}
use Rattle.mk_core.specs.declared.seats.{Flight.Flight, Hand.Hand, Stage.Stage}
use Rattle.mk_core.specs.{Words.{Words, phase_of}, Readings.NoneAttends, Moments.{is_held, is_number_of}}
use Rattle.mk_core.specs.{declared.{config.Config.Config, events.Event.Event}, History.{AreOfOthers, World}}
use Rattle.mk_core.specs.{History.{IsHistory, left}, declared.events.Step.Step}
use Rattle.mk_words.specs.States.{PassState, WordsState, now_of, call_of, TurnState, event_of}
use Rattle.mk_words.specs.{TurnSteps.{IsStopped, Acts}, Steps.Does, Sweeping.SweepsNothing}
use Rattle.mk_cycle.specs.{TurnKeeps.{holds_gates, LeavesTurn, unchanged}, FinishCycle.MakesRelease}

-- a stage at which a Free's register was loaded
abbrev pub is_loaded_at : Stage → Bool
is_loaded_at Stage.Turn = true
is_loaded_at Stage.Give = true
is_loaded_at _ = false

-- the seat is no caller, or its Free has loaded its register
abbrev pub is_loaded : Seat → Flight → Bool
is_loaded (Caller k) f = is_loaded_at f.stage
is_loaded _ f = true

-- The call of the turn's holder has loaded what it loads.
pub record HolderIsLoaded (p : PassState) : Type 0 where
  pub loaded : is_loaded p.seat (call_of p) ≡ true

-- The close is wanted while the gates of all others are held, and no marker attends, nor will one.
pub record IsWanted (p : PassState) : Type 0 where
  pub ready : HolderIsLoaded p
  pub gates : IsStopped p
  pub phase : phase_of (now_of p).words ≡ 2
  pub none : NoneAttends (now_of p)

-- Marks may be made with these words in such a stop of their table.
pub record MayTrace (words : WordsState) (p : PassState) : Type 0 where
  pub one_table : p.table ≡ words
  pub wanted : IsWanted p

-- a word at which a look gives no hand and decides nothing
abbrev pub is_page_word : Word → Bool
is_page_word (Word.Head p) = true
is_page_word (Word.Used p) = true
is_page_word (Word.Mark p) = true
is_page_word (Word.Black p) = true
is_page_word (Word.Dirty p) = true
is_page_word _ = false

-- any word but the phase, which markers count in
abbrev pub is_still_word : Word → Bool
is_still_word Word.Phase = false
is_still_word _ = true

-- a register, or a global
abbrev pub is_root : Word → Bool
is_root (Word.Reg j r) = true
is_root (Word.Global g) = true
is_root _ = false

-- The words, but for the phase: markers that come and find it wanted are counted there, and nothing else changes.
abbrev pub still_words : PassState → Words
still_words p = record (now_of p).words { phase = 0 }

-- what the turn's holder has in hand
abbrev pub hand_of : PassState → Option Hand
hand_of p = (now_of p).seats.holding.hand

-- The holder of the turn looked at gates, and tried to hold such ones as these.
pub data HoldsSuch (such : ℕ → Bool) (t : TurnState) : TurnState → Type 0 where
  none_yet : HoldsSuch such t t
  then_looks : {u v : TurnState} (j : ℕ) → HoldsSuch such t u → Acts u.pass (Step.Look (Word.Gate j)) v.pass
      → HoldsSuch such t v
  then_tries : {u v : TurnState} (j : ℕ) → such j ≡ true → HoldsSuch such t u → Acts u.pass (Step.Hold j) v.pass
      → HoldsSuch such t v

-- only this caller's gate
abbrev pub only_gate : ℕ → ℕ → Bool
only_gate caller j = j == caller

-- the gates of all others
abbrev pub all_others : Seat → ℕ → Bool
all_others s j = not (is_number_of s j)

-- On these words the pass stands so, and this gate is another caller's.
pub record IsForGate (at : PassState → Type 0) (w : WordsState) (p : PassState) (caller : ℕ) : Type 0 where
  pub one_table : p.table ≡ w
  pub ready : at p
  pub within : caller < w.config.callers
  pub another : is_number_of p.seat caller ≡ false

-- From one to the other gates were held: those that are held stay so.
pub record HoldsGates (p q : PassState) : Type 0 where
  pub does : Does holds_gates p q
  pub keeps : LeavesTurn unchanged p q
  pub held : (j : ℕ) → is_held (now_of p).words j ≡ true → is_held (now_of q).words j ≡ true

-- The gate is the holder's own, or held.
abbrev pub IsHeldOrOwn : PassState → ℕ → Type 0
IsHeldOrOwn p j = (is_number_of p.seat j || is_held (now_of p).words j) ≡ true

-- It is said of what the pass has seen, whatever others do before its next step.
abbrev pub IsToldOf : (Config → World → Type 0) → PassState → Type 0
IsToldOf tells p =
    (others : List Event) → AreOfOthers p.seats others → IsHistory p.table.config (p.seen ++ others)
    → tells p.table.config (left p.table.config (p.seen ++ others))

-- It is said of the world in which the pass closed the marks of a cycle, between the two passes.
pub record IsToldAtClose (tells : Config → World → Type 0) (p q : PassState) : Type 0 where
  pub before : List Event
  pub behind : List Event
  pub is : q.seen ≡ p.seen ++ before ++ event_of p Step.Close ∷ behind
  pub told : tells p.table.config (left p.table.config (p.seen ++ before))

-- Gates were held, then the engine did this until it may close, and then came the `close` and the `release`.
pub record IsClosedBy (closes : PassState → PassState → Type 0) (p q : PassState) : Type 0 where
  pub held : PassState
  pub released : PassState
  pub holds : HoldsGates p held
  pub makes : MakesRelease held released
  pub part : closes held makes.closing
  pub rest : List Event
  pub is : q.seen ≡ released.seen ++ rest

-- Whatever an engine promises of a stop holds of what was seen from the one to the other.
pub record ClosesAsPromised (sweeps : Bool) (tells : Config → World → Type 0) (closes : PassState → PassState → Type 0)
    (p q : PassState) : Type 0 where
  pub reached : sweeps ≡ false → SweepsNothing p q
  pub told : IsToldAtClose tells p q
  pub closed : IsClosedBy closes p q
