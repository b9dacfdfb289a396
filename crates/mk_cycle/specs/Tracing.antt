-- What the holder of the turn does that traces: steps of its own that keep to a rule, and all else left as it was.
use Rattle.std.specs.Prelude.{◌≡◌, ℕ, Bool, true, false, List, [], ◌∷◌, ⊤}
use Rattle.mk_core.specs.{declared.config.Config.Config, declared.events.Event.Event, declared.events.Seat.Seat}
use Rattle.mk_core.specs.{declared.events.Step.Step, declared.events.Word.Word, declared.seats.Flight.Flight}
use Rattle.mk_core.specs.{Frames.{CountsAreLeft, Steady, steady_of}, Moments.Moment, History.{World, is_same_seat}}
use Rattle.mk_core.specs.{History.world_behind, declared.seats.Holding.Holding}
use Rattle.mk_words.specs.{States.{PassState, world_of}, Steps.{Does, count_done}}
use Rattle.mk_cycle.specs.TurnKeeps.{but_phase, done_of}

-- steps that look, mark and blacken in a stop
abbrev pub is_marking : Step → Bool
is_marking (Step.Look x) = true
is_marking (Step.Mark p v) = true
is_marking (Step.Undirty p) = true
is_marking (Step.Black p v) = true
is_marking (Step.Unblack p) = true
is_marking _ = false

-- these, and the `want` before them: what an engine does up to a `close`
abbrev pub is_tracing : Step → Bool
is_tracing Step.Want = true
is_tracing s = is_marking s

-- the wish, and the looks at the phase until no marker is in
abbrev pub is_waiting : Step → Bool
is_waiting Step.Want = true
is_waiting (Step.Look Word.Phase) = true
is_waiting _ = false

-- what tracing in a stop leaves as it is: all but the phase, the mark, black and dirty words, the hand and the markers
pub record Untouched : Type 0 where
  pub steady : Steady
  pub gates : List ℕ
  pub registers : List ℕ
  pub globals : List ℕ
  pub heap : List ℕ
  pub flights : List Flight
  pub done : Holding

-- what it leaves of a world
abbrev pub untouched_of : World → Untouched
untouched_of w =
    record {
      steady = but_phase (steady_of w);
      gates = w.now.words.gates;
      registers = w.now.words.registers;
      globals = w.now.words.globals;
      heap = w.now.words.heap;
      flights = w.now.seats.flights;
      done = done_of w.now;
    }

-- Each step of a seat in a list keeps to a rule, at the moment at which it is made.
unfoldable pub OwnStepsKeep : (Config → Moment → Step → Type 0) → Config → Seat → World → List Event → Type 0
OwnStepsKeep rule c s w [] = ⊤
OwnStepsKeep rule c s w (e ∷ es) =
    (is_same_seat s e.seat ≡ true → rule c w.now e.step) × OwnStepsKeep rule c s (world_behind c w e) es

-- Since then the seat did only steps of these kinds, by the rule, and what tracing doesn't touch is as it was.
pub record Traces (kinds : Step → Bool) (rule : Config → Moment → Step → Type 0) (p q : PassState) : Type 0 where
  pub does : Does kinds p q
  pub keeps : OwnStepsKeep rule p.table.config p.seat (world_of p) does.more
  pub untouched : untouched_of (world_of q) ≡ untouched_of (world_of p)
  pub counts : CountsAreLeft p.table.config p.seen q.seen

-- It traces so, and this many of its steps are of this kind.
pub record Counted (kinds : Step → Bool) (rule : Config → Moment → Step → Type 0) (kind : Step → Bool)
    (p q : PassState) (n : ℕ) : Type 0 where
  pub traces : Traces kinds rule p q
  pub count : count_done kind traces.does ≡ n
