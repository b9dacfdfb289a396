-- What turn, gates and phase say of who holds what.
use Rattle.std.specs.Prelude.{◌≡◌, ◌≢◌, ◌↔◌, ℕ, ◌+◌, ◌/◌, ◌<◌, ◌≤◌, true, List, slice_index, count_by}
use Rattle.mk_core.specs.{declared.{config.Config.Config, events.Seat.Seat}, History.is_gate_held}
use Rattle.mk_core.specs.{declared.events.{Seat.TheVariants.Caller, Event.Event}, Words.phase_of}
use Rattle.mk_core.specs.{History.left, Moments.{Moment, flight_of}}
use Rattle.mk_core.specs.Readings.{Holds, NoneAttends, is_in, is_in_call, is_in_turn}

-- the turn word
pub record TurnTells (c : Config) (m : Moment) : Type 0 where
  pub least : m.words.turn ≤ 1 + c.callers
  pub caller : (k : ℕ) → k < c.callers → (m.words.turn ≡ 1 + k) ↔ (is_in_turn (flight_of m (Caller k)) ≡ true)
  pub nobody : (m.words.turn ≡ 0) ↔ ((s : Seat) → Holds c m s → ⊥)

-- a gate word
pub record GateTells (c : Config) (es : List Event) (k : ℕ) : Type 0 where
  pub least : slice_index (left c es).now.words.gates k ≤ 2
  pub in_call : (slice_index (left c es).now.words.gates k ≡ 1)
      ↔ (is_in_call (flight_of (left c es).now (Caller k)) ≡ true)
  pub held : (slice_index (left c es).now.words.gates k ≡ 2) ↔ (is_gate_held c k es ≡ true)
  pub by_another : slice_index (left c es).now.words.gates k ≡ 2
      → ((left c es).now.words.turn ≢ 0) × ((left c es).now.words.turn ≢ 1 + k)

-- the phase word
pub record PhaseTells (c : Config) (m : Moment) : Type 0 where
  pub low : phase_of m.words ≤ 5
  pub high : m.words.phase / 8 ≡ count_by is_in m.seats.markers
  pub none_in : m.words.phase / 8 ≡ 0 → NoneAttends m
  pub attends : phase_of m.words ≢ 1 → phase_of m.words ≢ 2 → NoneAttends m
  pub under_the_turn : 2 ≤ phase_of m.words → phase_of m.words ≤ 4 → m.words.turn ≢ 0
  pub stopped : phase_of m.words ≡ 3 → (k : ℕ) → k < c.callers → m.words.turn ≢ 1 + k → slice_index m.words.gates k ≡ 2

-- What turn, gates and phase say, after every enabled list within limits.
pub record WordsTellWhoHoldsWhat (c : Config) (es : List Event) : Type 0 where
  pub turn : TurnTells c (left c es).now
  pub gates : (k : ℕ) → k < c.callers → GateTells c es k
  pub phase : PhaseTells c (left c es).now
