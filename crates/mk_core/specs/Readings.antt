-- What a look at a word of the table says: the reading laws.
use Rattle.std.specs.Prelude.{◌≡◌, ◌≢◌, ℕ, ◌+◌, ◌-◌, ◌<◌, ◌≤◌, Bool, true, false, not, ◌&&◌, ◌||◌, List, Some}
use Rattle.std.specs.List.{list_any}
use Rattle.mk_geom.specs.{declared.headers.Header.TheVariants.Later, Addresses.IsHeaderWord}
use Rattle.mk_geom.specs.declared.addresses.Cell.{Cell}
use Rattle.mk_core.specs.{declared.{config.Config.Config, events.Seat.Seat}, Counts.{IsTidy, TalliesAreExact}}
use Rattle.mk_core.specs.{Counts.TalliesAreTidy, declared.events.Seat.TheVariants.{Caller, Marker, Host}}
use Rattle.mk_core.specs.declared.{events.Event.Event, seats.{Stage.Stage, Flight.Flight}}
use Rattle.mk_core.specs.{declared.seats.RunPages.RunPages, Words.{header_at, phase_of}, Calls.is_under_turn}
use Rattle.mk_core.specs.Cells.{header_in, cells_under, run_headed, is_freed, is_in_snapshot}
use Rattle.mk_core.specs.{Moments.{Moment, flight_of, marker_of}, MarkingConditions.is_attending}
use Rattle.mk_core.specs.MarkingConditions.{is_out}
use Rattle.mk_core.specs.{Allocations.{placed_at, stands_in, cell_of_allocation}, History.{World, left}}
use Rattle.mk_core.specs.Cycles.{is_begin, is_release, At, is_quarantined}
use Rattle.mk_core.specs.declared.seats.Marker.{Marker as MarkerState}

-- between two calls
abbrev pub is_idle : Stage → Bool
is_idle Stage.Idle = true
is_idle _ = false

-- in a call that needs no turn, between `enter` and `leave`
abbrev pub is_in_call : Flight → Bool
is_in_call f = not (is_idle f.stage) && not (is_under_turn f.op)

-- in a New or a Free, between `take` and `give`
abbrev pub is_in_turn : Flight → Bool
is_in_turn f = not (is_idle f.stage) && is_under_turn f.op

-- The seat holds the turn: a caller in a New or a Free, and the host if no caller does and the turn word isn't 0.
abbrev pub Holds : Config → Moment → Seat → Type 0
Holds c m (Caller k) = (k < c.callers) × (is_in_turn (flight_of m (Caller k)) ≡ true)
Holds c m (Marker k) = ⊥
Holds c m Host = m.words.turn ≡ 1 + c.callers

-- the marker is in
abbrev pub is_in : MarkerState → Bool
is_in x = not (is_out x.presence)

-- No marker attends.
abbrev pub NoneAttends : Moment → Type 0
NoneAttends m = (k : ℕ) → is_attending (marker_of m k).presence ≡ false

-- The cell is one of its page's, and an unreleased allocation stands in it.
pub record IsTaken (w : World) (cell : Cell) : Type 0 where
  pub number : ℕ
  pub in_range : cell.index < cells_under (header_in w.now.words cell.page)
  pub stands : stands_in w.now.words cell (placed_at w.allocations number) ≡ true

-- What headers and quarantine words tell besides, after every history: a header word is one, and outside the phase of
-- releasing a later page has its head, and a freed bit is that of an allocation that is freed, and each such has one.
pub record WordsTellWhatStands (w : World) : Type 0 where
  pub headers : (p : ℕ) → IsHeaderWord (header_at w.now.words p)
  pub later : phase_of w.now.words ≢ 4 → (p distance : ℕ) (mapped : Bool)
      → header_in w.now.words p ≡ Some (Later distance mapped)
      → (run : RunPages) × (run_headed (header_in w.now.words (p - distance)) (p - distance) ≡ Some run)
      × (distance < run.count) × (distance ≤ p)
  pub freed : phase_of w.now.words ≢ 4 → (cell : Cell) → is_freed w.now.words cell ≡ true
      → (a : IsTaken w cell) × ((placed_at w.allocations a.number).freed ≡ true)
  pub quarantined : (cell : Cell) (a : IsTaken w cell) → (placed_at w.allocations a.number).freed ≡ true
      → is_freed w.now.words cell ≡ true

-- What the snapshot halves of the quarantine words tell from a `begin` on, up to the next `release`: the snapshot.
pub record SnapshotTells (c : Config) {es : List Event} (begin : At is_begin es) : Type 0 where
  pub has : (i : ℕ) → is_quarantined (placed_at (left c begin.before).allocations i) ≡ true
      → is_in_snapshot (left c es).now.words (cell_of_allocation c (placed_at (left c begin.before).allocations i))
      ≡ true
  pub is : (cell : Cell) → is_in_snapshot (left c es).now.words cell ≡ true
      → (i : ℕ) × (is_quarantined (placed_at (left c begin.before).allocations i) ≡ true)
      × (cell_of_allocation c (placed_at (left c begin.before).allocations i) ≡ cell)

-- Until a `release` each snapshot is what was freed at the last `begin`.
abbrev pub SnapshotsTell : Config → List Event → Type 0
SnapshotsTell c es =
    (begin : At is_begin es) → list_any (λ (e : Event). is_begin e.step || is_release e.step) begin.behind ≡ false
    → SnapshotTells c begin

-- What the tallies tell while nobody holds the turn: the counts.
abbrev pub TalliesTell : Config → List Event → Type 0
TalliesTell c es = (left c es).now.words.turn ≡ 0 → TalliesAreExact c es × (IsTidy c es → TalliesAreTidy c es)
