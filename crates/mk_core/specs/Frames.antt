-- The frame law: what the events of other seats leave to a seat, by what it is in the middle of.
use Rattle.std.specs.Prelude.{◌≡◌, ◌≢◌, ◌⊎◌, ℕ, ◌/◌, ◌<◌, ◌≤◌, true, false, List, [], ◌∷◌, ◌++◌, slice_index, Some}
use Rattle.mk_never.specs.{Laws.LeadsTo, NeverHeap.register_at}
use Rattle.mk_geom.specs.{declared.{pages.Page.Page, addresses.Cell.Cell}, Addresses.cell_at}
use Rattle.mk_geom.specs.Storages.{IsWordOf}
use Rattle.mk_core.specs.declared.{config.Config.Config, events.{Seat.Seat, Event.Event}}
use Rattle.mk_core.specs.{declared.seats.Flight.Flight, Words.has_bit, MarkingConditions.is_attending}
use Rattle.mk_core.specs.History.{AreOfOthers}
use Rattle.mk_core.specs.{declared.events.Seat.TheVariants.{Caller, Marker}, Counts.{ends, full_answers}}
use Rattle.mk_core.specs.{Words.{register_word, header_at, phase_of}, Cells.{header_in, is_unmapped_header}}
use Rattle.mk_core.specs.{Cells.points_well, Allocations.{PlacedAllocation, placed_at, is_mapped, storage_of}}
use Rattle.mk_core.specs.{History.{World, left, never_behind, IsHistory}, Readings.{is_in_call, Holds, is_in}}
use Rattle.mk_core.specs.{Readings.NoneAttends, Moments.{Moment, flight_of, marker_of, marker_at, others_are_held}}

-- The seat is a caller in a call that needs no turn.
abbrev pub IsInCall : Moment → Seat → Type 0
IsInCall m (Caller k) = is_in_call (flight_of m (Caller k)) ≡ true
IsInCall m _ = ⊥

-- The seat is a marker that attends.
abbrev pub Attends : Moment → Seat → Type 0
Attends m (Marker k) = is_attending (marker_of m k).presence ≡ true
Attends m _ = ⊥

-- The seat is a marker that is in.
abbrev pub IsIn : Moment → Seat → Type 0
IsIn m (Marker k) = is_in (marker_of m k) ≡ true
IsIn m _ = ⊥

-- It holds the turn, and all gates but its own.
abbrev pub HoldsAll : Config → Moment → Seat → Type 0
HoldsAll c m s = Holds c m s × (others_are_held c.callers m.words s ≡ true)

-- No bit of these words is cleared.
abbrev pub OnlyGrow : List ℕ → List ℕ → Type 0
OnlyGrow before after = (p k : ℕ) → has_bit (slice_index before p) k ≡ true → has_bit (slice_index after p) k ≡ true

-- Every seat keeps its call, what it is at as a marker, and its registers; and what it has done in its turn.
pub record OwnIsLeft (c : Config) (s : Seat) (w v : World) : Type 0 where
  pub flight : flight_of v.now s ≡ flight_of w.now s
  pub marker : marker_at v.now s ≡ marker_at w.now s
  pub registers : (k r : ℕ) → s ≡ Caller k → r < 8 → register_word v.now.words k r ≡ register_word w.now.words k r
  pub holding : Holds c w.now s → Holds c v.now s × (v.now.seats.holding ≡ w.now.seats.holding)

-- A caller in a call outside the turn keeps its gate, and no page becomes unmapped.
pub record CallIsLeft (w v : World) (k : ℕ) : Type 0 where
  pub gate : slice_index v.now.words.gates k ≡ 1
  pub mapped :
      (p : ℕ) → is_unmapped_header (header_in w.now.words p) ≡ false
      → is_unmapped_header (header_in v.now.words p) ≡ false

-- what none but the turn's holder changes
pub record Steady : Type 0 where
  pub turn : ℕ
  pub phase : ℕ
  pub held : ℕ
  pub fresh : ℕ
  pub cycles : ℕ
  pub released : ℕ
  pub full : ℕ
  pub pages : List Page
  pub freed : List ℕ
  pub snapshot : List ℕ
  pub fresh_words : ℕ
  pub allocations : List PlacedAllocation

-- what only the turn's holder changes
abbrev pub steady_of : World → Steady
steady_of w =
    record {
      turn = w.now.words.turn;
      phase = phase_of w.now.words;
      held = w.now.words.held;
      fresh = w.now.words.fresh;
      cycles = w.now.words.cycles;
      released = w.now.words.released;
      full = w.now.words.full;
      pages = w.now.words.pages;
      freed = w.now.words.freed;
      snapshot = w.now.words.snapshot;
      fresh_words = w.now.fresh_words;
      allocations = w.allocations;
    }

-- what callers change in their calls
pub record Written : Type 0 where
  pub gates : List ℕ
  pub flights : List Flight
  pub registers : List ℕ
  pub globals : List ℕ
  pub dirty : List ℕ
  pub heap : List ℕ

-- what callers write
abbrev pub written_of : World → Written
written_of w =
    record {
      gates = w.now.words.gates;
      flights = w.now.seats.flights;
      registers = w.now.words.registers;
      globals = w.now.words.globals;
      dirty = w.now.words.dirty;
      heap = w.now.words.heap;
    }

-- The turn's holder finds all that is its own as it left it, and what others may change as it may have changed.
pub record TurnIsLeft (w v : World) : Type 0 where
  pub steady : steady_of v ≡ steady_of w
  pub held_gates : (j : ℕ) → slice_index w.now.words.gates j ≡ 2 → slice_index v.now.words.gates j ≡ 2
  pub other_gates : (j : ℕ) → slice_index w.now.words.gates j ≢ 2 → slice_index v.now.words.gates j ≢ 2
  pub held_callers : (j : ℕ) → slice_index w.now.words.gates j ≡ 2
      → flight_of v.now (Caller j) ≡ flight_of w.now (Caller j)
  pub held_registers :
      (j r : ℕ) → r < 8 → slice_index w.now.words.gates j ≡ 2
      → register_word v.now.words j r ≡ register_word w.now.words j r
  pub marks_grow : OnlyGrow w.now.words.marks v.now.words.marks
  pub blacks_grow : OnlyGrow w.now.words.blacks v.now.words.blacks
  pub unmarked : phase_of w.now.words ≢ 1 → phase_of w.now.words ≢ 2
      → (v.now.words.marks ≡ w.now.words.marks) × (v.now.words.blacks ≡ w.now.words.blacks)
  pub stopped : phase_of w.now.words ≡ 2 → NoneAttends w.now
      → NoneAttends v.now × (v.now.words.marks ≡ w.now.words.marks) × (v.now.words.blacks ≡ w.now.words.blacks)
  pub dirty : (p : ℕ) → slice_index w.now.words.dirty p ≢ 0 → slice_index v.now.words.dirty p ≢ 0

-- The counts of events that only the holder makes are as they were.
pub record CountsAreLeft (c : Config) (es fs : List Event) : Type 0 where
  pub ends : ends fs ≡ ends es
  pub fulls : full_answers c fs ≡ full_answers c es

-- A marker that attends finds the phase marking or wanted, and nothing of marks and headers taken back.
pub record ScanIsLeft (w v : World) : Type 0 where
  pub phase : (phase_of v.now.words ≡ 1) ⊎ (phase_of v.now.words ≡ 2)
  pub marks : OnlyGrow w.now.words.marks v.now.words.marks
  pub blacks : OnlyGrow w.now.words.blacks v.now.words.blacks

-- The frame law of lists of which no more is asked than that they are enabled.
pub record IsLeft (c : Config) (s : Seat) (es fs : List Event) : Type 0 where
  pub own : OwnIsLeft c s (left c es) (left c fs)
  pub in_call : (k : ℕ) → s ≡ Caller k → IsInCall (left c es).now s → CallIsLeft (left c es) (left c fs) k
  pub turn : Holds c (left c es).now s → TurnIsLeft (left c es) (left c fs) × CountsAreLeft c es fs
  pub stop : HoldsAll c (left c es).now s → written_of (left c fs) ≡ written_of (left c es)
  pub scan : Attends (left c es).now s → ScanIsLeft (left c es) (left c fs)
  pub visit : IsIn (left c es).now s → 1 ≤ (left c fs).now.words.phase / 8

-- What also needs admitted calls. The allocations to which a caller's registers lead stay unreleased while it is in a
-- call, and mapped if they are.
pub record TargetsAreLeft (c : Config) (es fs : List Event) (k : ℕ) : Type 0 where
  pub unreleased : (r a : ℕ) → r < 8 → LeadsTo (register_at (never_behind c es) k r) a
      → (placed_at (left c fs).allocations a).released ≡ false
  pub mapped : (r a : ℕ) → r < 8 → LeadsTo (register_at (never_behind c es) k r) a
      → is_mapped c (placed_at (left c es).allocations a) ≡ true
      → is_mapped c (placed_at (left c fs).allocations a) ≡ true

-- The turn's holder finds the heap words that lie in no mapped allocation as they were, and what points well still
-- does.
pub record HeapIsLeft (c : Config) (w v : World) : Type 0 where
  pub outside : (n : ℕ)
      → ((i : ℕ) → is_mapped c (placed_at w.allocations i) ≡ true
      → IsWordOf (storage_of c (placed_at w.allocations i)) n → ⊥)
      → slice_index v.now.words.heap n ≡ slice_index w.now.words.heap n
  pub well : (phase_of w.now.words ≡ 1) ⊎ (phase_of w.now.words ≡ 2) → (u : ℕ)
      → points_well c.pages w.now.words u ≡ true → points_well c.pages v.now.words u ≡ true

-- A marker that attends finds no page freed, each header that shows a cell still shows it, and what points well still
-- does.
pub record HeadersAreLeft (c : Config) (w v : World) : Type 0 where
  pub some : (p : ℕ) → header_at w.now.words p ≢ 0 → header_at v.now.words p ≢ 0
  pub cells : (p u : ℕ) (cell : Cell) → cell_at c.pages (header_at w.now.words p) u ≡ Some cell
      → cell_at c.pages (header_at v.now.words p) u ≡ Some cell
  pub well : (u : ℕ) → points_well c.pages w.now.words u ≡ true → points_well c.pages v.now.words u ≡ true

-- Every caller keeps the values of its registers, whatever it is in the middle of; and the turn's holder finds those of
-- a caller whose gate is held as they were.
pub record IsLeftByAdmitted (c : Config) (s : Seat) (es fs : List Event) : Type 0 where
  pub registers : (k r : ℕ) → s ≡ Caller k → r < 8
      → register_at (never_behind c fs) k r ≡ register_at (never_behind c es) k r
  pub in_call : (k : ℕ) → s ≡ Caller k → IsInCall (left c es).now s → TargetsAreLeft c es fs k
  pub turn : Holds c (left c es).now s → HeapIsLeft c (left c es) (left c fs)
  pub held : Holds c (left c es).now s → (k r : ℕ) → r < 8 → slice_index (left c es).now.words.gates k ≡ 2
      → register_at (never_behind c fs) k r ≡ register_at (never_behind c es) k r
  pub stop : HoldsAll c (left c es).now s → never_behind c fs ≡ never_behind c es
  pub scan : Attends (left c es).now s → HeadersAreLeft c (left c es) (left c fs)

-- What they leave besides, in each history.
abbrev pub AdmittedOthersLeave : Type 0
AdmittedOthersLeave =
    (c : Config) (es more : List Event) (s : Seat) → IsHistory c (es ++ more) → AreOfOthers (s ∷ []) more
    → IsLeftByAdmitted c s es (es ++ more)
