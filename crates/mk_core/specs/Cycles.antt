-- Cycles and turns as parts of a list of events (Ainsworth and Jones, "MarkUs", 2020: a marking pass over a snapshot of
-- the quarantine).
use Rattle.std.specs.Prelude.{◌≡◌, ℕ, Bool, true, false, ◌&&◌, not, List, [], ◌∷◌, ◌++◌, Option, ⊤, IsTrue, slice_index}
use Rattle.std.specs.{Prelude.{slice_index_or, ◌⊎◌, ◌+◌, ◌*◌, ◌/◌, ◌<◌}, List.list_any}
use Rattle.mk_never.specs.declared.{operations.Op.Op, values.Value.TheVariants.Null}
use Rattle.mk_geom.specs.{Storages.{IsWordOf, PointsInto}, Addresses.address_of}
use Rattle.mk_core.specs.declared.{config.Config.Config, events.{Seat.Seat, Step.Step}}
use Rattle.mk_core.specs.declared.{events.Event.Event, seats.{Flight.Flight, Source.Source}}
use Rattle.mk_core.specs.declared.seats.{Source.TheVariants.Unmarked, Hand.Hand}
use Rattle.mk_core.specs.{Words.{is_some_and, has_bit, Words}, Moments.{Moment, flight_of, is_phase}}
use Rattle.mk_core.specs.{NewPlaces.object_made, TurnConditions.place_now, MarkingConditions.marks_place}
use Rattle.mk_core.specs.Allocations.{PlacedAllocation, placed_at, storage_of, is_mapped}
use Rattle.mk_core.specs.History.{World, world_behind, left, is_same_seat, image_of, never_behind, bases_of}
use Rattle.mk_core.specs.{declared.events.Seat.TheVariants.Caller, Calls.page_met, Cells.{header_in, cells_under}}
use Rattle.mk_core.specs.Cells.{words_under, has_no_pointers, pointed_cell, is_marked, points_well, word_points_well}
use Rattle.mk_core.specs.declared.seats.Stage.{Stage}

-- it is a `begin`
abbrev pub is_begin : Step → Bool
is_begin Step.Begin = true
is_begin _ = false

-- it is a `close`
abbrev pub is_close : Step → Bool
is_close Step.Close = true
is_close _ = false

-- it is a `release`
abbrev pub is_release : Step → Bool
is_release Step.Release = true
is_release _ = false

-- it is an `end`
abbrev pub is_end : Step → Bool
is_end Step.End = true
is_end _ = false

-- it is a `give`
abbrev pub is_give : Step → Bool
is_give Step.Give = true
is_give _ = false

-- An event of a kind in a list: what stands before it, the event, and what stands after it.
pub record At (kind : Step → Bool) (es : List Event) : Type 0 where
  pub before : List Event
  pub event : Event
  pub behind : List Event
  pub is : es ≡ before ++ event ∷ behind
  pub of_kind : kind event.step ≡ true

-- the next one: none of its kind stands before it
pub record Next (kind : Step → Bool) (es : List Event) : Type 0 where
  pub at : At kind es
  pub none_before : list_any (λ (e : Event). kind e.step) at.before ≡ false

-- The marking of a cycle: from a `begin` to the next `close` after it.
pub record Marking (es : List Event) : Type 0 where
  pub begin : At is_begin es
  pub close : Next is_close begin.behind

-- with the next `release`
pub record Releasing (es : List Event) : Type 0 where
  pub marking : Marking es
  pub release : Next is_release marking.close.at.behind

-- A cycle, with the next `end`.
pub record Cycle (es : List Event) : Type 0 where
  pub releasing : Releasing es
  pub end : Next is_end releasing.release.at.behind

-- the events before an event of these, from the first of all on
abbrev pub through : {kind : Step → Bool} {es : List Event} → At kind es → List Event
through at = at.before ++ at.event ∷ []

-- the events before the cycle's `begin`
abbrev pub before_begin : {es : List Event} → Marking es → List Event
before_begin k = k.begin.before

-- those before its `close`
abbrev pub before_close : {es : List Event} → Marking es → List Event
before_close k = through k.begin ++ k.close.at.before

-- those before its `release`
abbrev pub before_release : {es : List Event} → Releasing es → List Event
before_release k = before_close k.marking ++ k.marking.close.at.event ∷ k.release.at.before

-- those before its `end`
abbrev pub before_end : {es : List Event} → Cycle es → List Event
before_end k = before_release k.releasing ++ k.releasing.release.at.event ∷ k.end.at.before

-- The snapshot of a cycle: the allocations that are freed and unreleased before its `begin`.
abbrev pub is_quarantined : PlacedAllocation → Bool
is_quarantined a = a.freed && not a.released

-- Allocation i was in quarantine when the cycle began.
abbrev pub IsInSnapshot : Config → {es : List Event} → Marking es → ℕ → Type 0
IsInSnapshot c k i = is_quarantined (placed_at (left c (before_begin k)).allocations i) ≡ true

-- After the list a seat is in a turn: it took the turn, for this operation, and hasn't given it back.
pub record TurnOf (c : Config) (s : Seat) (es : List Event) : Type 0 where
  pub before : List Event
  pub op : Option Op
  pub behind : List Event
  pub is : es ≡ before ++ record { seat = s; step = Step.Take op } ∷ behind
  pub took : (left c before).now.words.turn ≡ 0
  pub goes_on : list_any (λ (e : Event). is_same_seat s e.seat && is_give e.step) behind ≡ false

-- A cycle is begun in a call if its `begin` comes after the call's `take`, and ended in it likewise.
abbrev pub BeginsIn : {c : Config} {s : Seat} {es : List Event} → TurnOf c s es → Type 0
BeginsIn t = At is_begin t.behind

-- A whole cycle is in this turn.
abbrev pub BeginsAndEndsIn : {c : Config} {s : Seat} {es : List Event} → TurnOf c s es → Type 0
BeginsAndEndsIn t = Cycle t.behind

-- A sweeping mark: by a word of a cell that wasn't marked when it was looked at, and not for the place of a New.
abbrev pub is_unmarked : Source → Bool
is_unmarked Unmarked = true
is_unmarked _ = false

-- a step that marks from a word of an unmarked cell
abbrev pub sweeps : Config → Moment → Flight → Step → Bool
sweeps c m f (Step.Mark p v) =
    is_some_and (λ (hand : Hand). is_unmarked hand.source) m.seats.holding.hand
    && not (marks_place m.words (object_made c f.op) (place_now c m f) p v)
sweeps c m f _ = false

-- No event of the list sweeps.
unfoldable pub NoneSweepsFrom : Config → World → List Event → Type 0
NoneSweepsFrom c w [] = ⊤
NoneSweepsFrom c w (e ∷ es) = (sweeps c w.now (flight_of w.now e.seat) e.step ≡ false)
    × NoneSweepsFrom c (world_behind c w e) es

-- The cycle has no sweeping mark.
abbrev pub NoneSweeps : Config → {es : List Event} → Marking es → Type 0
NoneSweeps c k = NoneSweepsFrom c (left c (through k.begin)) k.close.at.before

-- The list leads to a moment of the cycle, from after its `begin` up to before its `close`.
pub record LeadsToMoment {es : List Event} (k : Marking es) (front : List Event) : Type 0 where
  pub done : List Event
  pub to_come : List Event
  pub of_the_cycle : k.close.at.before ≡ done ++ to_come
  pub is : front ≡ through k.begin ++ done

-- The value points into the storage of this allocation, which is unreleased there.
abbrev pub PointsIntoAllocation : Config → World → ℕ → ℕ → Type 0
PointsIntoAllocation c w value b =
    ((placed_at w.allocations b).released ≡ false) × PointsInto value (storage_of c (placed_at w.allocations b))

-- The heap word is in the storage of this unreleased allocation, which isn't leaf.
abbrev pub IsWordOfAllocation : Config → World → ℕ → ℕ → Type 0
IsWordOfAllocation c w n a =
    ((placed_at w.allocations a).released ≡ false) × ((storage_of c (placed_at w.allocations a)).leaf ≡ false)
    × IsWordOf (storage_of c (placed_at w.allocations a)) n

-- Register i of the heap that never reuses storage points into allocation b after these events.
abbrev pub RegisterPointsInto : Config → List Event → ℕ → ℕ → Type 0
RegisterPointsInto c front i b =
    PointsIntoAllocation c (left c front)
    (image_of (bases_of (left c front).allocations) (slice_index_or (never_behind c front).registers i Null)) b

-- Global g points into allocation b.
abbrev pub GlobalPointsInto : Config → List Event → ℕ → ℕ → Type 0
GlobalPointsInto c front g b = PointsIntoAllocation c (left c front) (slice_index (left c front).now.words.globals g) b

-- Heap word n points into allocation b.
abbrev pub WordPointsInto : Config → List Event → ℕ → ℕ → Type 0
WordPointsInto c front n b = PointsIntoAllocation c (left c front) (slice_index (left c front).now.words.heap n) b

-- The least set of allocations into which, at some moment of the cycle, a register of the never-reusing heap points, or
-- a global, or a word of an allocation of the set, whether that was touched before or later.
pub data IsTouched (c : Config) {es : List Event} (k : Marking es) : ℕ → Type 0 where
  by_register : (front : List Event) (i b : ℕ) → LeadsToMoment k front
      → RegisterPointsInto c front i b
      → IsTouched c k b
  by_global : (front : List Event) (g b : ℕ) → LeadsToMoment k front → GlobalPointsInto c front g b → IsTouched c k b
  by_word : (front : List Event) (a n b : ℕ) → LeadsToMoment k front → IsTouched c k a
      → IsWordOfAllocation c (left c front) n a
      → WordPointsInto c front n b → IsTouched c k b

-- The set has what a register or a global points into at a moment of the cycle, and what a word of a member does.
pub record IsClosedAlong (c : Config) {es : List Event} (k : Marking es) (S : ℕ → Type 0) : Type 0 where
  pub registers : (front : List Event) (i b : ℕ) → LeadsToMoment k front → RegisterPointsInto c front i b → S b
  pub globals : (front : List Event) (g b : ℕ) → LeadsToMoment k front → GlobalPointsInto c front g b → S b
  pub words : (front : List Event) (a n b : ℕ) → LeadsToMoment k front → S a
      → IsWordOfAllocation c (left c front) n a
      → WordPointsInto c front n b → S b

-- What is touched is closed so.
abbrev pub TouchedIsClosed : Config → {es : List Event} → Marking es → Type 0
TouchedIsClosed c k = IsClosedAlong c k (IsTouched c k)

-- A set that is closed so has all that is touched.
abbrev pub TouchedIsLeast : Config → {es : List Event} → Marking es → (ℕ → Bool) → Type 0
TouchedIsLeast c k S = IsClosedAlong c k (λ b. IsTrue (S b)) → (b : ℕ) → IsTouched c k b → IsTrue (S b)

-- Closed marks, and what guards them while callers write: the mostly parallel marking of Boehm, Demers and Shenker
-- (1991).

-- the cell at the allocation's first word is marked
abbrev pub is_marked_allocation : Config → Words → PlacedAllocation → Bool
is_marked_allocation c w a = is_some_and (is_marked w) (pointed_cell c.pages w.pages (address_of a.base))

-- The words of a mapped allocation that isn't leaf are scanned.
abbrev pub is_scanned_allocation : Config → PlacedAllocation → Bool
is_scanned_allocation c a = is_mapped c a && not (storage_of c a).leaf

-- Every word in a register, a global or the storage of a marked mapped allocation that isn't leaf points into nothing
-- or into a marked cell.
pub record MarksAreClosed (c : Config) (w : World) : Type 0 where
  pub registers : (i : ℕ) → points_well c.pages w.now.words (slice_index w.now.words.registers i) ≡ true
  pub globals : (g : ℕ) → points_well c.pages w.now.words (slice_index w.now.words.globals g) ≡ true
  pub words : (i n : ℕ) → is_scanned_allocation c (placed_at w.allocations i) ≡ true
      → is_marked_allocation c w.now.words (placed_at w.allocations i) ≡ true
      → IsWordOf (storage_of c (placed_at w.allocations i)) n
      → word_points_well c.pages w.now.words n ≡ true

-- A caller has written to the page, or exchanged, and has still to mark it dirty.
abbrev pub OwesDirty : Moment → ℕ → ℕ → Type 0
OwesDirty m k page = ((flight_of m (Caller k)).stage ≡ Stage.Dirty) × (page_met (flight_of m (Caller k)) ≡ page)

-- The heap word points well, or its page is dirty, or a call in flight owes the page its dirty mark.
pub data IsGuarded (c : Config) (m : Moment) (n : ℕ) : Type 0 where
  PointsWell : word_points_well c.pages m.words n ≡ true → IsGuarded c m n
  PageIsDirty : slice_index m.words.dirty (n / 64) ≡ 1 → IsGuarded c m n
  DirtyIsOwed : (k : ℕ) → OwesDirty m k (n / 64) → IsGuarded c m n

-- Each word of a black cell is guarded, whatever it holds, unless the words of the cell aren't scanned.
abbrev pub BlackIsGuarded : Config → Moment → Type 0
BlackIsGuarded c m =
    (p k i : ℕ) → k < cells_under (header_in m.words p) → has_bit (slice_index m.words.blacks p) k ≡ true
    → has_no_pointers (header_in m.words p) ≡ false → i < words_under (header_in m.words p)
    → IsGuarded c m (64 * p + k * words_under (header_in m.words p) + i)

-- From a `begin` to its `close` the phase is marking, or wanted for closing.
abbrev pub MarkingIsGuarded : Config → Moment → Type 0
MarkingIsGuarded c m = (is_phase m.words 1 ≡ true) ⊎ (is_phase m.words 2 ≡ true) → BlackIsGuarded c m
