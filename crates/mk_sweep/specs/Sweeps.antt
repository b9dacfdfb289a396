-- A sweep: which heap words it looks at, what it marks and leaves unmarked (no reach is followed), and the whole cycle.
use Rattle.std.specs.Prelude.{◌≡◌, ℕ, ◌^◌, true, List, ⊤, filter, sum_by, slice_index, Some, zero, suc, ◌+◌, ◌*◌, Bool}
use Rattle.std.specs.Prelude.{[], ◌∷◌, ◌++◌, if◌then◌else◌, ◌≤◌, ◌==◌, count_by, length, false, ◌<◌}
use Rattle.std.specs.List.{range_with_len, Contains}
use Rattle.mk_geom.specs.{declared.addresses.Cell.Cell, Storages.IsWordOf}
use Rattle.mk_core.specs.Allocations.{PlacedAllocation, placed_at, storage_of, storage_words, cell_of_allocation}
use Rattle.mk_core.specs.Cells.{pointed_cell, cells_under, has_no_pointers, header_in, word_points_well, words_under}
use Rattle.mk_core.specs.{Cells.is_marked, Cycles.{is_marked_allocation, is_scanned_allocation, PointsIntoAllocation}}
use Rattle.mk_core.specs.{Cycles.{Releasing, IsInSnapshot, before_release, before_begin, before_close}, Frames.OnlyGrow}
use Rattle.mk_core.specs.{History.{World, Finding, IsHistory, world_behind, is_same_seat, left}, Moments.Moment}
use Rattle.mk_core.specs.{Words.{has_bit, Words, used_at}, declared.{config.Config.Config, events.Event.Event}}
use Rattle.mk_core.specs.declared.events.{Seat.{Seat, TheVariants.Marker}, Step.Step}
use Rattle.mk_core.specs.declared.{events.Word.Word, seats.Hand.Hand}
use Rattle.mk_cycle.specs.Below.Words.{States.{PassState, TurnState, world_of, now_of, Has}, Steps.{Does, done_in}}
use Rattle.mk_cycle.specs.Below.Laws.{Theorems.IsSettled, Releases.allocation_behind}
use Rattle.mk_cycle.specs.{BeginCycle.BeginsCycle, EngineLaw.IsAtPhase, FinishCycle.{FinishesCycle, HasReleased}}
use Rattle.mk_cycle.specs.{Grays.MarksMore, Stops.{IsWanted, hand_of, still_words, IsClosedBy}}
use Rattle.mk_cycle.specs.{Tracing.{Traces, is_marking, is_tracing}, declared.finishing.Released.Released}

-- The heap word is one of a mapped allocation that isn't leaf.
pub record IsScannedWord (c : Config) (xs : List PlacedAllocation) (n : ℕ) : Type 0 where
  pub number : ℕ
  pub scanned : is_scanned_allocation c (placed_at xs number) ≡ true
  pub word : IsWordOf (storage_of c (placed_at xs number)) n

-- how many words these allocations have
abbrev pub scanned_words : Config → List PlacedAllocation → ℕ
scanned_words c xs = sum_by (storage_words c) (filter (is_scanned_allocation c) xs)

-- The value is left in a register, in a global, or in a word of a mapped allocation that isn't leaf.
pub data IsSweptValue (c : Config) (w : World) (u : ℕ) : Type 0 where
  InRegister : (i : ℕ) → slice_index w.now.words.registers i ≡ u → IsSweptValue c w u
  InGlobal : (g : ℕ) → slice_index w.now.words.globals g ≡ u → IsSweptValue c w u
  InWord : (n : ℕ) → IsScannedWord c w.allocations n → slice_index w.now.words.heap n ≡ u → IsSweptValue c w u

-- The allocation is unreleased, and such a value points into its storage.
pub record IsSwept (c : Config) (w : World) (number : ℕ) : Type 0 where
  pub value : ℕ
  pub found : IsSweptValue c w value
  pub points : PointsIntoAllocation c w value number

-- Each allocation that is swept is marked.
abbrev pub SweptAreMarked : Config → World → Type 0
SweptAreMarked c w = (i : ℕ) → IsSwept c w i → is_marked_allocation c w.now.words (placed_at w.allocations i) ≡ true

-- Such a value points into the cell, by lookup.
pub record IsSweptCell (c : Config) (w : World) (cell : Cell) : Type 0 where
  pub value : ℕ
  pub found : IsSweptValue c w value
  pub points : pointed_cell c.pages w.now.words.pages value ≡ Some cell

-- The mark is one bit, that of such a cell.
pub record MarksSwept (c : Config) (w : World) (page value : ℕ) : Type 0 where
  pub index : ℕ
  pub bit : value ≡ 2 ^ index
  pub swept : IsSweptCell c w (record { page = page; index = index })

-- Of heap words only those of mapped allocations that aren't leaf are looked at, and only such cells are marked, as the
-- world was when the sweep began: neither values nor allocations change in a stop.
abbrev pub SweepsBy : World → Config → Moment → Step → Type 0
SweepsBy w c m (Step.Look (Word.Heap n)) = IsScannedWord c w.allocations n
SweepsBy w c m (Step.Mark p v) = MarksSwept c w p v
SweepsBy w c m _ = ⊤

-- the heap word that a step looks at, if it looks at one
abbrev pub word_looked_at : Step → List ℕ
word_looked_at (Step.Look (Word.Heap n)) = n ∷ []
word_looked_at _ = []

-- those that these steps looked at, in order
abbrev pub words_looked_at : List Finding → List ℕ
words_looked_at [] = []
words_looked_at (x ∷ xs) = word_looked_at x.event.step ++ words_looked_at xs

-- the heap words that were looked at from one pass to another, in order
abbrev pub heap_looks : {kinds : Step → Bool} {p q : PassState} → Does kinds p q → List ℕ
heap_looks {p = p} d = words_looked_at (done_in p d.more)

-- The close is wanted, no marker attends, and nothing else is on its way.
pub record IsSweeping (p : PassState) : Type 0 where
  pub wanted : IsWanted p
  pub settled : IsSettled (world_of p)

-- The sweep goes on: its holder looks at these heap words, and marks by its rule alone.
pub record SweepsOn (t u : TurnState) (words : List ℕ) : Type 0 where
  pub table : u.pass.table ≡ t.pass.table
  pub sweeping : IsSweeping u.pass
  pub traces : Traces is_marking (SweepsBy (world_of t.pass)) t.pass u.pass
  pub looked : heap_looks traces.does ≡ words

-- The hand is this value, and it is one that a sweep looks at.
pub record HasInHand (p : PassState) (u : ℕ) : Type 0 where
  pub hand : Hand
  pub is : hand_of p ≡ Some hand
  pub value : hand.value ≡ u
  pub found : IsSweptValue p.table.config (world_of p) u

-- The hand points into the cell.
pub record IsReachedCell (p : PassState) (cell : Cell) : Type 0 where
  pub value : ℕ
  pub in_hand : HasInHand p value
  pub points : pointed_cell p.table.config.pages (still_words p).pages value ≡ Some cell

-- so many words from this one on, if the cell is used
abbrev pub words_if : Bool → ℕ → ℕ → List ℕ
words_if used first size = if used then range_with_len first size else []

-- the words of the used ones among a page's first cells, of this many words each
abbrev pub words_of_cells : ℕ → ℕ → ℕ → ℕ → List ℕ
words_of_cells page size used zero = []
words_of_cells page size used (suc n) =
    words_of_cells page size used n ++ words_if (has_bit used n) (64 * page + n * size) size

-- the words of a page that may hold pointers
abbrev pub words_on : Words → ℕ → List ℕ
words_on w p =
    if has_no_pointers (header_in w p) then []
    else words_of_cells p (words_under (header_in w p)) (used_at w p) (cells_under (header_in w p))

-- those of all pages below this one
abbrev pub words_below : Words → ℕ → List ℕ
words_below w zero = []
words_below w (suc n) = words_below w n ++ words_on w n

-- Each of these heap words points well.
abbrev pub PointWell : ℕ → Words → List ℕ → Type 0
PointWell pages w ns = (n : ℕ) → Contains ns n → word_points_well pages w n ≡ true

-- Black bits, and no others, are added.
pub record BlacksMore (w v : Words) : Type 0 where
  pub is : v ≡ record w { blacks = v.blacks }
  pub grow : OnlyGrow w.blacks v.blacks

-- Each marked cell of the page is black.
abbrev pub PageIsBlack : Words → ℕ → Type 0
PageIsBlack w p =
    (k : ℕ) → k < cells_under (header_in w p) → has_bit (slice_index w.marks p) k ≡ true
    → has_bit (slice_index w.blacks p) k ≡ true

-- The sweep goes on over these words: more is marked, and so is whatever they point into.
pub record SweepsWords (pages : ℕ) (t u : TurnState) (words : List ℕ) : Type 0 where
  pub on : SweepsOn t u words
  pub more : MarksMore (still_words t.pass) (still_words u.pass)
  pub well : PointWell pages (still_words u.pass) words

-- What a sweep looked at and marked.
pub record Sweeps (p q : PassState) (looks : ℕ) : Type 0 where
  -- Only words of mapped allocations that aren't leaf are looked at, and only cells are marked into which one of these
  -- points, or a register or a global.
  pub traces : Traces is_tracing (SweepsBy (world_of p)) p q
  -- No heap word is looked at twice, and each word of such an allocation is looked at.
  pub never_twice : (n : ℕ) → count_by (λ k. k == n) (heap_looks traces.does) ≤ 1
  pub each : (n : ℕ) → IsScannedWord p.table.config (world_of p).allocations n
      → count_by (λ k. k == n) (heap_looks traces.does) ≡ 1
  -- These are this many: the words of these allocations.
  pub counted : looks ≡ length (heap_looks traces.does)
  pub words : looks ≡ scanned_words p.table.config (world_of p).allocations
  -- What is swept is marked.
  pub swept : SweptAreMarked q.table.config (world_of q)

-- No event of another seat marks the cell.
unfoldable pub OthersLeaveUnmarked : Config → Seat → Cell → World → List Event → Type 0
OthersLeaveUnmarked c s cell w [] = ⊤
OthersLeaveUnmarked c s cell w (e ∷ es) =
    (is_same_seat s e.seat ≡ false → is_marked w.now.words cell ≡ false
    → is_marked (world_behind c w e).now.words cell ≡ false)
    × OthersLeaveUnmarked c s cell (world_behind c w e) es

-- Then the cell of an unreleased allocation that isn't swept is unmarked after a sweep, if it was so before.
abbrev pub UnsweptStaysUnmarked : Type 0
UnsweptStaysUnmarked =
    (p q : PassState) (n : ℕ) (s : Sweeps p q n) (i : ℕ)
    → IsHistory p.table.config p.seen → IsAtPhase p 1
    → (placed_at (world_of p).allocations i).released ≡ false → (IsSwept p.table.config (world_of p) i → ⊥)
    → is_marked (now_of p).words (cell_of_allocation p.table.config (placed_at (world_of p).allocations i)) ≡ false
    → OthersLeaveUnmarked p.table.config p.seat
    (cell_of_allocation p.table.config (placed_at (world_of p).allocations i)) (world_of p) s.traces.does.more
    → is_marked (now_of q).words (cell_of_allocation p.table.config (placed_at (world_of p).allocations i)) ≡ false

-- None of the events marks the cell, whoever makes them.
unfoldable pub LeaveUnmarked : Config → Cell → World → List Event → Type 0
LeaveUnmarked c cell w [] = ⊤
LeaveUnmarked c cell w (e ∷ es) =
    (is_marked w.now.words cell ≡ false → is_marked (world_behind c w e).now.words cell ≡ false)
    × LeaveUnmarked c cell (world_behind c w e) es

-- So a cycle releases what is in its snapshot and isn't swept, where no step but those of its sweep marks its cell.
abbrev pub UnsweptIsReleased : Type 0
UnsweptIsReleased =
    (p q : PassState) (n : ℕ) (s : Sweeps p q n) (es : List Event) (r : Releasing es) (rest : List Event) (i : ℕ)
    → IsHistory p.table.config es → IsHistory p.table.config p.seen → before_release r ≡ q.seen ++ rest → IsAtPhase p 1
    → IsInSnapshot p.table.config r.marking i
    → (placed_at (world_of p).allocations i).released ≡ false → (IsSwept p.table.config (world_of p) i → ⊥)
    → is_marked (now_of p).words (cell_of_allocation p.table.config (placed_at (world_of p).allocations i)) ≡ false
    → OthersLeaveUnmarked p.table.config p.seat
    (cell_of_allocation p.table.config (placed_at (world_of p).allocations i)) (world_of p) s.traces.does.more
    → LeaveUnmarked p.table.config
    (cell_of_allocation p.table.config (placed_at (world_of p).allocations i)) (world_of q) rest
    → (allocation_behind p.table.config r i).released ≡ true

-- The seats of all markers stand in the list: none was made, or all are joined again.
abbrev pub HasMarkers : List Seat → Type 0
HasMarkers seats = (k : ℕ) → k < 8 → Has seats (Marker k)

-- From what the one pass had seen to what the other has seen one cycle was begun and, directly after it, finished. It
-- released so much, and it was closed by a sweep that looked at so many heap words.
pub record MakesWholeCycle (p q : PassState) (released : Released) (looks : ℕ) : Type 0 where
  pub begun : PassState
  pub begins : BeginsCycle p begun
  pub finishes : FinishesCycle begun q
  pub counted : HasReleased begun q released
  pub closed : IsClosedBy (λ x y. Sweeps x y looks) begun q

-- A cycle stands there that released each allocation of its snapshot that wasn't swept at its `close`.
pub record ReleasesUnswept (p q : PassState) : Type 0 where
  pub cycle : Releasing q.seen
  pub more : List Event
  pub since : before_begin cycle.marking ≡ p.seen ++ more
  pub each : (i : ℕ) → IsInSnapshot p.table.config cycle.marking i
      → (IsSwept p.table.config (left p.table.config (before_close cycle.marking)) i → ⊥)
      → (allocation_behind p.table.config cycle i).released ≡ true
