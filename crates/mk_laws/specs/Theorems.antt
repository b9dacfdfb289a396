-- What holds of all histories, in the words of one moment.
use Rattle.std.specs.Prelude.{◌≡◌, Bool, true, false, Option, ℕ, Some, ◌+◌, ◌<◌, slice_index, List, ◌∷◌, ◌++◌, ◌≤◌}
use Rattle.mk_never.specs.{declared.operations.Op.Op, Laws.IsReachable}
use Rattle.mk_geom.specs.declared.headers.Header.{Header, TheVariants.{Run, LeafRun}}
use Rattle.mk_geom.specs.{declared.addresses.Cell.Cell, Storages.{IsWordOf, PagesStandFor}}
use Rattle.mk_geom.specs.PageUses.{resident_pages, uses_of_pages}
use Rattle.mk_core.specs.declared.{config.Config.Config, seats.Placing.Placing}
use Rattle.mk_core.specs.declared.seats.{Placing.TheVariants.{Chosen, Used}, RunPages.RunPages}
use Rattle.mk_core.specs.{Words.{is_none_or, Words}, Cells.{is_used, header_in, cells_under, has_no_pointers}}
use Rattle.mk_core.specs.{Cells.{is_marked, first_word, cell_words, points_well, word_points_well}, Moments.is_phase}
use Rattle.mk_core.specs.NewPlaces.{is_run_unmapped, place_on_pages}
use Rattle.mk_core.specs.Allocations.{PlacedAllocation, cell_of_allocation, StandsOnHeap, HasItsHeaders}
use Rattle.mk_core.specs.Allocations.{place_among_allocations, placed_at, storage_of, unreleased_storage}
use Rattle.mk_core.specs.{History.{World, IsHistory, left, never_behind}, declared.seats.Stage.Stage}
use Rattle.mk_core.specs.declared.{events.{Event.Event, Seat.Seat}, seats.Object.Object}
use Rattle.mk_core.specs.{Cycles.{MarkingIsGuarded, MarksAreClosed}, declared.events.Step.Step}

-- the New has a place
abbrev pub has_place : Placing → Bool
has_place (Chosen place) = true
has_place (Used place) = true
has_place _ = false

-- An allocation stands on the heap, with its headers and its used bit.
pub record StandsUsed (c : Config) (w : World) (a : PlacedAllocation) : Type 0 where
  pub stands : StandsOnHeap c a
  pub headers : HasItsHeaders c w.now.words a
  pub used : is_used w.now.words (cell_of_allocation c a) ≡ true

-- The run that a call freed, if it freed one, is unmapped. Its words may still be there.
abbrev pub is_freed_unmapped : Words → Option RunPages → Bool
is_freed_unmapped w freed = is_none_or (is_run_unmapped w) freed

-- Nothing is on its way: no cell is released, no New has a place, and no Free is unmapping its run. One may still be
-- wiping it.
pub record IsSettled (w : World) : Type 0 where
  pub releasing : is_phase w.now.words 4 ≡ false
  pub placing : has_place w.now.seats.holding.placing ≡ false
  pub unmapped : is_freed_unmapped w.now.words w.now.seats.holding.freed ≡ true

-- the pages of the run that is headed there
abbrev pub run_count : Option Header → ℕ
run_count (Some (Run count mapped)) = count
run_count (Some (LeafRun count)) = count
run_count _ = 0

-- Every register and global, and every word of a marked cell that is scanned, points into nothing or into a marked
-- cell.
pub record CellsAreClosed (c : Config) (w : Words) : Type 0 where
  pub registers : (i : ℕ) → points_well c.pages w (slice_index w.registers i) ≡ true
  pub globals : (g : ℕ) → points_well c.pages w (slice_index w.globals g) ≡ true
  pub words : (cell : Cell) (i : ℕ) → cell.index < cells_under (header_in w cell.page) → is_marked w cell ≡ true
      → has_no_pointers (header_in w cell.page) ≡ false → i < cell_words w cell
      → word_points_well c.pages w (first_word w cell + i) ≡ true

-- the call has loaded its register q
abbrev pub has_q : Stage → Op → Bool
has_q Stage.LoadP (Op.SetPtr q i p) = true
has_q Stage.LoadP (Op.CasPtr q i p r) = true
has_q Stage.LoadR o = true
has_q Stage.Probe o = true
has_q Stage.Read o = true
has_q Stage.Write o = true
has_q Stage.Cas o = true
has_q Stage.Store (Op.Lea d q i) = true
has_q Stage.Store (Op.Move d q) = true
has_q _ _ = false

-- the same, where a pointer is needed
abbrev pub has_some_q : Stage → Op → Bool
has_some_q Stage.Store (Op.Move d q) = false
has_some_q s o = has_q s o

-- It holds of each history.
abbrev pub OfHistories : (Config → List Event → Type 0) → Type 0
OfHistories claim = (c : Config) (es : List Event) → IsHistory c es → claim c es

-- What a program can get to isn't released.
abbrev pub KeepsTheReach : Config → List Event → Type 0
KeepsTheReach c es = (number : ℕ) → IsReachable (never_behind c es) number
    → (placed_at (left c es).allocations number).released ≡ false

-- Each unreleased allocation stands on the heap, with its headers and its used bit,
abbrev pub AllocationsStand : Config → List Event → Type 0
AllocationsStand c es =
    (i : ℕ) → (placed_at (left c es).allocations i).released ≡ false
    → StandsUsed c (left c es) (placed_at (left c es).allocations i)

-- and no two have a word in common.
abbrev pub AllocationsAreDisjoint : Config → List Event → Type 0
AllocationsAreDisjoint c es =
    (i j n : ℕ) → (placed_at (left c es).allocations i).released ≡ false
    → (placed_at (left c es).allocations j).released ≡ false
    → IsWordOf (storage_of c (placed_at (left c es).allocations i)) n
    → IsWordOf (storage_of c (placed_at (left c es).allocations j)) n → i ≡ j

-- While nothing is on its way, headers and used words are those of the unreleased storage,
abbrev pub PagesShowTheStorage : Config → List Event → Type 0
PagesShowTheStorage c es =
    IsSettled (left c es) → PagesStandFor (left c es).now.words.pages (unreleased_storage c (left c es).allocations)

-- and first fit over them finds the place among the allocations.
abbrev pub FirstFitFindsThePlace : Config → List Event → Type 0
FirstFitFindsThePlace c es =
    (o : Object) → IsSettled (left c es)
    → place_on_pages c.resident (left c es).now.words.pages o
    ≡ place_among_allocations c o.words o.leaf (left c es).allocations

-- While a cycle marks, the words of black cells are guarded.
abbrev pub GuardsBlackCells : Config → List Event → Type 0
GuardsBlackCells c es = MarkingIsGuarded c (left c es).now

-- Each `close` finds the marks closed.
abbrev pub ClosesFindMarksClosed : Config → List Event → Type 0
ClosesFindMarksClosed c es =
    (before behind : List Event) (seat : Seat) → es ≡ before ++ record { seat = seat; step = Step.Close } ∷ behind
    → MarksAreClosed c (left c before)

-- At most this many pages are resident.
abbrev pub FewPagesAreResident : Config → List Event → Type 0
FewPagesAreResident c es = resident_pages (uses_of_pages (left c es).now.words.pages) ≤ c.resident
