-- What the images need of the layout, of the quarantine, of the heap's zero words and of the marks, in one world.
use Rattle.std.specs.Prelude.{◌≡◌, ◌≢◌, ◌⊎◌, ℕ, ◌+◌, ◌/◌, ◌<◌, ◌≤◌, true, false, slice_index, Option, Some}
use Rattle.mk_geom.specs.{declared.{addresses.Cell.Cell, pages.Place.Place}, Addresses.address_of}
use Rattle.mk_geom.specs.Storages.{IsWordOf}
use Rattle.mk_core.specs.declared.{config.Config.Config, events.Seat.TheVariants.Caller}
use Rattle.mk_core.specs.declared.seats.{Object.Object, Placing.TheVariants.Used}
use Rattle.mk_core.specs.{declared.seats.RunPages.RunPages, Words.{Words, header_at, phase_of}, History.World}
use Rattle.mk_core.specs.{Cells.{pointed_cell, is_freed, is_released_cell, is_in_run}, Moments.flight_of}
use Rattle.mk_core.specs.NewPlaces.{object_made, pages_made, header_made, unmapped_header, base_made, place_stands}
use Rattle.mk_core.specs.{NewPlaces.{is_run_gone, is_undecided_new, is_small_object}, Allocations.cells_made}
use Rattle.mk_core.specs.Allocations.{PlacedAllocation, placed_at, is_mapped, storage_of, cell_of_allocation}
use Rattle.mk_core.specs.{Allocations.{object_placed, StandsOnHeap, HasItsHeaders}, Cycles.MarksAreClosed}

-- the pages of a large allocation
abbrev pub run_of_allocation : Config → PlacedAllocation → RunPages
run_of_allocation c a = record { page = a.base / 64; count = pages_made (object_placed c a) }

-- An allocation is on the heap. Its pages are mapped, unless it is large and freed: then they are unmapped, except
-- while a Free is unmapping them.
pub record IsLaidOut (c : Config) (w : Words) (freed : Option RunPages) (a : PlacedAllocation) : Type 0 where
  pub stands : StandsOnHeap c a
  pub headers : HasItsHeaders c w a
  pub mapped : is_mapped c a ≡ true → (distance : ℕ) → distance < pages_made (object_placed c a)
      → header_at w (a.base / 64 + distance) ≡ header_made (object_placed c a) distance
  pub unmapped : is_mapped c a ≡ false → freed ≢ Some (run_of_allocation c a) → (distance : ℕ)
      → distance < pages_made (object_placed c a)
      → header_at w (a.base / 64 + distance) ≡ unmapped_header (pages_made (object_placed c a)) distance

-- The place has the headers of the object, and no unreleased allocation begins there.
pub record IsPlaceOfNone (c : Config) (w : World) (o : Object) (place : Place) : Type 0 where
  pub index : place.index < cells_made o
  pub pages : place.page + pages_made o ≤ c.pages
  pub stands : place_stands w.now.words o place ≡ true
  pub alone : (i : ℕ) → (placed_at w.allocations i).released ≡ false
      → (placed_at w.allocations i).base ≢ base_made o place

-- The run is that of a large freed allocation that isn't released.
pub record IsFreedRun (c : Config) (w : World) (run : RunPages) : Type 0 where
  pub number : ℕ
  pub unreleased : (placed_at w.allocations number).released ≡ false
  pub large : is_small_object (object_placed c (placed_at w.allocations number)) ≡ false
  pub freed : (placed_at w.allocations number).freed ≡ true
  pub is : run ≡ run_of_allocation c (placed_at w.allocations number)

-- The cell is that of a freed allocation that isn't released.
pub record IsCellOfFreed (c : Config) (w : World) (x : Cell) : Type 0 where
  pub number : ℕ
  pub unreleased : (placed_at w.allocations number).released ≡ false
  pub freed : (placed_at w.allocations number).freed ≡ true
  pub cell : cell_of_allocation c (placed_at w.allocations number) ≡ x

-- The word is one of a mapped allocation, of a released cell, or of the run that a Free unmaps.
pub data MayHoldWords (c : Config) (w : World) (n : ℕ) : Type 0 where
  OfMapped : (i : ℕ) → is_mapped c (placed_at w.allocations i) ≡ true
      → IsWordOf (storage_of c (placed_at w.allocations i)) n
      → MayHoldWords c w n
  OfReleased : (cell : Cell) → pointed_cell c.pages w.now.words.pages (address_of n) ≡ Some cell
      → is_released_cell w.now.words cell ≡ true
      → MayHoldWords c w n
  OfFreedRun : (run : RunPages) → w.now.seats.holding.freed ≡ Some run → is_in_run run n ≡ true → MayHoldWords c w n

-- What the images ask of the other groups.
pub record ImagePremises (c : Config) (w : World) : Type 0 where
  -- Unreleased allocations are laid out, and apart.
  pub laid_out : (i : ℕ) → (placed_at w.allocations i).released ≡ false
      → IsLaidOut c w.now.words w.now.seats.holding.freed (placed_at w.allocations i)
  pub apart : (i j : ℕ) → (placed_at w.allocations i).released ≡ false → (placed_at w.allocations j).released ≡ false
      → i ≢ j
      → (placed_at w.allocations i).base ≢ (placed_at w.allocations j).base
  -- The cell that an undecided New has taken is nobody else's.
  pub taken : (place : Place) (k : ℕ) → w.now.seats.holding.placing ≡ Used place → k < c.callers
      → is_undecided_new (flight_of w.now (Caller k)) ≡ true
      → IsPlaceOfNone c w (object_made c (flight_of w.now (Caller k)).op) place
  -- The run that a Free unmaps is a freed allocation's; up to its end the gates of the others are held.
  pub freed_run : (run : RunPages) → w.now.seats.holding.freed ≡ Some run → IsFreedRun c w run
  pub gates : is_run_gone w.now.words w.now.seats.holding.freed ≡ false → (k : ℕ) → k < c.callers
      → w.now.words.turn ≢ 1 + k
      → slice_index w.now.words.gates k ≡ 2
  -- A freed bit stands for a freed allocation, but in released cells, which are no unreleased allocation's.
  pub shown : (i : ℕ) → (placed_at w.allocations i).released ≡ false → (placed_at w.allocations i).freed ≡ true
      → is_freed w.now.words (cell_of_allocation c (placed_at w.allocations i)) ≡ true
  pub freed : (cell : Cell) → is_freed w.now.words cell ≡ true
      → IsCellOfFreed c w cell ⊎ (is_released_cell w.now.words cell ≡ true)
  pub kept :
      (i : ℕ) → (placed_at w.allocations i).released ≡ false
      → is_released_cell w.now.words (cell_of_allocation c (placed_at w.allocations i)) ≡ false
  -- All other words of the heap are 0.
  pub zero_words : (n : ℕ) → slice_index w.now.words.heap n ≢ 0 → MayHoldWords c w n
  -- Between `close` and `release` the marks are closed.
  pub marks : phase_of w.now.words ≡ 3 → MarksAreClosed c w
