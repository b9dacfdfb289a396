-- Which words of the heap may hold values: all others are 0.
use Rattle.std.specs.Prelude.{◌≡◌, ◌≢◌, ℕ, ◌+◌, ◌*◌, ◌<◌, ◌≤◌, Bool, true, ◌&&◌, List, slice_index, Option, Some}
use Rattle.mk_geom.specs.{declared.{addresses.Cell.Cell, pages.Page.Page}, Addresses.address_of}
use Rattle.mk_core.specs.{declared.{config.Config.Config, seats.RunPages.RunPages}, Words.{has_bit, without}}
use Rattle.mk_core.specs.{Cells.{pointed_cell, words_under, is_in_run}, Moments.is_phase}
use Rattle.mk_core.specs.{Allocations.PlacedAllocation, History.World}
use Rattle.mk_laws.proofs.LayoutScene.{shows_on, used_on}
use Rattle.mk_laws.specs.WordLaws.{IsWordOfMapped}

-- what the zero words read of a world
pub record ZeroScene : Type 0 where
  pub heap : List ℕ
  pub pages : List Page
  pub snapshot : List ℕ
  pub marks : List ℕ
  pub releasing : Bool
  pub run : Option RunPages
  pub allocations : List PlacedAllocation

-- the scene of a world, with these marks, while the phase is releasing or while it isn't
abbrev pub zero_scene_with : Bool → List ℕ → World → ZeroScene
zero_scene_with releasing marks w =
    record {
      heap = w.now.words.heap;
      pages = w.now.words.pages;
      snapshot = w.now.words.snapshot;
      marks = marks;
      releasing = releasing;
      run = w.now.seats.holding.freed;
      allocations = w.allocations;
    }

-- what this group reads of a world
abbrev pub zero_scene_of : World → ZeroScene
zero_scene_of w = zero_scene_with (is_phase w.now.words 4) w.now.words.marks w

-- The cell is in the snapshot and has no mark, while the phase is releasing.
abbrev pub is_released_there : ZeroScene → Cell → Bool
is_released_there s cell =
    s.releasing && has_bit (without (slice_index s.snapshot cell.page) (slice_index s.marks cell.page)) cell.index

-- the first heap word of a cell
abbrev pub first_word_on : List Page → Cell → ℕ
first_word_on pages cell = 64 * cell.page + cell.index * words_under (shows_on pages cell.page)

-- The word is one of a released cell whose used bit is still set: it lies among the cell's words, and lookup finds the
-- cell there.
pub record IsReleasedWord (c : Config) (pages : List Page) (is_gone : Cell → Bool) (n : ℕ) : Type 0 where
  pub cell : Cell
  pub small : cell.index < 32
  pub released : is_gone cell ≡ true
  pub used : has_bit (used_on pages cell.page) cell.index ≡ true
  pub pointed : pointed_cell c.pages pages (address_of n) ≡ Some cell
  pub from : first_word_on pages cell ≤ n
  pub to : n < first_word_on pages cell + words_under (shows_on pages cell.page)

-- The word is one of the run that a call freed, up to its `give`.
pub record IsFreedWord (freed : Option RunPages) (n : ℕ) : Type 0 where
  pub run : RunPages
  pub there : freed ≡ Some run
  pub word : is_in_run run n ≡ true

-- Heap word n may hold something: it is a mapped allocation's, a released cell's, or of a run that is being wiped.
pub data MayHold (c : Config) (s : ZeroScene) (n : ℕ) : Type 0 where
  OfMapped : IsWordOfMapped c s.allocations n → MayHold c s n
  OfReleased : IsReleasedWord c s.pages (is_released_there s) n → MayHold c s n
  OfFreedRun : IsFreedWord s.run n → MayHold c s n

-- All other heap words are 0.
abbrev pub OthersAreZero : Config → ZeroScene → Type 0
OthersAreZero c s = (n : ℕ) → slice_index s.heap n ≢ 0 → MayHold c s n

-- So it is in this world.
abbrev pub HasZeros : Config → World → Type 0
HasZeros c w = OthersAreZero c (zero_scene_of w)
