-- Which allocation a value points into, and what a release makes of one.
use Rattle.std.proofs.Math.Nat.{div-mul-le_self, lt-div-mul-add}
use Rattle.mk_core.proofs.Vocabulary.{Cell, Config, HasItsHeaders, IsSized, IsWithinLimits, IsWordOf, PlacedAllocation}
use Rattle.mk_core.proofs.Vocabulary.{Some, StandsOnHeap, Storage, Words, World, ℕ, ap, arith, cases_Bool}
use Rattle.mk_core.proofs.Vocabulary.{cell_of_storage, cell_words, class_words_of, false, first_word, header_at, inl}
use Rattle.mk_core.proofs.Vocabulary.{inr, object_placed, page_at_address, placed_at, pointed_cell, points_well}
use Rattle.mk_core.proofs.Vocabulary.{storage_of, sym, true, ◌%◌, ◌*◌, ◌+◌, ◌/◌, ◌<◌, ◌∙◌, ◌≡◌}
use Rattle.mk_core.proofs.StandingAllocations.{cells_begin, headers_show_storage, pointers_hit, standing_has_storage}
use Rattle.mk_core.proofs.{StandingAllocations.typed_size, CellsOfAllocations.stands_in_no_other, Sizes.words_within}
use Rattle.mk_geom.proofs.PointedCells.{address_points_into, cell_index, class_has_words, small_cell_of, small_lookup}
use Rattle.mk_geom.proofs.Standing.{cell_stands_at, has_words, large_is_run, small_is_cell, stands_parts}
use Rattle.mk_geom.{proofs.CellsOnPages.{is_address}, specs.Storages.{IsStorage, class_of_storage, is_small, stands_on}}
use Rattle.mk_geom.specs.Addresses.{address_of, cell_at, cell_of_block, word_at_address}
use Rattle.mk_geom.specs.Storages.{PointsInto, ShowsStorage}
use Rattle.mk_core.specs.{Cells.{is_left_unmarked, is_marked}, Allocations.with_released}
use Rattle.mk_core.specs.{Cycles.is_marked_allocation, Readings.IsTaken}

-- a word of a block is in the cell that it points into
block_index : (class page word : ℕ) (cell : Cell) → cell_of_block class page word ≡ Some cell
    → word / class_words_of class ≡ cell.index
block_index class page word cell is = grind arith

-- What points into the cell of a storage, from a page that shows it, points into the storage.
pub cell_points_into : (pages header u : ℕ) (s : Storage) → IsStorage pages s → stands_on (page_at_address u) s ≡ true
    → ShowsStorage s (page_at_address u) header → cell_at pages header u ≡ Some (cell_of_storage s) → PointsInto u s
cell_points_into pages header u s is stands shows found = elim (cases_Bool (is_small s)) [
  | inl small ↦
      let low = (is_address pages header u (cell_of_storage s) found).0 in
      let cell = small_is_cell pages s is small in
      let in_block = sym (small_lookup pages header u s is low stands shows small) ∙ found in
      let at : word_at_address u / s.words ≡ cell.index = ap (λ (n : ℕ). word_at_address u / n)
      (sym (class_has_words s cell)) ∙ block_index (class_of_storage s) (page_at_address u) (word_at_address u)
      (cell_of_storage s) in_block ∙ ap (λ (k : Cell). k.index) (small_cell_of s small) ∙ cell_index s cell in
      let some = has_words pages s is in
      let page = cell_stands_at s (page_at_address u) cell stands in
      let first : s.first % 64 ≡ cell.index * s.words = cell.first ∙ ap (λ (w : ℕ). cell.index * w) (sym cell.words) in
      let same : word_at_address u / s.words * s.words ≡ cell.index * s.words = ap (λ (n : ℕ). n * s.words) at in
      let from = div-mul-le_self (word_at_address u) s.words in
      let to = lt-div-mul-add {a = word_at_address u} {b = s.words} some in (low, (omega arith, omega arith))
  | inr large ↦
      let low = (is_address pages header u (cell_of_storage s) found).0 in
      let run = large_is_run pages s is large in
      let parts = stands_parts (page_at_address u) s stands in
      (low, (omega (arith, run.first), omega (arith, run.first, run.words, run.some)))
]

-- So a value on the pages of an allocation points into its storage if it points into its cell.
pub pointers_come_back : (c : Config) (w : Words) (a : PlacedAllocation) → IsWithinLimits c → StandsOnHeap c a
    → HasItsHeaders c w a → (u : ℕ) → stands_on (page_at_address u) (storage_of c a) ≡ true
    → pointed_cell c.pages w.pages u ≡ Some (cell_of_storage (storage_of c a)) → PointsInto u (storage_of c a)
unfolding pointed_cell
pointers_come_back c w a limits st has u stands found =
    cell_points_into c.pages (header_at w (page_at_address u)) u (storage_of c a) (standing_has_storage c a limits st)
    stands (headers_show_storage c w a limits st has (page_at_address u) stands) found

-- The addresses of its words point into its cell,
pub word_points : (c : Config) (w : Words) (a : PlacedAllocation) → IsWithinLimits c → StandsOnHeap c a
    → HasItsHeaders c w a → (n : ℕ) → IsWordOf (storage_of c a) n
    → pointed_cell c.pages w.pages (address_of n) ≡ Some (cell_of_storage (storage_of c a))
word_points c w a limits st has n is = grind (arith, pointers_hit, address_points_into)

-- that of its base too.
pub base_points : (c : Config) (w : Words) (a : PlacedAllocation) → IsWithinLimits c → StandsOnHeap c a
    → HasItsHeaders c w a → pointed_cell c.pages w.pages (address_of a.base) ≡ Some (cell_of_storage (storage_of c a))
base_points c w a limits st has = grind (arith, words_within, typed_size, word_points)

-- A release releases it exactly if its cell is left unmarked.
pub released_where_left : (c : Config) (w : Words) (a : PlacedAllocation) → IsWithinLimits c → StandsOnHeap c a
    → HasItsHeaders c w a → (with_released c w a).released ≡ is_left_unmarked w (cell_of_storage (storage_of c a))
released_where_left c w a limits st has = cc (st.unreleased, base_points c w a limits st has)

-- It is marked if its cell is, and what points into it points well then.
pub marked_where_its_cell_is : (c : Config) (w : Words) (a : PlacedAllocation) → IsWithinLimits c → StandsOnHeap c a
    → HasItsHeaders c w a → is_marked_allocation c w a ≡ is_marked w (cell_of_storage (storage_of c a))
marked_where_its_cell_is c w a limits st has = grind (arith, base_points)

pub points_well_where_marked : (c : Config) (w : Words) (a : PlacedAllocation) → IsWithinLimits c → StandsOnHeap c a
    → HasItsHeaders c w a
    → (u : ℕ) → PointsInto u (storage_of c a) → points_well c.pages w u ≡ is_marked w (cell_of_storage (storage_of c a))
points_well_where_marked c w a limits st has u into = grind (arith, pointers_hit)

-- The words of its cell are its own.
pub cell_word_is_its_own : (c : Config) (w : Words) (a : PlacedAllocation) → IsWithinLimits c → StandsOnHeap c a
    → HasItsHeaders c w a → (i : ℕ) → i < cell_words w (cell_of_storage (storage_of c a))
    → IsWordOf (storage_of c a) (first_word w (cell_of_storage (storage_of c a)) + i)
cell_word_is_its_own c w a limits st has i lt = grind (arith, cells_begin)

-- A cell that is taken is that of the allocation that stands in it.
pub taken_cell_is : (c : Config) (w : World) (cell : Cell) (taken : IsTaken w cell)
    → IsSized (object_placed c (placed_at w.allocations taken.number)) → HasItsHeaders c w.now.words
    (placed_at w.allocations taken.number) → ((placed_at w.allocations taken.number).released ≡ false) ×
    (cell_of_storage (storage_of c (placed_at w.allocations taken.number)) ≡ cell)
taken_cell_is c w cell taken sized has = grind (arith, stands_in_no_other)
