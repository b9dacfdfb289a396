-- The cell in which an allocation stands.
use Rattle.std.proofs.Common.{eq-eqb}
use Rattle.mk_core.proofs.Vocabulary.{BeginsAtCell, Cell, Config, HasItsHeaders, Header, IsSized, IsWithinLimits}
use Rattle.mk_core.proofs.Vocabulary.{Option, PlacedAllocation, StandsOnHeap, Words, ℕ, and_from, and_parts, ap, arith}
use Rattle.mk_core.proofs.Vocabulary.{cell_ends, cell_of_storage, cells_made, cells_of, cells_under, class_words_of}
use Rattle.mk_core.proofs.Vocabulary.{eqb-true, false, first_word, header_in, not-true, object_placed, stands_in}
use Rattle.mk_core.proofs.Vocabulary.{storage_of, true, words_made, words_under, ◌*◌, ◌/◌, ◌<◌, ◌∙◌, ◌≡◌}
use Rattle.mk_core.proofs.StandingAllocations.{cells_begin, first_page_shows, placed_cell}
use Rattle.mk_core.proofs.ObjectHeaders.{part_cells, part_words}

-- The first word of a cell lies on its page.
block_on_page : (class index : ℕ) → index < cells_of class → index * class_words_of class < 64
block_on_page class index known = grind (arith, cell_ends)

run_on_page : (words index : ℕ) → index < 1 → index * words < 64
run_on_page words index known = grind arith

cell_on_page : (x : Option Header) (index : ℕ) → index < cells_under x → index * words_under x < 64
cell_on_page x0 index known = grind (arith, block_on_page, run_on_page)

-- A cell that begins at the base of an allocation is its cell.
pub cell_from_base : (c : Config) (w : Words) (a : PlacedAllocation) (cell : Cell) → IsSized (object_placed c a)
    → HasItsHeaders c w a → cell.index < cells_under (header_in w cell.page) → first_word w cell ≡ a.base
    → cell_of_storage (storage_of c a) ≡ cell
cell_from_base c w a cell sized has known first =
    let on_page = cell_on_page (header_in w cell.page) cell.index known in
    let page : a.base / 64 ≡ cell.page = omega arith in
    let part = first_page_shows c w a sized has in
    let cells : cells_under (header_in w cell.page) ≡ cells_made (object_placed c a) = grind (arith, part_cells) in
    let words : words_under (header_in w cell.page) ≡ words_made (object_placed c a) = grind (arith, part_words) in
    let b : BeginsAtCell (object_placed c a) a.base = grind arith in
    placed_cell c a sized b ∙ ap (λ (p : ℕ). record { page = p; index = cell.index }) page

-- So it is the one cell in which the allocation stands.
pub stands_in_its_cell : (c : Config) (w : Words) (a : PlacedAllocation) → IsWithinLimits c → StandsOnHeap c a
    → HasItsHeaders c w a → stands_in w (cell_of_storage (storage_of c a)) a ≡ true
stands_in_its_cell c w a limits st has = grind (arith, and_from, eq-eqb, cells_begin)

pub stands_in_no_other : (c : Config) (w : Words) (a : PlacedAllocation) (cell : Cell) → IsSized (object_placed c a)
    → HasItsHeaders c w a → cell.index < cells_under (header_in w cell.page) → stands_in w cell a ≡ true
    → (a.released ≡ false) × (cell_of_storage (storage_of c a) ≡ cell)
stands_in_no_other c w a cell sized has known h = grind (arith, and_parts, not-true, cell_from_base, eqb-true)
