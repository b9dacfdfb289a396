-- Cells and runs as the words show them.
use Rattle.std.specs.Prelude.{ℕ, ◌+◌, ◌-◌, ◌*◌, ◌/◌, ◌^◌, Bool, true, false, ◌&&◌, ◌||◌, ◌==◌, nat_le, nat_lt, List}
use Rattle.std.specs.Prelude.{Option, Some, None, if◌then◌else◌, slice_index, slice_index_or}
use Rattle.mk_geom.specs.declared.{addresses.Cell.Cell, headers.Header.Header}
use Rattle.mk_geom.specs.declared.headers.Header.TheVariants.{Block, Run, LeafBlock, LeafRun}
use Rattle.mk_geom.specs.{declared.pages.Page.Page, Storages.free_page, Addresses.{cells_of, class_words_of}}
use Rattle.mk_geom.specs.Addresses.{header_of, cell_at, page_at_address, head_page_under}
pub use Rattle.mk_geom.specs.Addresses.{is_unmapped_header}
use Rattle.mk_core.specs.{declared.seats.RunPages.RunPages, Words.{Words, header_at, used_at, has_bit, without}}
use Rattle.mk_core.specs.{Words.{all_below, is_none_or}, Moments.is_phase}

-- how many cells there are under a header; a run is one, at its head page
abbrev pub cells_under : Option Header → ℕ
cells_under (Some (Block class)) = cells_of class
cells_under (Some (LeafBlock class)) = cells_of class
cells_under (Some (Run count mapped)) = 1
cells_under (Some (LeafRun count)) = 1
cells_under _ = 0

-- the words of one of them
abbrev pub words_under : Option Header → ℕ
words_under (Some (Block class)) = class_words_of class
words_under (Some (LeafBlock class)) = class_words_of class
words_under (Some (Run count mapped)) = 64 * count
words_under (Some (LeafRun count)) = 64 * count
words_under _ = 0

-- the run that has its head there
abbrev pub run_headed : Option Header → ℕ → Option RunPages
run_headed (Some (Run count mapped)) page = Some (record { page = page; count = count })
run_headed (Some (LeafRun count)) page = Some (record { page = page; count = count })
run_headed _ page = None

-- it is the header of a run's first page
abbrev pub heads_run : Option Header → Bool
heads_run (Some (Run count mapped)) = true
heads_run (Some (LeafRun count)) = true
heads_run _ = false

-- it is the header of a leaf block or of a leaf run's first page
abbrev pub is_leaf_header : Option Header → Bool
is_leaf_header (Some (LeafBlock class)) = true
is_leaf_header (Some (LeafRun count)) = true
is_leaf_header _ = false

-- what the page's header word says
abbrev pub header_in : Words → ℕ → Option Header
header_in w p = header_of (header_at w p)

-- the head page of a page's run; another page is its own
abbrev pub head_page : Words → ℕ → ℕ
head_page w p = head_page_under (header_in w p) p

-- the bits of a page's cells
abbrev pub cell_bits : Words → ℕ → ℕ
cell_bits w p = 2 ^ cells_under (header_in w p) - 1

-- the first word of a cell, and how many it has
abbrev pub first_word : Words → Cell → ℕ
first_word w cell = 64 * cell.page + cell.index * words_under (header_in w cell.page)

-- how many words the cell has
abbrev pub cell_words : Words → Cell → ℕ
cell_words w cell = words_under (header_in w cell.page)

-- What a value points into, by lookup, in a heap of this many pages, which these are.
unfoldable pub pointed_cell : ℕ → List Page → ℕ → Option Cell
pointed_cell count pages value = cell_at count (slice_index_or pages (page_at_address value) free_page).header value

-- the cell's used bit is set
abbrev pub is_used : Words → Cell → Bool
is_used w cell = has_bit (used_at w cell.page) cell.index

-- its freed bit is set
abbrev pub is_freed : Words → Cell → Bool
is_freed w cell = has_bit (slice_index w.freed cell.page) cell.index

-- its snapshot bit is set
abbrev pub is_in_snapshot : Words → Cell → Bool
is_in_snapshot w cell = has_bit (slice_index w.snapshot cell.page) cell.index

-- its mark bit is set
abbrev pub is_marked : Words → Cell → Bool
is_marked w cell = has_bit (slice_index w.marks cell.page) cell.index

-- The cell isn't scanned: its type has no pointer, or its run is unmapped.
abbrev pub has_no_pointers : Option Header → Bool
has_no_pointers header = is_leaf_header header || is_unmapped_header header

-- How many words of a cell under the header are scanned: none of a leaf cell, or of an unmapped run.
abbrev pub words_scanned : Option Header → ℕ
words_scanned header = if has_no_pointers header then 0 else words_under header

-- The value points into nothing, or into a marked cell.
abbrev pub points_well : ℕ → Words → ℕ → Bool
points_well pages w value = is_none_or (is_marked w) (pointed_cell pages w.pages value)

-- heap word n points well
abbrev pub word_points_well : ℕ → Words → ℕ → Bool
word_points_well pages w n = points_well pages w (slice_index w.heap n)

-- all words of the cell point well
abbrev pub words_point_well : ℕ → Words → Cell → Bool
words_point_well pages w cell = all_below (cell_words w cell) (λ i. word_points_well pages w (first_word w cell + i))

-- so many heap words from the first on are 0
abbrev pub words_are_zero : Words → ℕ → ℕ → Bool
words_are_zero w first count = all_below count (λ i. slice_index w.heap (first + i) == 0)

-- the cells of a page that are in the snapshot and have no mark, as bits: those that a `release` releases
abbrev pub left_unmarked : Words → ℕ → ℕ
left_unmarked w p = without (slice_index w.snapshot p) (slice_index w.marks p)

-- the cell is in the snapshot and not marked
abbrev pub is_left_unmarked : Words → Cell → Bool
is_left_unmarked w cell = has_bit (left_unmarked w cell.page) cell.index

-- of a page's cells these, as bits, are all left unmarked
abbrev pub are_left_unmarked : Words → ℕ → ℕ → Bool
are_left_unmarked w p bits = without bits (left_unmarked w p) == 0

-- no cell of the page is
abbrev pub none_is_left_unmarked : Words → ℕ → Bool
none_is_left_unmarked w p = left_unmarked w p == 0

-- A released cell is one of them while the phase is releasing.
abbrev pub is_released_cell : Words → Cell → Bool
is_released_cell w cell = is_phase w 4 && is_left_unmarked w cell

-- heap word n is on a page of the run
abbrev pub is_in_run : RunPages → ℕ → Bool
is_in_run run n = nat_le run.page (n / 64) && nat_lt (n / 64 - run.page) run.count
