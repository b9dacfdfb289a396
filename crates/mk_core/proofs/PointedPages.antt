-- Where the cell is into which a value points.
use Rattle.std.proofs.{Common.option_and_then, Math.Nat.{div-le_self, div-lt_iff_lt-mul}}
use Rattle.mk_core.proofs.Vocabulary.{Block, Bool, Cell, Free, Header, Later, LeafBlock, LeafRun, None, Option, Run}
use Rattle.mk_core.proofs.Vocabulary.{Some, Words, ℕ, ap, arith, cells_of, cells_under, false, header_at, header_in}
use Rattle.mk_core.proofs.Vocabulary.{if◌then◌else◌, inr, ltb-true, page_at_address, pointed_cell, refl, sym, true, ◌<◌}
use Rattle.mk_core.{proofs.Vocabulary.{◌∙◌, ◌≡◌, ◌≤◌, ◌⊎◌}, specs.Cells.{head_page}}
use Rattle.mk_geom.{proofs.CellsOnPages.{is_address}, specs.{Addresses.word_at_address, Addresses.header_of}}
use Rattle.mk_geom.specs.Addresses.{cell_at, cell_of_block, cell_under, head_page_under, is_heap_address, run_of_page}

-- It lies on the head page of the value's page, and is one of the 64 that a page has at most, and of those that the
-- value's page has, if it has cells.
pub record LiesUnder (h : Header) (page : ℕ) (cell : Cell) : Type 0 where
  pub head : cell.page ≡ head_page_under (Some h) page
  pub small : cell.index < 64
  pub known : (cells_under (Some h) ≡ 0) ⊎ (cell.index < cells_under (Some h))

-- the run of a page lies at its head page, as cell 0
abbrev IsRunOf : Header → ℕ → Cell → Type 0
IsRunOf h page cell = (cell.page ≡ head_page_under (Some h) page) × (cell.index ≡ 0)

of_run : (h : Header) (page : ℕ) (cell : Cell) → Some (run_of_page h page) ≡ Some cell → IsRunOf h page cell
of_run h page cell is = grind arith

block_lies : (class page word : ℕ) (cell : Cell) → cell_of_block class page word ≡ Some cell
    → LiesUnder (Block class) page cell
block_lies class page word cell is = let at : (cell.page ≡ page) × (cell.index < 64) × (cell.index < cells_of class) =
    grind (arith, div-lt_iff_lt-mul, ltb-true, div-le_self) in record { head = at.0; small = at.1; known = inr at.2 }

pub lies_under : (h : Header) (page word : ℕ) (cell : Cell) → cell_under h page word ≡ Some cell → LiesUnder h page cell
lies_under Free page word cell is = cc
lies_under (Block class) page word cell is = block_lies class page word cell is
lies_under (LeafBlock class) page word cell is =
    let at = block_lies class page word cell is in
    record { head = at.head; small = at.small; known = at.known }
lies_under (Run pages mapped) page word cell is =
    let at = of_run (Run pages mapped) page cell is in
    let index_is = at.1 in
    record { head = at.0; small = omega arith; known = inr (omega arith) }
lies_under (LeafRun pages) page word cell is =
    let at = of_run (LeafRun pages) page cell is in
    let index_is = at.1 in
    record { head = at.0; small = omega arith; known = inr (omega arith) }
lies_under (Later distance mapped) page word cell is = grind (arith, of_run)

-- The value is an address of a page of the heap that has a header, and the cell lies there.
pub record PointsTo (count : ℕ) (w : Words) (value : ℕ) (cell : Cell) : Type 0 where
  pub low : 65536 ≤ value
  pub within : page_at_address value < count
  pub header : Header
  pub shown : header_in w (page_at_address value) ≡ Some header
  pub lies : LiesUnder header (page_at_address value) cell

pub found_under : (count header value : ℕ) (cell : Cell) → cell_at count header value ≡ Some cell → (h : Header) ×
    (header_of header ≡ Some h) × (cell_under h (page_at_address value) (word_at_address value) ≡ Some cell)
found_under count header value cell is = by (is_heap_address count value) (header_of header) refl is
  where
    by : (b : Bool) (o : Option Header) → header_of header ≡ o → (if b then option_and_then
        (λ h. cell_under h (page_at_address value) (word_at_address value)) o else None) ≡ Some cell → (h : Header) ×
        (header_of header ≡ Some h) × (cell_under h (page_at_address value) (word_at_address value) ≡ Some cell)
    by true (Some h) at is = (h, at, is)
    by true None at is = cc
    by false o at is = cc

-- The cell of a value, by any header word, lies on a page of the heap.
pub cell_within : (count header value : ℕ) (cell : Cell) → cell_at count header value ≡ Some cell
    → (cell.page < count) × (cell.index < 64)
cell_within count header value cell is =
    let within = (is_address count header value cell is).1 in
    let under = found_under count header value cell is in
    let lies = lies_under under.0 (page_at_address value) (word_at_address value) cell under.2 in
    let near = not_behind under.0 (page_at_address value) in
    let head = lies.head in (omega arith, lies.small)
  where
    not_behind : (h : Header) (page : ℕ) → head_page_under (Some h) page ≤ page
    not_behind Free page = omega arith
    not_behind _ page = omega arith

pub points_to : (count : ℕ) (w : Words) (value : ℕ) (cell : Cell) → pointed_cell count w.pages value ≡ Some cell
    → PointsTo count w value cell
unfolding pointed_cell
points_to count w value cell is =
    let address = is_address count (header_at w (page_at_address value)) value cell is in
    let under = found_under count (header_at w (page_at_address value)) value cell is in
    record {
      low = address.0;
      within = address.1;
      header = under.0;
      shown = under.1;
      lies = lies_under under.0 (page_at_address value) (word_at_address value) cell under.2;
    }

pub pointed_head : (count : ℕ) (w : Words) (value : ℕ) (cell : Cell) → pointed_cell count w.pages value ≡ Some cell
    → cell.page ≡ head_page w (page_at_address value)
pointed_head count w value cell is =
    let to = points_to count w value cell is in
    to.lies.head ∙ ap (λ (x : Option Header). head_page_under x (page_at_address value)) (sym to.shown)

pub pointed_within : (count : ℕ) (w : Words) (value : ℕ) (cell : Cell) → pointed_cell count w.pages value ≡ Some cell
    → (cell.page < count) × (cell.index < 64)
unfolding pointed_cell
pointed_within count w value cell is = cell_within count (header_at w (page_at_address value)) value cell is
