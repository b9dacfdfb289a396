-- Outside the phase of releasing, what a value points into is one of its page's cells.
use Rattle.mk_laws.proofs.Vocabulary.{Block, Bool, Cell, Config, Free, Header, Later, LayoutStands, LeafBlock, LeafRun}
use Rattle.mk_laws.proofs.Vocabulary.{None, Option, Run, Some, World, ℕ, ap, arith, cell_at, cells_under, false}
use Rattle.mk_laws.proofs.Vocabulary.{header_at, header_in, if◌then◌else◌, inl, inr, is_phase, nat_le, page_at_address}
use Rattle.mk_laws.proofs.Vocabulary.{run_count, subst, sym, true, true≢false, ◌-◌, ◌<◌, ◌∙◌, ◌≡◌}
use Rattle.mk_geom.proofs.{ClassTable.some_cells, HeaderLemmas.word_of-header_of}
use Rattle.mk_geom.specs.Addresses.{cell_under, run_of_page, word_at_address, IsInRange}
use Rattle.mk_core.{proofs.PointedPages.{LiesUnder, found_under, lies_under}, specs.Cells.{pointed_cell}}

-- a header that heads a run has one cell
heads_one : (h : Option Header) (d : ℕ) → d < run_count h → 0 < cells_under h
heads_one (Some (Run count mapped)) d lt = omega arith
heads_one (Some (LeafRun count)) d lt = omega arith
heads_one _ d lt = absurd (omega arith)

later_index : (b : Bool) (h : Header) (page : ℕ) (cell : Cell)
    → (if b then Some (run_of_page h page) else None) ≡ Some cell → cell.index ≡ 0
later_index true h page cell is = let here : run_of_page h page ≡ cell = cc in sym (ap (λ (x : Cell). x.index) here)
later_index false h page cell is = cc

module _ (c : Config) (w : World) (laid : LayoutStands c w) (on : is_phase w.now.words 4 ≡ false) where
  -- the cell lies on its own page, which has cells
  near : {h : Header} {page : ℕ} {cell : Cell} → header_in w.now.words page ≡ Some h → 0 < cells_under (Some h)
      → cell.page ≡ page → (l : LiesUnder h page cell) → cell.index < cells_under (header_in w.now.words cell.page)
  near shown some at l = grind arith

  far : (d : ℕ) (mapped : Bool) (page : ℕ) (cell : Cell) → header_in w.now.words page ≡ Some (Later d mapped)
      → cell.page ≡ page - d → cell.index ≡ 0 → cell.index < cells_under (header_in w.now.words cell.page)
  far d mapped page cell shown at zero = elim (laid.scene.later page d mapped shown).1 [
    | inl lt ↦
        let one = heads_one (header_in w.now.words (page - d)) d lt in
        subst (λ (q : ℕ). cell.index < cells_under (header_in w.now.words q)) (sym at)
        (subst (λ (i : ℕ). i < cells_under (header_in w.now.words (page - d))) (sym zero) one)
    | inr gone ↦ absurd (true≢false (sym gone.0 ∙ on))
  ]

  by_header : (h : Header) (page word : ℕ) (cell : Cell) → IsInRange h → header_in w.now.words page ≡ Some h
      → cell_under h page word ≡ Some cell → cell.index < cells_under (header_in w.now.words cell.page)
  by_header Free page word cell range shown is = cc
  by_header (Block class) page word cell range shown is =
      let l = lies_under (Block class) page word cell is in near shown (some_cells class range) l.head l
  by_header (LeafBlock class) page word cell range shown is =
      let l = lies_under (LeafBlock class) page word cell is in near shown (some_cells class range) l.head l
  by_header (Run count mapped) page word cell range shown is = grind (arith, lies_under, near)
  by_header (LeafRun count) page word cell range shown is = grind (arith, lies_under, near)
  by_header (Later d mapped) page word cell range shown is =
      let l = lies_under (Later d mapped) page word cell is in
      far d mapped page cell shown l.head (later_index (nat_le d page) (Later d mapped) page cell is)

  pub found_is_cell : (value : ℕ) (cell : Cell) → cell_at c.pages (header_at w.now.words (page_at_address value)) value
      ≡ Some cell → cell.index < cells_under (header_in w.now.words cell.page)
  found_is_cell value cell is =
      let page : ℕ = page_at_address value in
      let under = found_under c.pages (header_at w.now.words page) value cell is in
      by_header under.0 page (word_at_address value) cell
      (word_of-header_of (header_at w.now.words page) under.0 under.1).0 under.1 under.2

  pub pointed_is_cell : (value : ℕ) (cell : Cell) → pointed_cell c.pages w.now.words.pages value ≡ Some cell
      → cell.index < cells_under (header_in w.now.words cell.page)
  unfolding pointed_cell
  pointed_is_cell value cell is = found_is_cell value cell is
