-- The words of a cell lead to its page, and the allocation that has one of them has the cell.
use Rattle.std.proofs.lemmas.Bool.{cases_order}
use Rattle.mk_laws.proofs.Vocabulary.{Cell, Config, Free, HasItsHeaders, Header, IsWithinLimits, IsWordOf, Later}
use Rattle.mk_laws.proofs.Vocabulary.{Option, PlacedAllocation, Run, Some, StandsOnHeap, Words, World, ℕ, address_of}
use Rattle.mk_laws.proofs.Vocabulary.{ap, arith, cases_eq, cell_at, cell_ends, cell_of_allocation, cells_begin}
use Rattle.mk_laws.proofs.Vocabulary.{cells_under, false, has_no_pointers, head_page, head_page_under, header_at}
use Rattle.mk_laws.proofs.Vocabulary.{header_in, heads_run, inl, inr, mul-le, page_at_address, pointed_cell, refl}
use Rattle.mk_laws.proofs.Vocabulary.{run_count, slice_index, storage_of, storage_words, sym, true, word_points}
use Rattle.mk_laws.proofs.Vocabulary.{words_under, ◌*◌, ◌+◌, ◌-◌, ◌/◌, ◌<◌, ◌∙◌, ◌≡◌, ◌≢◌, ◌≤◌, ◌⊎◌}
use Rattle.mk_core.proofs.PointedPages.{pointed_head}
use Rattle.mk_laws.proofs.{FoundHeaders.free_shows, Kept.LaterPagesAreKnown, LaterPages.RunsAreWhole}

-- A number is in only one of equal parts.
pub one_part : (size i j n : ℕ) → i * size ≤ n → n < i * size + size → j * size ≤ n → n < j * size + size → i ≡ j
one_part size i j n from to low high = grind (arith, cases_order, mul-le)

-- A cell ends on its page, or it is a run's.
cell_on : (x : Option Header) (k i : ℕ) → k < cells_under x → i < words_under x
    → (k * words_under x + i < 64) ⊎ ((heads_run x ≡ true) × (k ≡ 0) × (words_under x ≡ 64 * run_count x))
cell_on (Some Free) k i known lt = absurd (omega arith)
cell_on x0 k i known lt = grind (arith, cell_ends)

-- a page that has cells is its own head
own_head : (w : Words) (p k : ℕ) → k < cells_under (header_in w p) → (n : ℕ) → n / 64 ≡ p → head_page w (n / 64) ≡ p
own_head w p k known n at = ap (head_page w) at ∙ by (header_in w p) known
  where
    by : (x : Option Header) → k < cells_under x → head_page_under x p ≡ p
    by (Some (Later d m)) lt = absurd (omega arith)
    by _ lt = refl

-- What points somewhere is on a page with a header.
pointed_some : (c : Config) (w : Words) (v : ℕ) (y : Cell) → pointed_cell c.pages w.pages v ≡ Some y
    → header_at w (page_at_address v) ≢ 0
unfolding pointed_cell
pointed_some c w v y is z = free_shows c.pages v y (ap (λ h. cell_at c.pages h v) (sym z) ∙ is)

scanned_run : (x : Option Header) → heads_run x ≡ true → has_no_pointers x ≡ false → x ≡ Some (Run (run_count x) true)
scanned_run (Some (Run count true)) heads scanned = refl
scanned_run _ heads scanned = cc

-- A word of a scanned cell that isn't 0 lies on a page that leads to the cell's page.
pub covered_word : (w : Words) (p k i : ℕ) → LaterPagesAreKnown w → k < cells_under (header_in w p)
    → has_no_pointers (header_in w p) ≡ false → i < words_under (header_in w p)
    → slice_index w.heap (64 * p + k * words_under (header_in w p) + i) ≢ 0
    → head_page w ((64 * p + k * words_under (header_in w p) + i) / 64) ≡ p
covered_word w p k i later lk scanned li some = elim (cell_on (header_in w p) k i lk li) [
  | inl near ↦ own_head w p k lk _ (omega arith)
  | inr run ↦
      let none : k * words_under (header_in w p) ≡ 0 = rw run.1 (omega arith) in
      elim (cases_eq (i / 64) 0) [
        | inl first ↦ own_head w p k lk _ (omega arith)
        | inr ne ↦
            let page : (64 * p + k * words_under (header_in w p) + i) / 64 ≡ p + i / 64 = omega arith in
            elim (later p (run_count (header_in w p)) (i / 64) (scanned_run _ run.0 scanned) (omega arith)
            (omega arith)) [
              | inl head ↦ rw page head
              | inr bare ↦ grind arith
            ]
      ]
]

module _ (c : Config) (w : World) (runs : RunsAreWhole c w) (p k x : ℕ)
    (known : k < cells_under (header_in w.now.words p)) (from : 64 * p + k * words_under (header_in w.now.words p) ≤ x)
    (to : x < 64 * p + k * words_under (header_in w.now.words p) + words_under (header_in w.now.words p)) where
  -- if its page has a header
  word_head : header_at w.now.words (x / 64) ≢ 0 → head_page w.now.words (x / 64) ≡ p
  word_head some =
      let start : ℕ = 64 * p + k * words_under (header_in w.now.words p) in
      elim (cell_on (header_in w.now.words p) k (x - start) known (omega arith)) [
        | inl near ↦ own_head w.now.words p k known x (omega arith)
        | inr run ↦
            let words = run.2 in
            elim (cases_eq (x / 64) p) [
              | inl at ↦ own_head w.now.words p k known x at
              | inr ne ↦
                  let at : x / 64 ≡ p + (x / 64 - p) = omega arith in
                  grind arith
            ]
      ]

  pub has_cell : {a : PlacedAllocation} → IsWithinLimits c → StandsOnHeap c a → HasItsHeaders c w.now.words a
      → IsWordOf (storage_of c a) x → cell_of_allocation c a ≡ record { page = p; index = k }
  has_cell {a} limits stands headers word =
      let cell : Cell = cell_of_allocation c a in
      let points : pointed_cell c.pages w.now.words.pages (address_of x) ≡ Some cell =
      word_points c w.now.words a limits stands headers x word in
      let at : page_at_address (address_of x) ≡ x / 64 = omega arith in
      let page : cell.page ≡ p = pointed_head c.pages w.now.words (address_of x) cell points
      ∙ ap (head_page w.now.words) at
      ∙ word_head (λ z. pointed_some c w.now.words (address_of x) cell points (ap (header_at w.now.words) at ∙ z)) in
      let begin = cells_begin c w.now.words a limits stands headers in
      let size : words_under (header_in w.now.words p) ≡ storage_words c a =
      ap (λ q. words_under (header_in w.now.words q)) (sym page) ∙ begin.1 in
      let product : cell.index * words_under (header_in w.now.words cell.page) ≡ cell.index * words_under
      (header_in w.now.words p) = ap (λ q. cell.index * words_under (header_in w.now.words q)) page in
      let low : a.base ≤ x = word.0 in
      let high : x < a.base + storage_words c a = word.1 in
      let index : cell.index ≡ k = one_part (words_under (header_in w.now.words p)) cell.index k (x - 64 * p)
      (omega arith) (omega arith) (omega arith) (omega arith) in
      cc
