-- A word of a scanned cell lies in the heap, and a lookup finds the cell there, where the word isn't 0.
use Rattle.std.proofs.{Math.Nat.mul_comm, lemmas.Nat.div-mul-add, lemmas.Nat.mul-add-lt}
use Rattle.mk_words.proofs.Below.Laws.Vocabulary.{Block, Bool, Cell, Config, Event, Free, Header, Invariant, IsHistory}
use Rattle.mk_words.proofs.Below.Laws.Vocabulary.{Later, LeafBlock, LeafRun, List, None, Object, OfBlock, OfLater}
use Rattle.mk_words.proofs.Below.Laws.Vocabulary.{OfLeafBlock, OfLeafRun, OfRun, Option, Run, ShowsPart, Some, Words}
use Rattle.mk_words.proofs.Below.Laws.Vocabulary.{World, ℕ, address_of, and_from, ap, arith, cell_ends, cell_words}
use Rattle.mk_words.proofs.Below.Laws.Vocabulary.{cells_under, class_words_of, false, first_word, ground_of}
use Rattle.mk_words.proofs.Below.Laws.Vocabulary.{has_no_pointers, head_page, header_in, if◌then◌else◌, inl, inr}
use Rattle.mk_words.proofs.Below.Laws.Vocabulary.{is_heap_address, is_phase, le-leb, left, lt-ltb, ne_eqb, never_behind}
use Rattle.mk_words.proofs.Below.Laws.Vocabulary.{object_now, page_at_address, phase_of, refl, slice_index, subst, sym}
use Rattle.mk_words.proofs.Below.Laws.Vocabulary.{true, true≢false, words_under, ◌%◌, ◌*◌, ◌+◌, ◌-◌, ◌/◌, ◌<◌, ◌∙◌, ◌≡◌}
use Rattle.mk_words.proofs.{Below.Laws.Vocabulary.{◌≢◌, ◌≤◌, ◌⊎◌}, Below.Laws.BarePages.{Unreleasing, on_allocation}}
use Rattle.mk_words.proofs.{Below.Laws.BarePages.shown_there, Below.Laws.CoveredWords.covered_word}
use Rattle.mk_words.proofs.{Below.Laws.InHeap.in_heap_left, Below.Laws.InvariantHistories.histories_keep_the_invariant}
use Rattle.mk_words.proofs.{Below.Laws.LayoutReadings.{claimed, claimed_head}, Below.Laws.RunsInHeap.RunsFit}
use Rattle.mk_words.proofs.{Below.Laws.Serving.Laid, Below.Laws.TellGuard.later_pages}
use Rattle.mk_geom.specs.Addresses.{cell_of_block, cell_under, word_at_address}
use Rattle.mk_core.specs.Cells.{pointed_cell}

-- the page is after its head as its header says
abbrev LiesBehind : Words → ℕ → ℕ → Type 0
LiesBehind w p page = (page ≡ p) ⊎ ((distance : ℕ) × (mapped : Bool) ×
    (header_in w page ≡ Some (Later distance mapped)) × (p + distance ≡ page))

part_behind : (w : Words) {o : Object} (p : ℕ) {distance : ℕ} (page : ℕ) {x : Option Header} → ShowsPart o distance x
    → header_in w page ≡ x → p + distance ≡ page → LiesBehind w p page
part_behind w p page (OfBlock first small leaf) is at = inl (omega arith)
part_behind w p page (OfLeafBlock first small leaf) is at = inl (omega arith)
part_behind w p page (OfRun mapped first large leaf) is at = inl (omega arith)
part_behind w p page (OfLeafRun first large leaf) is at = inl (omega arith)
part_behind w p {distance = distance} page (OfLater mapped some large) is at = inr (distance, mapped, is, at)

-- While the phase isn't releasing, a word that isn't 0 lies on an allocation, whose headers stand.
behind_head : {c : Config} {w : World} (n p : ℕ) → Unreleasing c w → slice_index w.now.words.heap n ≢ 0
    → head_page w.now.words (n / 64) ≡ p → LiesBehind w.now.words p (n / 64)
behind_head {c} {w} n p q some head =
    let x = on_allocation c w n q some in
    let shown = shown_there c w x.claim q x.among in
    let page : x.claim.page ≡ p = grind (arith, claimed_head) in
    part_behind w.now.words p (n / 64) (claimed w.now.words.pages x.claim x.distance shown x.near)
    (ap (λ i. header_in w.now.words i) (sym x.at)) (omega arith)

-- where a lookup at a heap word goes

in_heap : (pages n : ℕ) → n < 64 * pages → is_heap_address pages (address_of n) ≡ true
in_heap pages n lt = grind (arith, and_from, le-leb, lt-ltb)

page_there : (n : ℕ) → page_at_address (address_of n) ≡ n / 64
page_there n = omega arith

word_there : (n : ℕ) → word_at_address (address_of n) ≡ n % 64
word_there n = omega arith

found_at : (pages : ℕ) (w : Words) (n : ℕ) (h : Header) (cell : Cell) → n < 64 * pages → header_in w (n / 64) ≡ Some h
    → cell_under h (n / 64) (n % 64) ≡ Some cell → pointed_cell pages w.pages (address_of n) ≡ Some cell
unfolding pointed_cell
found_at pages w n h cell lt is under = grind (arith, page_there, in_heap, word_there)

abbrev cell_of : ℕ → ℕ → Cell
cell_of p k = record { page = p; index = k }

abbrev some_where : Bool → Cell → Option Cell
some_where b cell = if b then Some cell else None

-- The cell's words lie in the heap.

in_heap_under : (c : Config) (w : Words) (p k i : ℕ) (x : Option Header) → RunsFit c w.pages → header_in w p ≡ x
    → p < c.pages → k < cells_under x
    → has_no_pointers x ≡ false → i < words_under x → 64 * p + k * words_under x + i < 64 * c.pages
in_heap_under c w p k i (Some (Run count true)) fit is lt lk scanned li =
    let near : p + count ≤ c.pages = fit p count is in
    let zero : k ≡ 0 = omega arith in
    let none : k * (64 * count) ≡ 0 = ap (λ j. j * (64 * count)) zero ∙ omega arith in
    omega arith
in_heap_under c w p k i x6 fit is lt lk scanned li = grind (arith, cell_ends)

pub words_in_heap : {c : Config} {es : List Event} (cell : Cell) (i : ℕ) → IsHistory c es → cell.page < c.pages
    → cell.index < cells_under (header_in (left c es).now.words cell.page)
    → has_no_pointers (header_in (left c es).now.words cell.page) ≡ false
    → i < cell_words (left c es).now.words cell → first_word (left c es).now.words cell + i < 64 * c.pages
words_in_heap {c} {es} cell i h lt lk scanned li =
    in_heap_under c (left c es).now.words cell.page cell.index i (header_in (left c es).now.words cell.page)
    (in_heap_left c es h.within_limits h.enabled).runs refl lt lk scanned li

-- Those of a block's cell stand on its page, and those of a run 64 on each of its pages.

page_under : (p k i : ℕ) (x : Option Header) → k < cells_under x → i < words_under x
    → p + i / 64 ≡ (64 * p + k * words_under x + i) / 64
page_under p k i x3 lk li = grind (arith, cell_ends)

pub page_of_word : (w : Words) (cell : Cell) (i size : ℕ) → cell.index < cells_under (header_in w cell.page)
    → size ≡ cell_words w cell → i < size → cell.page + i / 64 ≡ (64 * cell.page + cell.index * size + i) / 64
page_of_word w cell i size lk is li = grind (arith, page_under)

-- and a lookup finds the cell at each that isn't 0.

run_at : (pages : ℕ) (w : Words) (n p count : ℕ) → n < 64 * pages → header_in w p ≡ Some (Run count true)
    → LiesBehind w p (n / 64) → pointed_cell pages w.pages (address_of n) ≡ Some (record { page = p; index = 0 })
run_at pages w n p count lt is (inl here) =
    found_at pages w n (Run count true) (record { page = p; index = 0 }) lt (ap (λ q. header_in w q) here ∙ is)
    (ap (λ (q : ℕ). Some (cell_of q 0)) here)
run_at pages w n p count lt is (inr (d, m, shown, at)) =
    found_at pages w n (Later d m) (record { page = p; index = 0 }) lt shown (ap (λ (b : Bool). some_where b
    (cell_of (n / 64 - d) 0)) (le-leb d (n / 64) (omega arith)) ∙ ap (λ (q : ℕ). Some (cell_of q 0)) (omega arith))

cell_under_word : {c : Config} {v : World} (p k i : ℕ) (x : Option Header) → Unreleasing c v
    → header_in v.now.words p ≡ x → k < cells_under x → has_no_pointers x ≡ false → i < words_under x
    → 64 * p + k * words_under x + i < 64 * c.pages → slice_index v.now.words.heap (64 * p + k * words_under x + i) ≢ 0
    → head_page v.now.words ((64 * p + k * words_under x + i) / 64) ≡ p → pointed_cell c.pages v.now.words.pages
    (address_of (64 * p + k * words_under x + i)) ≡ Some (record { page = p; index = k })
cell_under_word {c} {v} p k i (Some (Block class)) q is lk scanned li within some head =
    let size = class_words_of class in
    let ends = cell_ends k size lk in
    let n = 64 * p + k * size + i in
    let page : n / 64 ≡ p = omega arith in
    let place : n % 64 ≡ k * size + i = omega arith in
    found_at c.pages v.now.words n (Block class) (record { page = p; index = k }) within
    (ap (λ j. header_in v.now.words j) page ∙ is) (ap (λ j. cell_of_block class j (n % 64)) page ∙ ap
    (λ j. cell_of_block class p j) place ∙
    (grind (arith, some_where, cell_of, lt-ltb, mul_comm, mul-add-lt, div-mul-add)))
cell_under_word {c} {v} p k i (Some (Run count true)) q is lk scanned li within some head =
    let n = 64 * p + k * (64 * count) + i in
    let zero : 0 ≡ k = omega arith in
    cc (run_at c.pages v.now.words n p count within is (behind_head n p q some head), zero)
cell_under_word p k i (Some (Run count false)) q is lk scanned li within some head = absurd (true≢false scanned)
cell_under_word p k i (Some (LeafBlock class)) q is lk scanned li within some head = absurd (true≢false scanned)
cell_under_word p k i (Some (LeafRun count)) q is lk scanned li within some head = absurd (true≢false scanned)
cell_under_word p k i (Some Free) q is lk scanned li within some head = absurd (omega arith)
cell_under_word p k i (Some (Later d m)) q is lk scanned li within some head = absurd (omega arith)
cell_under_word p k i None q is lk scanned li within some head = absurd (omega arith)

pub cell_of_word : {c : Config} {es : List Event} (cell : Cell) (i : ℕ) → IsHistory c es
    → phase_of (left c es).now.words ≡ 2 → cell.page < c.pages
    → cell.index < cells_under (header_in (left c es).now.words cell.page)
    → has_no_pointers (header_in (left c es).now.words cell.page) ≡ false
    → i < cell_words (left c es).now.words cell
    → slice_index (left c es).now.words.heap (first_word (left c es).now.words cell + i) ≢ 0
    → pointed_cell c.pages (left c es).now.words.pages (address_of (first_word (left c es).now.words cell + i))
    ≡ Some cell
cell_of_word {c} {es} cell i h two lt lk scanned li some =
    let v : World = left c es in
    let q : Unreleasing c (left c es) = let all : Invariant c (left c es) (never_behind c es) =
    histories_keep_the_invariant c es h in let w : World = left c es in let off : is_phase w.now.words 4
    ≡ false = ne_eqb (phase_of w.now.words) 4 (λ e. omega arith) in record {
      off = off;
      laid = subst
          (λ four. Laid c (object_now c w.now) four w (ground_of w)) off all.order.laid;
      zeros = all.zeros;
    } in
    cell_under_word cell.page cell.index i (header_in v.now.words cell.page) q refl lk scanned li (words_in_heap cell i
    h lt lk scanned li) some (covered_word v.now.words cell.page cell.index i (later_pages c v q) lk scanned li some)
