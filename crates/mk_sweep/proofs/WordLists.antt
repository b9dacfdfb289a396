-- The words of a page's used cells, one after the other; and what points well of them.
use Rattle.std.{proofs.lemmas.List.Elements.{Contains-append_cases, Contains-push_cases}, specs.List.{range_with_len}}
use Rattle.mk_sweep.proofs.Vocabulary.{MarksMore, PointWell, Words, cells_under, has_bit, has_no_pointers, head_page}
use Rattle.mk_sweep.proofs.Vocabulary.{header_at, header_in, header_of, points_well, used_at, words_below, words_if}
use Rattle.mk_sweep.proofs.Vocabulary.{words_of_cells, words_on, words_under}
use Rattle.mk_cycle.proofs.Below.Laws.Vocabulary.{List, ℕ, ap, arith, false, inl, inr, slice_index, suc, sym, true}
use Rattle.mk_cycle.proofs.{Below.Laws.Vocabulary.{zero, [], ◌*◌, ◌++◌, ◌+◌, ◌∙◌, ◌∷◌, ◌≡◌, ◌≤◌}, MoreMarks.well_more}

-- The head of a page's run doesn't lie after it.

pub head_is_near : (w : Words) (p : ℕ) → head_page w p ≤ p
head_is_near w p = grind arith

-- one word more, one cell more and one page more

range_more : (a n : ℕ) → range_with_len a (suc n) ≡ range_with_len a n ++ (a + n) ∷ []
range_more a zero = let e : a ≡ a + 0 = omega arith in ap (λ k. k ∷ []) e
range_more a (suc n) =
    let e : a + 1 + n ≡ a + suc n = omega arith in
    ap (λ ns. a ∷ ns) (range_more (a + 1) n ∙ ap (λ k. range_with_len (a + 1) n ++ k ∷ []) e)

pub word_more : (a n : ℕ) → range_with_len a n ++ (a + n) ∷ [] ≡ range_with_len a (n + 1)
word_more a n = let e : suc n ≡ n + 1 = omega arith in sym (range_more a n) ∙ ap (λ k. range_with_len a k) e

pub cell_more : (page size used n : ℕ) → words_of_cells page size used n ++ words_if (has_bit used n)
    (64 * page + n * size) size ≡ words_of_cells page size used (n + 1)
cell_more page size used n = grind arith

pub page_more : (w : Words) (n : ℕ) → words_below w n ++ words_on w n ≡ words_below w (n + 1)
page_more w n = let e : suc n ≡ n + 1 = omega arith in ap (λ k. words_below w k) e

-- the words of a scanned page, and of one that isn't

pub words_of_scanned : (w : Words) (p header used size count : ℕ) → header ≡ header_at w p → used ≡ used_at w p
    → size ≡ words_under (header_of header) → count ≡ cells_under (header_of header)
    → has_no_pointers (header_in w p) ≡ false → words_of_cells p size used count ≡ words_on w p
words_of_scanned w p header used size count head bits words cells scanned = grind arith

pub words_of_bare : (w : Words) (p : ℕ) → has_no_pointers (header_in w p) ≡ true → [] ≡ words_on w p
words_of_bare w p bare = grind arith

-- Marks leave which words these are.
pub words_kept : {w v : Words} (p : ℕ) → MarksMore w v → words_on v p ≡ words_on w p
words_kept p more = ap (λ (y : Words). words_on y p) more.is

-- What points well goes on doing so.

pub none_well : (pages : ℕ) (w : Words) → PointWell pages w []
none_well pages w n (k, lt, is) = absurd (omega arith)

pub still_well : (pages : ℕ) {w v : Words} (ns : List ℕ) → MarksMore w v → PointWell pages w ns → PointWell pages v ns
still_well pages {w} {v} ns more well n inside = grind (arith, well_more)

pub both_well : (pages : ℕ) {w v : Words} (ns ms : List ℕ) → MarksMore w v → PointWell pages w ns
    → PointWell pages v ms → PointWell pages v (ns ++ ms)
both_well pages {w} {v} ns ms more one two n inside = elim (Contains-append_cases ns ms n inside) [
  | inl early ↦ still_well pages ns more one n early
  | inr late ↦ two n late
]

pub one_well : (pages : ℕ) {w v : Words} (ns : List ℕ) (m value : ℕ) → MarksMore w v → PointWell pages w ns
    → value ≡ slice_index w.heap m → points_well pages v value ≡ true → PointWell pages v (ns ++ m ∷ [])
one_well pages {v} ns m value more one is well n inside = elim (Contains-push_cases ns m n inside) [
  | inl early ↦ still_well pages ns more one n early
  | inr at ↦ cc (at, more.is, is, well)
]
