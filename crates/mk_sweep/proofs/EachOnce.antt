-- Where nothing is on its way, a sweep of all pages looks once at each word of each mapped allocation that isn't leaf,
-- and at no other word.
use Rattle.std.proofs.Common.{count_by}
use Rattle.mk_sweep.proofs.Vocabulary.{Cell, Config, Event, IsHistory, IsScannedWord, IsSettled, PlacedAllocation}
use Rattle.mk_sweep.proofs.Vocabulary.{Words, cell_of_allocation, cell_words, first_word, header_in, left, placed_at}
use Rattle.mk_sweep.proofs.{Vocabulary.{storage_words, words_below, words_under}, CountedWords.{HasOnPage, all_words}}
use Rattle.mk_sweep.proofs.CountedWords.{in_range_from, in_range_is, is_in_range, length_of_all, pages_found}
use Rattle.mk_sweep.{proofs.CountedWords.{pages_once, same_length, times, times_in_all}, specs.Sweeps.{scanned_words}}
use Rattle.mk_sweep.proofs.ScannedCells.{scanned_stands, used_cell}
use Rattle.mk_cycle.proofs.Below.Laws.Vocabulary.{Bool, List, ℕ, and_from, and_parts, ap, arith, cases_eq, false, inl}
use Rattle.mk_cycle.proofs.Below.Laws.Vocabulary.{inr, length, never_granted, refl, sym, true, true≢false, ◌&&◌, ◌*◌}
use Rattle.mk_cycle.proofs.Below.Laws.Vocabulary.{◌+◌, ◌<◌, ◌∙◌, ◌≡◌, ◌≢◌, ◌≤◌}
use Rattle.mk_cycle.proofs.Below.Laws.InvariantHistories.{allocations_are_disjoint, allocations_stand}
use Rattle.mk_cycle.proofs.{Below.Laws.MappedWords.mapped_stays, SumsBelow.one_if_any}
use Rattle.mk_core.specs.Cycles.{is_scanned_allocation}

module _ {c : Config} {es : List Event} (h : IsHistory c es) (settled : IsSettled (left c es)) where
  abbrev w : Words
  w = (left c es).now.words

  abbrev xs : List PlacedAllocation
  xs = (left c es).allocations

  unreleased : (i : ℕ) → is_scanned_allocation c (placed_at (left c es).allocations i) ≡ true
      → (placed_at (left c es).allocations i).released ≡ false
  unreleased i is = grind (arith, xs, mapped_stays, and_parts)

  -- the allocation of a scanned word, where its page's cells show the word
  pub of_page : {page n : ℕ} → HasOnPage (left c es).now.words page n → (x : IsScannedWord c (left c es).allocations n)
      × ((cell_of_allocation c (placed_at (left c es).allocations x.number)).page ≡ page)
  of_page {page} x =
      let o = used_cell c es h settled page x.cell.index x.cell.bit x.scanned in
      let a : PlacedAllocation = placed_at xs o.number in
      let st = scanned_stands c es h settled o.number o.scanned in
      let first : 64 * page + x.cell.index * words_under (header_in w page) ≡ a.base =
      sym (ap (first_word w) o.is) ∙ st.first in
      let words : words_under (header_in w page) ≡ storage_words c a = sym (ap (cell_words w) o.is) ∙ st.words in
      let low = x.cell.from in
      let high = x.cell.to in (
        record { number = o.number; scanned = o.scanned; word = (omega arith, omega arith) },
        ap (λ (y : Cell). y.page) o.is,
      )

  on_page : {n : ℕ} → (x : IsScannedWord c (left c es).allocations n)
      → HasOnPage (left c es).now.words (cell_of_allocation c (placed_at (left c es).allocations x.number)).page n
  on_page x = grind (arith, xs, scanned_stands)

  one_allocation : {n : ℕ} → (x y : IsScannedWord c (left c es).allocations n) → x.number ≡ y.number
  one_allocation {n} x y =
      allocations_are_disjoint c es h x.number y.number n (unreleased x.number x.scanned) (unreleased y.number
      y.scanned) x.word y.word

  pub looked_at_once : {n : ℕ} → IsScannedWord c (left c es).allocations n
      → times n (words_below (left c es).now.words c.pages) ≡ 1
  looked_at_once {n} x =
      pages_once c.pages (scanned_stands c es h settled x.number x.scanned).page (on_page x) (λ other there.
      let y = of_page there in
      sym y.1 ∙ ap (λ i. (cell_of_allocation c (placed_at xs i)).page) (one_allocation y.0 x))

  pub looked_at_is_scanned : (n : ℕ) → times n (words_below (left c es).now.words c.pages) ≢ 0
      → IsScannedWord c (left c es).allocations n
  looked_at_is_scanned n some = let x = pages_found w c.pages n some in (of_page x.2).0

  pub never_twice : (n : ℕ) → times n (words_below (left c es).now.words c.pages) ≤ 1
  never_twice n = elim (cases_eq (times n (words_below w c.pages)) 0) [
    | inl none ↦ omega arith
    | inr some ↦ let one = looked_at_once (looked_at_is_scanned n some) in omega arith
  ]

  -- How many words these are.

  within : (n : ℕ) → times n (words_below (left c es).now.words c.pages) ≢ 0 → n < 64 * c.pages
  within n some =
      let x = looked_at_is_scanned n some in
      let end = (allocations_stand c es h x.number (unreleased x.number x.scanned)).stands.within in
      let high = x.word.1 in
      omega arith

  abbrev has_word : ℕ → PlacedAllocation → Bool
  has_word n a = is_scanned_allocation c a && is_in_range a.base (storage_words c a) n

  scanned_word : (n i : ℕ) → (is_scanned_allocation c (placed_at (left c es).allocations i)
      && is_in_range (placed_at (left c es).allocations i).base (storage_words c (placed_at (left c es).allocations
      i)) n) ≡ true → IsScannedWord c (left c es).allocations n
  scanned_word n i is = grind (arith, xs, and_parts, is_in_range, in_range_is)

  counted : (n : ℕ) → times n (words_below (left c es).now.words c.pages)
      ≡ count_by (λ a. is_scanned_allocation c a && is_in_range a.base (storage_words c a) n) (left c es).allocations
  unfolding scanned_word
  counted n = elim (cases_eq (times n (words_below w c.pages)) 0) [
    | inl none ↦
        none ∙ sym (one_if_any never_granted (has_word n) false xs refl (λ e. absurd (true≢false (sym e))) (λ i there.
        let one = looked_at_once (scanned_word n i there) in absurd (omega arith))
        (λ i j a b. one_allocation (scanned_word n i a) (scanned_word n j b)))
    | inr some ↦
        let x = looked_at_is_scanned n some in
        let a : PlacedAllocation = placed_at xs x.number in
        looked_at_once x ∙ sym (one_if_any never_granted (has_word n) true xs refl (λ e. (
          x.number,
          and_from (is_scanned_allocation c a) (is_in_range a.base (storage_words c a) n) x.scanned
              (in_range_from a.base (storage_words c a) n x.word.0 x.word.1),
        )) (λ i there. refl) (λ i j b d. one_allocation (scanned_word n i b) (scanned_word n j d)))
  ]

  pub as_many : length (words_below (left c es).now.words c.pages) ≡ scanned_words c (left c es).allocations
  as_many =
      same_length (64 * c.pages) _ (all_words _ (λ a. a.base) _ xs) within (λ n. counted n ∙ sym (times_in_all
      (is_scanned_allocation c) (λ a. a.base) (storage_words c) n xs)) ∙ length_of_all _ (λ a. a.base) _ xs
