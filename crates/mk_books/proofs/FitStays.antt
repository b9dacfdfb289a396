-- The sets and the count stay fit for the pages when a page changes.
use Rattle.std.proofs.{lemmas.List.get_or-map, lemmas.List.map-set, lemmas.List.Sums.sum_by-set}
use Rattle.mk_books.proofs.Vocabulary.{Bool, FitPages, IsInItsSets, List, Nothing, Page, PageUse, PutsPage, SortsPage}
use Rattle.mk_books.proofs.Vocabulary.{ℕ, ap, arith, cases_eq, cond, free_page, get_or, get_or-set_other}
use Rattle.mk_books.proofs.Vocabulary.{get_or-set_same, inl, inr, is_member, is_resident_page, length, length-map}
use Rattle.mk_books.proofs.Vocabulary.{length-set, page_at, resident_pages, set, subst, sym, use_of_page, uses_of_pages}
use Rattle.mk_books.proofs.Vocabulary.{◌+◌, ◌<◌, ◌∙◌, ◌≡◌, ◌≤◌}

-- 1 for a resident page
abbrev pub resident_one : Page → ℕ
resident_one page = cond (is_resident_page (use_of_page page)) 1 0

pub resident_changed : (pages : List Page) (page : ℕ) (now : Page) → page < length pages → resident_pages (uses_of_pages
    (set pages page now)) + resident_one (page_at pages page) ≡ resident_pages (uses_of_pages pages) + resident_one now
resident_changed pages page now within =
    let one : PageUse → ℕ = λ u. cond (is_resident_page u) 1 0 in
    let long : page < length (uses_of_pages pages) = omega (arith, length-map pages use_of_page) in
    ap (λ u. resident_pages (uses_of_pages (set pages page now)) + one u)
    (sym (get_or-map use_of_page pages page free_page Nothing within))
    ∙ ap (λ uses. resident_pages uses + one (get_or (uses_of_pages pages) page Nothing))
    (map-set use_of_page pages page now) ∙ sum_by-set one (uses_of_pages pages) page (use_of_page now) Nothing long

-- a page changes, and is sorted by what stands on it then
pub fit_changed : {pages : List Page} {sets after : List ℕ} {page : ℕ} (now : Page) {resident : ℕ} (count : ℕ)
    → FitPages pages sets resident → page < length pages → SortsPage sets after page (use_of_page now)
    → count + resident_one (page_at pages page) ≡ resident + resident_one now
    → FitPages (set pages page now) after count
fit_changed {pages} {sets} {after} {page} now count fit inside sorts counted =
    let long : length (set pages page now) ≡ length pages = length-set pages page now in
    record {
      few = omega (arith, fit.few);
      are_sets = λ some. sorts.are_sets;
      sorted = λ number within. elim (cases_eq number page) [
        | inl same ↦ subst (λ (k : ℕ). IsInItsSets after k (use_of_page (page_at (set pages page now) k))) (sym same)
            (subst (λ (p : Page). IsInItsSets after page (use_of_page p))
            (sym (get_or-set_same pages page now free_page inside)) sorts.sorted)
        | inr differ ↦ λ s is_set. sorts.other_pages s number (omega arith) (omega (arith, fit.few)) differ
            ∙ subst (λ (p : Page). IsInItsSets sets number (use_of_page p))
            (sym (get_or-set_other pages page number now free_page differ)) (fit.sorted number (omega arith)) s is_set
      ];
      no_others = λ s number is_set past few. sorts.other_pages s number is_set few
          (λ same. absurd (omega arith)) ∙ fit.no_others s number is_set (omega arith) few;
      counted = omega (arith, fit.counted, resident_changed pages page now inside);
    }

-- a page is put into a set that doesn't tell what stands on it
pub fit_again : {pages : List Page} {sets after : List ℕ} {place page resident : ℕ} {inside : Bool} → 18 ≤ place
    → page < length pages → PutsPage sets after place page inside → FitPages pages sets resident
    → FitPages pages after resident
fit_again {sets} {after} {page = page} apart within puts fit = record {
  few = fit.few;
  are_sets = λ some. puts.are_sets;
  sorted = λ number inside s is_set. elim (cases_eq number page) [
    | inl same ↦ ap (is_member after s) same ∙ puts.other_sets s (omega arith) (omega arith)
        ∙ ap (is_member sets s) (sym same) ∙ fit.sorted number inside s is_set
    | inr differ ↦ puts.other_pages s number (omega arith) (omega (arith, fit.few)) differ
        ∙ fit.sorted number inside s is_set
  ];
  no_others = λ s number is_set past few.
      puts.other_pages s number is_set few (λ same. absurd (omega arith)) ∙ fit.no_others s number is_set past few;
  counted = fit.counted;
}
