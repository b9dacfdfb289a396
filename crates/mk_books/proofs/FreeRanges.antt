-- The lowest range of free pages, from one range to the next.
use Rattle.std.proofs.{Common.{if◌then◌else◌, le-leb, nat_le, option_map, ◌∷◌}, lemmas.Bool.{both_ways, not-false}}
use Rattle.std.{proofs.{lemmas.Bool.not-true, lemmas.List.at_drop_all}, specs.Option.{unwrap_or}}
use Rattle.mk_books.proofs.Vocabulary.{Bool, IsNext, List, None, Option, Page, PageUse, Some, ℕ, ap, arith, cases_lt}
use Rattle.mk_books.proofs.Vocabulary.{false, first_where, free_page, inl, inr, is_free_page, is_in_use, length}
use Rattle.mk_books.proofs.Vocabulary.{page_at, range_start, range_start_from, refl, suc, sym, true, use_of_page}
use Rattle.mk_books.proofs.Vocabulary.{uses_of_pages, zero, [], ◌+◌, ◌-◌, ◌<◌, ◌∙◌, ◌≡◌, ◌≤◌}
use Rattle.mk_geom.specs.PageUses.{free_range}
use Rattle.mk_books.proofs.FreeRangeLemmas.{first-end, first-here, first-skip, free_range_from, free_range_from-free}
use Rattle.mk_books.proofs.FreeRangeLemmas.{free_range_from-taken}

abbrev pub is_free_at : List Page → ℕ → Bool
is_free_at pages number = is_free_page (use_of_page (page_at pages number))

-- a single page

one_page : (free : Bool) (range : ℕ) (rest other : Option ℕ) → rest ≡ other → (if free then Some 0 else option_map
    (λ n. n + 1) rest) ≡ (if nat_le 1 (if free then range + 1 else 0) then Some 0 else option_map (λ n. n + 1) other)
one_page _ range rest other same = grind (arith, le-leb)

pub lowest_page_is_range : (uses : List PageUse) → first_where is_free_page uses ≡ range_start 1 uses
lowest_page_is_range [] = refl
lowest_page_is_range (page ∷ pages) =
    one_page (is_free_page page) (free_range pages) (first_where is_free_page pages) (range_start 1 pages)
    (lowest_page_is_range pages)

-- past pages in use, of which there are this many
past_used : (gap from count : ℕ) (pages : List Page) → 1 ≤ count → from + gap ≤ length pages
    → ((number : ℕ) → from ≤ number → number < from + gap → is_free_at pages number ≡ false)
    → range_start_from from count pages ≡ range_start_from (from + gap) count pages
past_used zero from count pages some within used = ap (λ n. range_start_from n count pages) (omega arith)
past_used (suc gap) from count pages some within used =
    let taken : free_range_from from pages ≡ 0 =
    free_range_from-taken from pages free_page (omega arith) (used from (omega arith) (omega arith)) in
    first-skip None from from count pages (omega arith) (omega arith) (omega arith) (λ _. omega arith)
    ∙ past_used gap (from + 1) count pages some (omega arith) (λ k low high. used k (omega arith) (omega arith))
    ∙ ap (λ n. range_start_from n count pages) (omega arith)

pub past_pages_in_use : (from start count : ℕ) (pages : List Page) → 1 ≤ count → from ≤ start → start ≤ length pages
    → ((number : ℕ) → from ≤ number → number < start → is_free_at pages number ≡ false)
    → range_start_from from count pages ≡ range_start_from start count pages
past_pages_in_use from start count pages some above within used =
    past_used (start - from) from count pages some (omega arith) (λ k low high. used k low (omega arith))
    ∙ ap (λ n. range_start_from n count pages) (omega arith)

-- this many free pages, and then none
range_of : (gap start : ℕ) (pages : List Page) → start + gap ≤ length pages
    → ((number : ℕ) → start ≤ number → number < start + gap → is_free_at pages number ≡ true)
    → (start + gap < length pages → is_free_at pages (start + gap) ≡ false) → free_range_from start pages ≡ gap
range_of zero start pages within free ends = elim (cases_lt start (length pages)) [
  | inl more ↦
      let here : start + 0 ≡ start = omega arith in
      free_range_from-taken start pages free_page more (ap (is_free_at pages) (sym here) ∙ ends (omega arith))
  | inr all ↦ at_drop_all (λ rest. free_range (uses_of_pages rest)) pages start all
]
range_of (suc gap) start pages within free ends =
    let next : start + 1 + gap ≡ start + suc gap = omega arith in
    free_range_from-free start pages free_page (omega arith) (free start (omega arith) (omega arith)) ∙ ap (λ n. n + 1)
    (range_of gap (start + 1) pages (omega arith) (λ k low high. free k (omega arith) (omega arith))
    (λ more. ap (is_free_at pages) next ∙ ends (omega arith))) ∙ omega arith

-- free pages from `start` on, up to the next page in use or the end
pub record IsRange (pages : List Page) (start end : ℕ) : Type 0 where
  pub ends_after : start < end
  pub within : end ≤ length pages
  pub free : (number : ℕ) → start ≤ number → number < end → is_free_at pages number ≡ true
  pub ends : end < length pages → is_free_at pages end ≡ false

pub range_is_long : {start end : ℕ} (count : ℕ) {pages : List Page} → 1 ≤ count → IsRange pages start end
    → count ≤ end - start → range_start_from start count pages ≡ Some start
range_is_long {start} {end} count {pages} some range long =
    let same : start + (end - start) ≡ end = omega (arith, range.ends_after) in
    let is : free_range_from start pages ≡ end - start =
    range_of (end - start) start pages (omega (arith, range.within)) (λ k low high. range.free k low (omega arith))
    (λ more. ap (is_free_at pages) same ∙ range.ends (omega arith)) in
    first-here None start count pages some (omega arith)

pub range_is_short : {start end : ℕ} (count : ℕ) {pages : List Page} → 1 ≤ count → IsRange pages start end
    → end - start < count → range_start_from start count pages ≡ range_start_from end count pages
range_is_short {start} {end} count {pages} some range short =
    let same : start + (end - start) ≡ end = omega (arith, range.ends_after) in
    let is : free_range_from start pages ≡ end - start =
    range_of (end - start) start pages (omega (arith, range.within)) (λ k low high. range.free k low (omega arith))
    (λ more. ap (is_free_at pages) same ∙ range.ends (omega arith)) in
    elim (cases_lt end (length pages)) [
      | inl more ↦
          let taken : free_range_from end pages ≡ 0 = grind (arith, free_range_from-taken) in
          first-skip None start end count pages (omega (arith, range.ends_after)) more
          (omega (arith, range.ends_after)) (λ _. omega (arith, range.ends_after))
          ∙ sym (first-skip None end end count pages (omega arith) more (omega arith) (λ _. omega arith))
      | inr all ↦ first-end None start count pages (omega (arith, range.ends_after, range.within))
          (λ _. omega (arith, range.ends_after)) ∙ sym (first-end None end count pages range.within (λ _. omega arith))
    ]

-- the range that begins at a free page
pub range_from : (pages : List Page) {start : ℕ} (next : Option ℕ) → start < length pages → is_free_at pages start
    ≡ true → IsNext (is_in_use pages) start (length pages) next → IsRange pages start (unwrap_or next (length pages))
range_from pages next_one within free next = grind (arith, not-false, is_free_at, cases_lt, both_ways, not-true)

pub no_range : {from : ℕ} (count : ℕ) (pages : List Page) → 1 ≤ count → from ≤ length pages
    → IsNext (is_free_at pages) from (length pages) None → range_start_from from count pages ≡ None
no_range {from} count pages some within none =
    past_pages_in_use from (length pages) count pages some within (omega arith) none
    ∙ first-end None (length pages) count pages (omega arith) (λ _. omega arith)
