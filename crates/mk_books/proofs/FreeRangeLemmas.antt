-- Ranges of free pages, page by page.
use Rattle.std.proofs.Common.{Bool, List, None, Option, Some, ℕ, ap, arith, drop, drop-drop, false, get_or}
use Rattle.std.proofs.Common.{if◌then◌else◌, le-leb, length, length-drop, max, option_map, refl, suc, sym, true, zero}
use Rattle.std.{proofs.{Common.{[], ◌+◌, ◌-◌, ◌<◌, ◌∙◌, ◌∷◌, ◌≡◌, ◌≤◌}, lemmas.Bool.lt-leb}, specs.Option.{option_or}}
use Rattle.std.proofs.lemmas.List.{at_drop_more, drop-map, length-map}
use Rattle.mk_geom.specs.PageUses.{PageUse, free_range, is_free_page, longest_free_range, range_start}
use Rattle.mk_geom.specs.{PageUses.{use_of_page, uses_of_pages}, declared.pages.Page.Page}

-- the longest range, if this many free pages come before these and the longest before is known
abbrev pub longest_with : ℕ → ℕ → List PageUse → ℕ
longest_with longest range rest = max longest (max (range + free_range rest) (longest_free_range rest))

free_range-le-longest_free_range : (pages : List PageUse) → free_range pages ≤ longest_free_range pages
free_range-le-longest_free_range [] = omega arith
free_range-le-longest_free_range (page ∷ pages) = omega arith

pub longest_with-start : (pages : List PageUse) → longest_with 0 0 pages ≡ longest_free_range pages
longest_with-start pages = omega (arith, free_range-le-longest_free_range pages)

-- one page more, free or not
pub longest_with-free : (longest range i : ℕ) (pages : List Page) (d : Page) → i < length pages
    → is_free_page (use_of_page (get_or pages i d)) ≡ true → longest_with longest range (uses_of_pages (drop i pages))
    ≡ longest_with (max (range + 1) longest) (range + 1) (uses_of_pages (drop (i + 1) pages))
longest_with-free longest range i pages d within free =
    at_drop_more (λ rest. longest_with longest range (uses_of_pages rest)) pages i d within ∙ rw free (omega arith)

pub longest_with-taken : (longest range i : ℕ) (pages : List Page) (d : Page) → i < length pages → range ≤ longest
    → is_free_page (use_of_page (get_or pages i d)) ≡ false → longest_with longest range (uses_of_pages (drop i pages))
    ≡ longest_with (max 0 longest) 0 (uses_of_pages (drop (i + 1) pages))
longest_with-taken longest range i pages d within below taken =
    at_drop_more (λ rest. longest_with longest range (uses_of_pages rest)) pages i d within
    ∙ rw taken (omega (arith, free_range-le-longest_free_range (uses_of_pages (drop (i + 1) pages))))

-- ---- the lowest range

range_start-later : (count : ℕ) (page : PageUse) (pages : List PageUse) → free_range (page ∷ pages) < count
    → range_start count (page ∷ pages) ≡ option_map (λ n. n + 1) (range_start count pages)
range_start-later count page pages short = rw (lt-leb count (free_range (page ∷ pages)) short) refl

range_start-here : (count : ℕ) (pages : List PageUse) → 1 ≤ count → count ≤ free_range pages
    → range_start count pages ≡ Some 0
range_start-here count [] some long = absurd (omega arith)
range_start-here count (page ∷ pages) some long = rw (le-leb count (free_range (page ∷ pages)) long) refl

range-le : (free : Bool) (m n : ℕ) → m ≤ n → (if free then m + 1 else 0) ≤ n + 1
range-le x0 m n below = grind arith

range-suc : (free : Bool) (m n : ℕ) → (if free then m + 1 else 0) ≡ suc n → m ≡ n
range-suc x0 m n longer = grind arith

free_range-le-length : (pages : List PageUse) → free_range pages ≤ length pages
free_range-le-length [] = omega arith
free_range-le-length (page ∷ pages) =
    let below = range-le (is_free_page page) (free_range pages) (length pages) (free_range-le-length pages) in
    omega (arith, below)

range_start-none : (count : ℕ) (pages : List PageUse) → length pages < count → range_start count pages ≡ None
range_start-none count [] few = refl
range_start-none count (page ∷ pages) few =
    range_start-later count page pages (omega (arith, free_range-le-length (page ∷ pages)))
    ∙ ap (λ first. option_map (λ n. n + 1) first) (range_start-none count pages (omega arith))

shifted_twice : (n : ℕ) (first : Option ℕ)
    → option_map (λ m. m + 1) (option_map (λ m. m + n) first) ≡ option_map (λ m. m + suc n) first
shifted_twice n x1 = grind arith

-- a range that is too short, and the page after it
range_start-skip : (count n : ℕ) (pages : List PageUse) → free_range pages ≡ n → n < count → n < length pages
    → range_start count pages ≡ option_map (λ m. m + suc n) (range_start count (drop (suc n) pages))
range_start-skip count n [] ends short within = absurd (omega arith)
range_start-skip count zero (page ∷ pages) ends short within = range_start-later count page pages (omega arith)
range_start-skip count (suc n) (page ∷ pages) ends short within =
    let rest : free_range pages ≡ n = range-suc (is_free_page page) (free_range pages) n ends in
    range_start-later count page pages (omega arith) ∙ ap (λ first. option_map (λ m. m + 1) first) (range_start-skip
    count n pages rest (omega arith) (omega arith)) ∙ shifted_twice _ (range_start count (drop (suc n) pages))

-- the free pages from page n on, and the lowest range from there on, as a place among all pages
abbrev pub free_range_from : ℕ → List Page → ℕ
free_range_from n pages = free_range (uses_of_pages (drop n pages))

abbrev pub range_start_from : ℕ → ℕ → List Page → Option ℕ
range_start_from n count pages = option_map (λ first. first + n) (range_start count (uses_of_pages (drop n pages)))

pub free_range_from-free : (n : ℕ) (pages : List Page) (d : Page) → n < length pages
    → is_free_page (use_of_page (get_or pages n d)) ≡ true → free_range_from n pages ≡ free_range_from (n + 1) pages + 1
free_range_from-free n pages d within free =
    at_drop_more (λ rest. free_range (uses_of_pages rest)) pages n d within ∙ rw free refl

pub free_range_from-taken : (n : ℕ) (pages : List Page) (d : Page) → n < length pages
    → is_free_page (use_of_page (get_or pages n d)) ≡ false → free_range_from n pages ≡ 0
free_range_from-taken n pages d within taken =
    at_drop_more (λ rest. free_range (uses_of_pages rest)) pages n d within ∙ rw taken refl

from_shifted : (first : Option ℕ) (n m k : ℕ) → n + m ≡ k
    → option_map (λ p. p + n) (option_map (λ p. p + m) first) ≡ option_map (λ p. p + k) first
from_shifted x0 n m k sum = grind arith

-- the range that ends before page n, which isn't free, is too short
range_start_from-skip : (range n count : ℕ) (pages : List Page) → range ≤ n → n < length pages
    → free_range_from range pages + range ≡ n → n < range + count
    → range_start_from range count pages ≡ range_start_from (n + 1) count pages
range_start_from-skip range n count pages begun within ends short =
    let rest = drop range pages in
    let m = n - range in
    let next : range + suc m ≡ n + 1 = omega arith in
    let long : length (uses_of_pages rest) ≡ length pages - range = length-map rest use_of_page
    ∙ length-drop range pages in
    ap (option_map (λ p. p + range)) (range_start-skip count m (uses_of_pages rest) (omega arith) (omega arith) (omega
    arith) ∙ ap (λ pages. option_map (λ p. p + suc m) (range_start count pages)) (drop-map use_of_page (suc m) rest ∙ ap
    uses_of_pages (drop-drop (suc m) range pages ∙ ap (λ k. drop k pages) next))) ∙ from_shifted (range_start count
    (uses_of_pages (drop (n + 1) pages))) range _ (n + 1) next

range_start_from-end : (range count : ℕ) (pages : List Page) → range ≤ length pages → length pages < range + count
    → range_start_from range count pages ≡ None
range_start_from-end range count pages begun short =
    let rest = drop range pages in
    let long : length (uses_of_pages rest) ≡ length pages - range = length-map rest use_of_page
    ∙ length-drop range pages in
    ap (option_map (λ p. p + range)) (range_start-none count (uses_of_pages rest) (omega arith))

-- the first range that is known, and the lowest from there on: past a page that isn't free, at a range that is long
-- enough, and at the end
pub first-skip : (first : Option ℕ) (range n count : ℕ) (pages : List Page) → range ≤ n → n < length pages
    → free_range_from range pages + range ≡ n → (first ≡ None → n < range + count)
    → option_or first (range_start_from range count pages) ≡ option_or first (range_start_from (n + 1) count pages)
first-skip x0 range n count pages begun within ends short = grind (arith, range_start_from-skip)

pub first-here : (first : Option ℕ) (range count : ℕ) (pages : List Page) → 1 ≤ count
    → count ≤ free_range_from range pages → option_or first (range_start_from range count pages)
    ≡ option_or (option_or first (Some range)) (range_start_from range count pages)
first-here None range count pages some long = grind (arith, range_start-here)
first-here (Some first) range count pages some long = refl

pub first-end : (first : Option ℕ) (range count : ℕ) (pages : List Page) → range ≤ length pages
    → (first ≡ None → length pages < range + count) → option_or first (range_start_from range count pages) ≡ first
first-end x0 range count pages begun short = grind (arith, range_start_from-end)

-- what a loop knows of the ranges at page n: where the one begins that ends there, and the first that is long enough
pub record SeesRanges (first : Option ℕ) (range n count : ℕ) (pages : List Page) : Type 0 where
  pub begun : range ≤ n
  pub free : free_range_from range pages + range ≡ n + free_range_from n pages
  pub short : first ≡ None → n < range + count
  pub lowest : option_or first (range_start_from range count pages) ≡ range_start count (uses_of_pages pages)

-- and past a page: one that isn't free, one with which the range is long enough, and one with which it is too short
pub past_taken : {first : Option ℕ} {range n count : ℕ} {pages : List Page} (d : Page) → 1 ≤ count → n < length pages
    → is_free_page (use_of_page (get_or pages n d)) ≡ false → SeesRanges first range n count pages
    → SeesRanges first (n + 1) (n + 1) count pages
past_taken {first} {range} {n} {count} {pages} d some within taken sees = record {
  begun = omega arith;
  free = omega arith;
  short = λ none. omega arith;
  lowest = sym (first-skip first range n count pages sees.begun within
      (omega (arith, free_range_from-taken n pages d within taken, sees.free)) sees.short) ∙ sees.lowest;
}

pub past_long : {first : Option ℕ} {range n count : ℕ} {pages : List Page} (d : Page) → 1 ≤ count → n < length pages
    → is_free_page (use_of_page (get_or pages n d)) ≡ true → count ≤ n + 1 - range
    → SeesRanges first range n count pages → SeesRanges (option_or first (Some range)) range (n + 1) count pages
past_long d some within free long sees = grind (arith, first-here, free_range_from-free)

pub past_short : {first : Option ℕ} {range n count : ℕ} {pages : List Page} (d : Page) → n < length pages
    → is_free_page (use_of_page (get_or pages n d)) ≡ true → n + 1 - range < count
    → SeesRanges first range n count pages → SeesRanges first range (n + 1) count pages
past_short d within free short sees = grind (arith, free_range_from-free)
