-- First fit, page by page: what the pages from one on give, and the pages before it.
use Rattle.std.proofs.Common.{Bool, List, None, Option, Some, ℕ, ap, arith, cond, count_by, drop, false, get_or, length}
use Rattle.std.proofs.Common.{map, not, option_map, refl, sym, true, zero-add, [], ◌+◌, ◌<◌, ◌∙◌, ◌∷◌, ◌≡◌, ◌≤◌}
use Rattle.std.proofs.lemmas.List.{at_drop_all, at_drop_more, Sums.sum_by-cons}
use Rattle.std.specs.Option.{option_or}
use Rattle.mk_geom.specs.PageUses.{cell_place, cells_taken, first_where, is_free_page, is_resident_page, page_behind}
use Rattle.mk_geom.specs.{PageUses.{resident_pages, use_of_page, uses_of_pages}, declared.pages.Page.Page}
use Rattle.mk_geom.specs.declared.pages.Place.{Place}

-- a place among the pages from page n on, as a place among all
abbrev pub place_behind : ℕ → Place → Place
place_behind n place = record place { page = place.page + n }

abbrev pub cell_from : ℕ → ℕ → Bool → List Page → Option Place
cell_from n class leaf pages = option_map (place_behind n) (cell_place class leaf (uses_of_pages (drop n pages)))

abbrev pub resident_from : ℕ → List Page → ℕ
resident_from n pages = resident_pages (uses_of_pages (drop n pages))

abbrev pub free_page_from : ℕ → List Page → Option ℕ
free_page_from n pages = option_map (λ page. page + n) (first_where is_free_page (uses_of_pages (drop n pages)))

place_behind-suc : (n : ℕ) (place : Option Place)
    → option_map (place_behind n) (option_map page_behind place) ≡ option_map (place_behind (n + 1)) place
place_behind-suc n x1 = grind arith

behind-suc : (n : ℕ) (page : Option ℕ)
    → option_map (λ page. page + n) (option_map (λ page. page + 1) page) ≡ option_map (λ page. page + (n + 1)) page
behind-suc n x1 = grind arith

pub cell_from-next : (n class : ℕ) (leaf : Bool) (pages : List Page) (d : Page) → n < length pages
    → first_where not (cells_taken class leaf (use_of_page (get_or pages n d))) ≡ None
    → cell_from n class leaf pages ≡ cell_from (n + 1) class leaf pages
cell_from-next n class leaf pages d within none =
    at_drop_more (λ rest. option_map (place_behind n) (cell_place class leaf (uses_of_pages rest))) pages n d within
    ∙ rw none (place_behind-suc n (cell_place class leaf (uses_of_pages (drop (n + 1) pages))))

pub resident_from-next : (n : ℕ) (pages : List Page) (d : Page) (resident : Bool) → n < length pages
    → is_resident_page (use_of_page (get_or pages n d)) ≡ resident
    → resident_from n pages ≡ cond resident 1 0 + resident_from (n + 1) pages
resident_from-next n pages d resident within known =
    at_drop_more (λ rest. resident_pages (uses_of_pages rest)) pages n d within
    ∙ sum_by-cons (λ page. cond (is_resident_page page) 1 0) (use_of_page (get_or pages n d))
    (uses_of_pages (drop (n + 1) pages)) ∙ ap (λ test. cond test 1 0 + resident_from (n + 1) pages) known

pub resident_from-end : (n : ℕ) (pages : List Page) → length pages ≤ n → resident_from n pages ≡ 0
resident_from-end n pages past = at_drop_all (λ rest. resident_pages (uses_of_pages rest)) pages n past

pub free_page_from-next : (n : ℕ) (pages : List Page) (d : Page) → n < length pages
    → is_free_page (use_of_page (get_or pages n d)) ≡ false → free_page_from n pages ≡ free_page_from (n + 1) pages
free_page_from-next n pages d within taken =
    at_drop_more (λ rest. option_map (λ page. page + n) (first_where is_free_page (uses_of_pages rest))) pages n d
    within ∙ rw taken (behind-suc n (first_where is_free_page (uses_of_pages (drop (n + 1) pages))))

pub free_page_from-here : (n : ℕ) (pages : List Page) (d : Page) → n < length pages
    → is_free_page (use_of_page (get_or pages n d)) ≡ true → free_page_from n pages ≡ Some n
free_page_from-here n pages d within free =
    at_drop_more (λ rest. option_map (λ page. page + n) (first_where is_free_page (uses_of_pages rest))) pages n d
    within ∙ rw free (ap Some (zero-add n))

-- the first of three, of which two are known
pub or_known : (first : Option ℕ) (n : ℕ) (rest : Option ℕ)
    → option_or first (Some n) ≡ option_or (option_or first (Some n)) rest
or_known x0 n rest = grind arith

pub count_by-map : {A B : Type 0} (p : B → Bool) (f : A → B) (xs : List A)
    → count_by p (map f xs) ≡ count_by (λ x. p (f x)) xs
count_by-map p f [] = refl
count_by-map p f (x ∷ xs) = sum_by-cons (λ y. cond (p y) 1 0) (f x) (map f xs)
    ∙ ap (λ count. cond (p (f x)) 1 0 + count) (count_by-map p f xs) ∙ sym (sum_by-cons (λ y. cond (p (f y)) 1 0) x xs)
