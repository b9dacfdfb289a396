-- The place of a small object is in the lowest block that has a free cell.
use Rattle.std.proofs.Common.{add-one, if◌then◌else◌, option_and_then, option_map, ◌∷◌}
use Rattle.mk_books.proofs.Vocabulary.{Bool, List, None, Option, Page, Some, ℕ, ap, arith, false, first_where}
use Rattle.mk_books.proofs.Vocabulary.{has_free_cell, is_free_page, is_some, nat_lt, not, page_at, refl, resident_pages}
use Rattle.mk_books.proofs.Vocabulary.{sym, use_of_page, uses_of_pages, [], ◌+◌, ◌∙◌, ◌≡◌}
use Rattle.mk_books.specs.KnownPages.{LowestBlockHasThePlace, free_cell_on}
use Rattle.mk_geom.specs.{PageUses.{carved, cell_place, cells_taken, or_else, page_behind}, declared.pages.Place.Place}

abbrev cell_here : ℕ → ℕ → Place
cell_here number index = record { page = number; index = index; carve = false }

-- the free cell of a page, one page further on
one_on : (class number : ℕ) (leaf : Bool) (page : Page) (pages : List Page) → option_map page_behind
    (free_cell_on class leaf pages number) ≡ free_cell_on class leaf (page ∷ pages) (number + 1)
one_on class number leaf page pages =
    (grind arith)
    ∙ ap (λ p. option_map (cell_here (number + 1)) (first_where not (cells_taken class leaf (use_of_page p))))
    (ap (page_at (page ∷ pages)) (sym (add-one number)))

-- the page, if it has a free cell, and the others
by_page : (class : ℕ) (leaf : Bool) (page : Page) (pages : List Page) (index later : Option ℕ) → first_where not
    (cells_taken class leaf (use_of_page page)) ≡ index → or_else (option_map (cell_here 0) index)
    (option_map page_behind (option_and_then (free_cell_on class leaf pages) later)) ≡ option_and_then
    (free_cell_on class leaf (page ∷ pages)) (if is_some index then Some 0 else option_map (λ n. n + 1) later)
by_page class leaf page pages _ later here = grind (arith, cell_here, one_on)

cell_is_on : (class : ℕ) (leaf : Bool) (pages : List Page) → cell_place class leaf (uses_of_pages pages)
    ≡ option_and_then (free_cell_on class leaf pages) (first_where (has_free_cell class leaf) (uses_of_pages pages))
cell_is_on class leaf [] = refl
cell_is_on class leaf (page ∷ pages) =
    ap (λ place. or_else (option_map (cell_here 0) (first_where not (cells_taken class leaf (use_of_page page))))
    (option_map page_behind place)) (cell_is_on class leaf pages) ∙ by_page class leaf page pages (first_where not
    (cells_taken class leaf (use_of_page page))) (first_where (has_free_cell class leaf) (uses_of_pages pages)) refl

pub lowest_block_has_the_place : LowestBlockHasThePlace
lowest_block_has_the_place limit class leaf pages =
    let carve = if nat_lt (resident_pages (uses_of_pages pages)) limit
    then option_map carved (first_where is_free_page (uses_of_pages pages)) else None in
    ap (λ place. or_else place carve) (cell_is_on class leaf pages)
