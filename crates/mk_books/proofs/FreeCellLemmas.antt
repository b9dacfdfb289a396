-- The free cells of each class, page by page.
use Rattle.std.proofs.Common.{Bool, List, Option, ℕ, ap, arith, count_by, eq-eqb, false, get_or, if◌then◌else◌, length}
use Rattle.std.proofs.Common.{length-take-le, ne_eqb, not, refl, set, sym, take, true, [], ◌*◌, ◌++◌, ◌+◌, ◌-◌, ◌<◌}
use Rattle.std.proofs.{Common.{◌^◌, ◌∙◌, ◌∷◌, ◌≡◌, ◌≢◌, ◌≤◌}, lemmas.List.{get_or-append_right, get_or_append_left}}
use Rattle.std.proofs.lemmas.List.{map_more, same_lists, set-append_left, set-append_right}
use Rattle.std.proofs.lemmas.List.FromFn.{get_or-map-range_with_len, length-map-range_with_len}
use Rattle.std.proofs.{lemmas.List.Sums.{count_by-le-length, sum_by-cons, sum_by_push}, Math.Bool.beq}
use Rattle.std.proofs.lemmas.Bool.{and_right}
use Rattle.mk_geom.specs.{PageUses.{bits_of, use_of_page, use_under, uses_of_pages}, Addresses.cells_of}
use Rattle.mk_geom.specs.{Addresses.header_of, PageUses.{Cells, PageUse, cells_taken, free_cells_among}}
use Rattle.mk_geom.specs.declared.{headers.Header.Header, pages.Page.Page}
use Rattle.mk_books.proofs.UsedBitLemmas.{length-bits_of}
use Rattle.mk_books.specs.Cells.{HasNoCells, class_place, free_cells_by_class, free_cells_of_sort}

free_cells_among-push : (leaf : Bool) (pages : List PageUse) (page : PageUse) (class : ℕ) → free_cells_among leaf
    (pages ++ page ∷ []) class ≡ free_cells_among leaf pages class + count_by not (cells_taken class leaf page)
free_cells_among-push leaf pages page class = grind (arith, sum_by_push)

length-free_cells_of_sort : (leaf : Bool) (pages : List PageUse) → length (free_cells_of_sort leaf pages) ≡ 8
length-free_cells_of_sort leaf pages = length-map-range_with_len (free_cells_among leaf pages) 0 8

get_or-free_cells_of_sort : (leaf : Bool) (pages : List PageUse) (class d : ℕ) → class < 8
    → get_or (free_cells_of_sort leaf pages) class d ≡ free_cells_among leaf pages class
get_or-free_cells_of_sort leaf pages class d within =
    get_or-map-range_with_len (free_cells_among leaf pages) 0 8 class class d within (omega arith)

same_class : (leaf : Bool) (taken : List Bool) (class : ℕ) → cells_taken class leaf (Cells class leaf taken) ≡ taken
same_class leaf taken class = grind (arith, eq-eqb)

other_class : (leaf : Bool) (taken : List Bool) (class other : ℕ) → other ≢ class
    → cells_taken other leaf (Cells class leaf taken) ≡ []
other_class leaf taken class other differ = rw (ne_eqb other class differ) refl

other_sort : (leaf : Bool) (taken : List Bool) (class other : ℕ)
    → cells_taken other (not leaf) (Cells class leaf taken) ≡ []
other_sort x0 taken class other = grind (arith, and_right)

pub same_flags : (a b : Bool) → beq a b ≡ true → a ≡ b
same_flags x0 x1 same = grind arith

-- the cells of a page, at the class and sort that it has
pub cells_taken_alike : (page : PageUse) (class class' : ℕ) (leaf leaf' : Bool) (used : ℕ)
    → page ≡ Cells class' leaf' (bits_of (cells_of class') used) → class' ≡ class → leaf' ≡ leaf
    → cells_taken class leaf page ≡ bits_of (cells_of class) used
cells_taken_alike page class class' leaf leaf' used stands same_class' same_sort' = grind (arith, same_class)

-- one page more that has cells of the sort
of_sort-push : (leaf : Bool) (pages : List PageUse) (class : ℕ) (taken : List Bool) → class < 8
    → free_cells_of_sort leaf (pages ++ Cells class leaf taken ∷ [])
    ≡ set (free_cells_of_sort leaf pages) class (get_or (free_cells_of_sort leaf pages) class 0 + count_by not taken)
of_sort-push leaf pages class taken within =
    grind (
      arith,
      free_cells_among-push,
      same_class,
      get_or-free_cells_of_sort,
      other_class,
      length-map-range_with_len,
      same_lists,
      get_or-map-range_with_len,
    )

-- one page more that has none of the sort's cells
of_sort-push_other : (leaf : Bool) (pages : List PageUse) (page : PageUse) → ((class : ℕ)
    → cells_taken class leaf page ≡ []) → free_cells_of_sort leaf (pages ++ page ∷ []) ≡ free_cells_of_sort leaf pages
of_sort-push_other leaf pages page none = grind (arith, free_cells_among-push)

-- a list of two parts of 8, at a place of each
back : (class : ℕ) → 8 + class - 8 ≡ class
back class = omega arith

get_or-halves : (blocks leaves : List ℕ) (class : ℕ) (leaf : Bool) → length blocks ≡ 8 → class < 8
    → get_or (blocks ++ leaves) (class_place class leaf) 0 ≡ get_or (if leaf then leaves else blocks) class 0
get_or-halves blocks leaves class false long within = get_or_append_left blocks leaves 0 class (omega arith)
get_or-halves blocks leaves class true long within = grind (arith, get_or-append_right, back)

set-halves : (blocks leaves : List ℕ) (class y : ℕ) (leaf : Bool) → length blocks ≡ 8 → class < 8 → set (blocks ++
    leaves) (class_place class leaf) y ≡ (if leaf then blocks ++ set leaves class y else set blocks class y ++ leaves)
set-halves blocks leaves class y false long within = set-append_left blocks leaves class y (omega arith)
set-halves blocks leaves class y true long within =
    cc (set-append_right blocks leaves 8 (8 + class) y long (omega arith), back class)

-- one page more, a block
by_class-push : (pages : List PageUse) (class : ℕ) (leaf : Bool) (taken : List Bool) → class < 8
    → free_cells_by_class (pages ++ Cells class leaf taken ∷ []) ≡ set (free_cells_by_class pages)
    (class_place class leaf) (get_or (free_cells_by_class pages) (class_place class leaf) 0 + count_by not taken)
by_class-push pages class false taken within =
    let blocks = free_cells_of_sort false pages in
    let leaves = free_cells_of_sort true pages in
    let long = length-free_cells_of_sort false pages in
    ap (λ rest. free_cells_of_sort false (pages ++ Cells class false taken ∷ []) ++ rest)
    (of_sort-push_other true pages (Cells class false taken) (other_sort false taken class))
    ∙ ap (λ front. front ++ leaves) (of_sort-push false pages class taken within) ∙ sym
    (set-halves blocks leaves class (get_or blocks class 0 + count_by not taken) false long within) ∙ ap (λ count. set
    (blocks ++ leaves) class (count + count_by not taken)) (sym (get_or-halves blocks leaves class false long within))
by_class-push pages class true taken within =
    let blocks = free_cells_of_sort false pages in
    let leaves = free_cells_of_sort true pages in
    let long = length-free_cells_of_sort false pages in
    ap (λ front. front ++ free_cells_of_sort true (pages ++ Cells class true taken ∷ []))
    (of_sort-push_other false pages (Cells class true taken) (other_sort true taken class))
    ∙ ap (λ rest. blocks ++ rest) (of_sort-push true pages class taken within) ∙ sym (set-halves blocks leaves class
    (get_or leaves class 0 + count_by not taken) true long within) ∙ ap (λ count. set (blocks ++ leaves) (8 + class)
    (count + count_by not taken)) (sym (get_or-halves blocks leaves class true long within))

get_or-by_class : (pages : List PageUse) (class : ℕ) (leaf : Bool) → class < 8
    → get_or (free_cells_by_class pages) (class_place class leaf) 0 ≡ free_cells_among leaf pages class
get_or-by_class pages class false within =
    get_or-halves (free_cells_of_sort false pages) (free_cells_of_sort true pages) class false
    (length-free_cells_of_sort false pages) within ∙ get_or-free_cells_of_sort false pages class 0 within
get_or-by_class pages class true within =
    get_or-halves (free_cells_of_sort false pages) (free_cells_of_sort true pages) class true
    (length-free_cells_of_sort false pages) within ∙ get_or-free_cells_of_sort true pages class 0 within

-- a page has at most 32 cells
cells_of-le : (class : ℕ) → cells_of class ≤ 32
cells_of-le x0 = grind arith

cells_if : (test : Bool) (cells used : ℕ) → cells ≤ 32 → length (if test then bits_of cells used else []) ≤ 32
cells_if x0 cells used few = grind (arith, length-bits_of)

length-cells_taken-le : (class : ℕ) (leaf : Bool) (header : Option Header) (used : ℕ)
    → length (cells_taken class leaf (use_under header used)) ≤ 32
length-cells_taken-le class leaf x2 used = grind (arith, cells_if, cells_of-le)

-- the free cells of one page more are at most 32
free_cells_among-le : (class : ℕ) (leaf : Bool) (pages : List Page)
    → free_cells_among leaf (uses_of_pages pages) class ≤ 32 * length pages
free_cells_among-le class leaf [] = omega arith
free_cells_among-le class leaf (page ∷ pages) =
    let taken = cells_taken class leaf (use_of_page page) in
    omega (
      arith,
      sum_by-cons (λ stands. count_by not (cells_taken class leaf stands)) (use_of_page page) (uses_of_pages pages),
      count_by-le-length not taken,
      length-cells_taken-le class leaf (header_of page.header) page.used,
      free_cells_among-le class leaf pages,
    )

-- A loop over the pages: what its variables are if page i is a block.
pub record AtBlock (pages : List Page) (i : ℕ) (counts : List ℕ) (class : ℕ) (leaf : Bool) (page : Page)
    (place count : ℕ) : Type 0 where
  pub within : i < length pages
  pub here : page ≡ get_or pages i page
  pub known : class < 8
  pub stands : use_of_page page ≡ Cells class leaf (bits_of (cells_of class) page.used)
  pub counted : counts ≡ free_cells_by_class (uses_of_pages (take i pages))
  pub placed : place ≡ class_place class leaf
  pub added : count ≡ count_by not (bits_of (cells_of class) page.used)

pub at_block : {pages : List Page} {i : ℕ} {counts : List ℕ} {class : ℕ} {leaf : Bool} {page : Page} {place count : ℕ}
    → i < length pages → page ≡ get_or pages i page → class < 8
    → use_of_page page ≡ Cells class leaf (bits_of (cells_of class) page.used)
    → counts ≡ free_cells_by_class (uses_of_pages (take i pages)) → place ≡ class_place class leaf
    → count ≡ count_by not (bits_of (cells_of class) page.used) → AtBlock pages i counts class leaf page place count
at_block within here known stands counted placed added = grind arith

-- the count of the class fits 64 bits, if the pages are in memory
pub room_for_block : {pages : List Page} {i : ℕ} {counts : List ℕ} {class : ℕ} {leaf : Bool} {page : Page}
    {place count : ℕ} → AtBlock pages i counts class leaf page place count → length pages * 16 < 2 ^ 63
    → get_or counts place 0 + count < 2 ^ 64
room_for_block {pages} {i} {counts} {class} {leaf} {page} {place} at in_memory =
    let before = uses_of_pages (take i pages) in
    let counted : get_or counts place 0 ≡ free_cells_among leaf before class
    = (λ j. get_or (at.counted j) (at.placed j) 0) ∙ get_or-by_class before class leaf at.known in
    omega (
      arith,
      counted,
      at.added,
      at.within,
      free_cells_among-le class leaf (take i pages),
      length-take-le i pages (omega (arith, at.within)),
      count_by-le-length not (bits_of (cells_of class) page.used),
      length-bits_of (cells_of class) page.used,
      cells_of-le class,
    )

pub by_class-more : {pages : List Page} {i : ℕ} {counts : List ℕ} {class : ℕ} {leaf : Bool} {page : Page}
    {place count : ℕ} → AtBlock pages i counts class leaf page place count
    → set counts place (get_or counts place 0 + count) ≡ free_cells_by_class (uses_of_pages (take (i + 1) pages))
by_class-more {pages} {i} {class} {leaf} {page} at =
    let before = uses_of_pages (take i pages) in
    (λ j. set (at.counted j) (at.placed j) (get_or (at.counted j) (at.placed j) 0 + at.added j))
    ∙ sym (ap free_cells_by_class (map_more use_of_page pages i page at.within
    ∙ ap (λ last. before ++ use_of_page last ∷ []) (sym at.here) ∙ ap (λ last. before ++ last ∷ []) at.stands)
    ∙ by_class-push before class leaf (bits_of (cells_of class) page.used) at.known)

pub by_class-more_other : (pages : List Page) (i : ℕ) (d : Page) → i < length pages
    → HasNoCells (use_of_page (get_or pages i d))
    → free_cells_by_class (uses_of_pages (take i pages)) ≡ free_cells_by_class (uses_of_pages (take (i + 1) pages))
by_class-more_other pages i d within none = sym (ap free_cells_by_class (map_more use_of_page pages i d within)
    ∙ (grind (arith, of_sort-push_other)))
