-- First fit finds a place that is as it says.
use Rattle.std.proofs.Common.{Bool, List, None, Option, Some, ℕ, add-one, ap, arith, eqb-true, false, get_or}
use Rattle.std.proofs.Common.{if◌then◌else◌, inl, inr, le-leb, leb-true, length, ltb-true, nat_le, nat_lt, not}
use Rattle.std.proofs.Common.{option_map, refl, slice_get, subst, suc, sym, true, zero, [], ◌+◌, ◌<◌, ◌∙◌, ◌∷◌, ◌≡◌}
use Rattle.std.proofs.{Common.{◌≤◌, ◌⊎◌}, lemmas.Bool.{and_parts, cases_Bool, cond-false, cond-true, cond_both}}
use Rattle.std.proofs.lemmas.{Bool.{false≢true, lt-leb, not-true}, Option.{none-some, same_Some, slice_get-map}}
use Rattle.std.{proofs.lemmas.List.{get_or-map, length-map}, specs.List.{AllWithin}}
use Rattle.mk_geom.proofs.{ClassTable.{class_for-some, class_words_within, some_cells}, Bridge.same_places}
use Rattle.mk_geom.specs.{Addresses.{cells_of, class_for, run_pages_of}, PageUses.{Cells, Nothing, PageUse, PartOfRun}}
use Rattle.mk_geom.specs.PageUses.{carved, cell_place, cells_taken, first_where, free_range, is_free_page, large_place}
use Rattle.mk_geom.specs.PageUses.{or_else, page_behind, place_on_uses, range_start, resident_pages, small_place}
use Rattle.mk_geom.specs.PageUses.{AreFree, IsCellPlace, IsRunPlace, MayTakeCell}
use Rattle.mk_geom.specs.{PageUses.{use_of_page, uses_of_pages}, Storages.{PagesStandFor, Storage}}
use Rattle.mk_geom.specs.{Storages.place_among_storages, declared.pages.{Page.Page, Place.Place}}

or_else_cases : {A : Type 0} (o p : Option A) (x : A) → or_else o p ≡ Some x → (o ≡ Some x) ⊎ (p ≡ Some x)
or_else_cases x0 p x is = grind arith

option_map_some : {A B : Type 0} (f : A → B) (o : Option A) (y : B) → option_map f o ≡ Some y
    → (x : A) × (o ≡ Some x) × (f x ≡ y)
option_map_some f x1 y is = grind (arith, same_Some, none-some)

if_some : {A : Type 0} (b : Bool) (o : Option A) (x : A) → (if b then o else None) ≡ Some x → (b ≡ true) × (o ≡ Some x)
if_some x0 o x is = grind (arith, none-some)

first_where_passes : {A : Type 0} (p : A → Bool) (xs : List A) (i : ℕ) → first_where p xs ≡ Some i
    → (x : A) × (slice_get xs i ≡ Some x) × (p x ≡ true)
first_where_passes p [] i is = absurd (none-some i is)
first_where_passes {A} p (x ∷ xs) i is = elim (cases_Bool (p x)) [
  | inl passes ↦
      let zero_is : 0 ≡ i = same_Some 0 i (sym (cond-true (p x) (Some 0) _ passes) ∙ is) in
      (x, ap (slice_get (x ∷ xs)) (sym zero_is), passes)
  | inr fails ↦
      let (n, found, suc_is) =
      option_map_some (λ (n : ℕ). n + 1) (first_where p xs) i (sym (cond-false (p x) (Some 0) _ fails) ∙ is) in
      let (y, at, passes) = first_where_passes p xs n found in
      let place : i ≡ suc n = omega arith in (y, ap (slice_get (x ∷ xs)) place ∙ at, passes)
]

-- a cell that isn't taken on a page
free_cell_is : (class : ℕ) (leaf : Bool) (u : PageUse) (index : ℕ) → first_where not (cells_taken class leaf u)
    ≡ Some index → MayTakeCell class leaf index u × (false ≡ is_free_page u)
free_cell_is class leaf Nothing index is = absurd (none-some index is)
free_cell_is class leaf (PartOfRun mapped) index is = absurd (none-some index is)
free_cell_is class leaf (Cells class' leaf' taken) index is =
    grind (arith, and_parts, first_where_passes, cond-true, eqb-true, not-true, none-some, cond-false)

-- a page's use that is as the place says
record FitsOn (class : ℕ) (leaf : Bool) (uses : List PageUse) (place : Place) : Type 0 where
  on : PageUse
  at : slice_get uses place.page ≡ Some on
  may_take : MayTakeCell class leaf place.index on
  carves : place.carve ≡ is_free_page on

-- a cell of the first page
abbrev cell_here : ℕ → Place
cell_here index = record { page = 0; index = index; carve = false }

cell_place_fits : (class : ℕ) (leaf : Bool) (uses : List PageUse) (place : Place)
    → cell_place class leaf uses ≡ Some place → FitsOn class leaf uses place × (place.carve ≡ false)
cell_place_fits class leaf [] place is = absurd (none-some place is)
cell_place_fits class leaf (u ∷ uses) place is =
    elim (or_else_cases (option_map cell_here (first_where not (cells_taken class leaf u)))
    (option_map page_behind (cell_place class leaf uses)) place is) [
      | inl here ↦
          let (index, found, place_is) =
          option_map_some cell_here (first_where not (cells_taken class leaf u)) place here in
          let fits = free_cell_is class leaf u index found in
          subst (λ (x : Place). FitsOn class leaf (u ∷ uses) x × (x.carve ≡ false)) place_is
          (record { on = u; at = refl; may_take = fits.0; carves = fits.1 }, refl)
      | inr later ↦
          let (behind, found, place_is) = option_map_some page_behind (cell_place class leaf uses) place later in
          let (fits, kept) = cell_place_fits class leaf uses behind found in
          subst (λ (x : Place). FitsOn class leaf (u ∷ uses) x × (x.carve ≡ false)) place_is (
            record {
              on = fits.on;
              at = cc (add-one behind.page, fits.at);
              may_take = fits.may_take;
              carves = fits.carves;
            },
            kept,
          )
    ]

free_is_nothing : (u : PageUse) → is_free_page u ≡ true → u ≡ Nothing
free_is_nothing x0 free = grind arith

small_place_fits : (limit class : ℕ) (leaf : Bool) (uses : List PageUse) (place : Place) → 0 < cells_of class
    → small_place limit class leaf uses ≡ Some place → FitsOn class leaf uses place × (place.carve ≡ true
    → place.index ≡ 0) × (place.carve ≡ true → resident_pages uses < limit)
small_place_fits limit class leaf uses place some is =
    let free = option_map carved (first_where is_free_page uses) in
    elim (or_else_cases (cell_place class leaf uses) (if nat_lt (resident_pages uses) limit then free
    else None) place is) [
      | inl cell ↦
          let (fits, kept) = cell_place_fits class leaf uses place cell in
          (fits, λ carves. absurd (false≢true (sym kept ∙ carves)), λ carves. absurd (false≢true (sym kept ∙ carves)))
      | inr carve ↦
          let (room, found) = if_some (nat_lt (resident_pages uses) limit) free place carve in
          let (page, first, place_is) = option_map_some carved (first_where is_free_page uses) place found in
          grind (arith, first_where_passes, free_is_nothing, ltb-true, Nothing)
    ]

-- the pages at the front that are free
free_range_within : (uses : List PageUse) → free_range uses ≤ length uses
free_range_within [] = omega arith
free_range_within (u ∷ uses) = cond_both (is_free_page u) (free_range uses + 1) 0 (λ n. n ≤ suc (length uses))
    (λ free. omega (arith, free_range_within uses)) (λ taken. omega arith)

first_is_free : (u : PageUse) (uses : List PageUse) (k : ℕ) → k < free_range (u ∷ uses)
    → (is_free_page u ≡ true) × (k < free_range uses + 1)
first_is_free u uses k within = grind (arith, cond-true, cond-false)

free_in_range : (uses : List PageUse) (k : ℕ) (d : PageUse) → k < free_range uses
    → is_free_page (get_or uses k d) ≡ true
free_in_range [] k d within = absurd (omega arith)
free_in_range (u ∷ uses) zero d within = (first_is_free u uses zero within).0
free_in_range (u ∷ uses) (suc k) d within =
    free_in_range uses k d (omega (arith, (first_is_free u uses (suc k) within).1))

-- this many uses from `start` on are there, and free
record AreFreeUses (start count : ℕ) (uses : List PageUse) : Type 0 where
  within : start + count ≤ length uses
  free : AllWithin (λ u. is_free_page u ≡ true) uses start (start + count)

range_start_free : (count : ℕ) (uses : List PageUse) (start : ℕ) → range_start count uses ≡ Some start
    → AreFreeUses start count uses
range_start_free count [] start is = absurd (none-some start is)
range_start_free count (u ∷ uses) start is = elim (cases_Bool (nat_le count (free_range (u ∷ uses)))) [
  | inl enough ↦
      let here : 0 ≡ start = grind (arith, same_Some, cond-true) in
      let fit : count ≤ free_range (u ∷ uses) = leb-true count (free_range (u ∷ uses)) enough in
      record {
        within = omega (arith, free_range_within (u ∷ uses));
        free = λ k d low high. free_in_range (u ∷ uses) k d (omega arith);
      }
  | inr few ↦
      let (n, found, start_is) = option_map_some (λ (n : ℕ). n + 1) (range_start count uses) start
      (sym (cond-false (nat_le count (free_range (u ∷ uses))) (Some 0) later few) ∙ is) in
      let rest = range_start_free count uses n found in
      record {
        within = omega (arith, rest.within);
        free = λ k d low high. behind n rest k d (omega arith) (omega arith);
      }
]
  where
    later : Option ℕ
    later = option_map (λ (n : ℕ). n + 1) (range_start count uses)

    behind : (n : ℕ) → AreFreeUses n count uses → (k : ℕ) (d : PageUse) → n < k → k < suc n + count
        → is_free_page (get_or (u ∷ uses) k d) ≡ true
    behind n rest x2 d low high = grind arith

-- from what stands on the pages to the pages
use_of_some : (pages : List Page) (k : ℕ) (u : PageUse) → slice_get (uses_of_pages pages) k ≡ Some u
    → (p : Page) × (slice_get pages k ≡ Some p) × (use_of_page p ≡ u)
use_of_some pages k u at = option_map_some use_of_page _ u (sym (slice_get-map use_of_page pages k) ∙ at)

pub cell_place_is : (limit words class : ℕ) (leaf : Bool) (pages : List Page) (place : Place)
    → class_for words ≡ Some class → place_on_uses limit words leaf (uses_of_pages pages) ≡ Some place
    → IsCellPlace limit class leaf pages place
cell_place_is limit words class leaf pages place class_is is =
    let uses = uses_of_pages pages in
    let (known, holds) = class_for-some words class class_is in
    let range = class_words_within class known in
    let small : nat_le words 32 ≡ true = le-leb words 32 (omega arith) in
    let found : small_place limit class leaf uses ≡ Some place = grind (arith, cond-true) in
    let (fits, first, room) = small_place_fits limit class leaf uses place (some_cells class known) found in
    let (p, at, shows) = use_of_some pages place.page fits.on fits.at in
    record {
      page = p;
      at = at;
      may_take = subst (λ (u : PageUse). MayTakeCell class leaf place.index u) (sym shows) fits.may_take;
      carves = fits.carves ∙ ap is_free_page (sym shows);
      carves_first = first;
      has_room = room;
    }

pub run_place_is : (limit words : ℕ) (leaf : Bool) (pages : List Page) (place : Place) → 32 < words
    → place_on_uses limit words leaf (uses_of_pages pages) ≡ Some place
    → IsRunPlace limit (run_pages_of words) pages place
run_place_is limit words leaf pages place large is =
    let uses = uses_of_pages pages in
    let count = run_pages_of words in
    let found : large_place limit count uses ≡ Some place = grind (arith, cond-false, lt-leb) in
    let (room, start_found) =
    if_some (nat_le (resident_pages uses + count) limit) (option_map carved (range_start count uses)) place found in
    let (start, at, place_is) = option_map_some carved (range_start count uses) place start_found in
    let uses_free = range_start_free count uses start at in
    let free : AreFree start count pages = record {
      within = omega (arith, uses_free.within, length-map pages use_of_page);
      free = λ k d low high. ap is_free_page (sym (get_or-map use_of_page pages k d Nothing
          (omega (arith, uses_free.within, length-map pages use_of_page)))) ∙ uses_free.free k Nothing low high;
    } in
    record {
      free = subst (λ (x : Place). AreFree x.page count pages) place_is free;
      index = sym (ap (λ (x : Place). x.index) place_is);
      carves = sym (ap (λ (x : Place). x.carve) place_is);
      has_room = leb-true (resident_pages uses + count) limit room;
    }

pub cell_place_found : (pages : List Page) (storages : List Storage) (limit words class : ℕ) (leaf : Bool)
    (place : Place) → PagesStandFor pages storages → class_for words ≡ Some class → place_among_storages
    (length pages) limit words leaf storages ≡ Some place → IsCellPlace limit class leaf pages place
cell_place_found pages storages limit words class leaf place stand class_is is =
    cell_place_is limit words class leaf pages place class_is (same_places pages storages limit words leaf stand ∙ is)

pub run_place_found : (pages : List Page) (storages : List Storage) (limit words : ℕ) (leaf : Bool) (place : Place)
    → PagesStandFor pages storages → 32 < words → place_among_storages (length pages) limit words leaf storages
    ≡ Some place → IsRunPlace limit (run_pages_of words) pages place
run_place_found pages storages limit words leaf place stand large is =
    run_place_is limit words leaf pages place large (same_places pages storages limit words leaf stand ∙ is)
