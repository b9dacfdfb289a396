-- What stands on the pages of a heap, by a list or by their words, and where an object goes by first fit.
use Rattle.std.specs.Prelude.{ℕ, ◌+◌, ◌*◌, max, Bool, true, false, not, ◌&&◌, ◌==◌, nat_le, nat_lt, if◌then◌else◌, List}
use Rattle.std.specs.Prelude.{[], ◌∷◌, ◌++◌, map, sum_by, count_by, Option, Some, None, option_map, option_and_then}
use Rattle.std.specs.{Prelude.{All, ◌≡◌, ◌<◌, ◌≤◌, length, slice_get}, List.{range_with_len, AllWithin}, Int.bit_at}
use Rattle.mk_geom.specs.Addresses.{class_for, class_words_of, is_small_size, run_pages_of, header_of, IsHeaderWord}
use Rattle.mk_geom.specs.{Addresses.cells_of, declared.headers.Header.Header}
use Rattle.mk_geom.specs.declared.headers.Header.TheVariants.{Free, Block, Run, Later, LeafBlock, LeafRun}
use Rattle.mk_geom.specs.declared.pages.{Census.Census, Page.Page, Place.Place}

-- What stands on a page: nothing, cells of one class and sort, of which these are taken, or a part of a run.
pub data PageUse : Type 0 where
  Nothing : PageUse
  Cells : (class : ℕ) (leaf : Bool) (taken : List Bool) → PageUse
  PartOfRun : (mapped : Bool) → PageUse

-- nothing stands on the page
abbrev pub is_free_page : PageUse → Bool
is_free_page Nothing = true
is_free_page _ = false

-- An unmapped run's pages are reserved and not resident.
abbrev pub is_resident_page : PageUse → Bool
is_resident_page Nothing = false
is_resident_page (Cells class leaf taken) = true
is_resident_page (PartOfRun mapped) = mapped

-- how many pages are resident
abbrev pub resident_pages : List PageUse → ℕ
resident_pages pages = count_by is_resident_page pages

-- both are leaf, or neither is
abbrev pub is_same_sort : Bool → Bool → Bool
is_same_sort true leaf = leaf
is_same_sort false leaf = not leaf

-- the cells of a page of this class and sort, and none of another page
abbrev pub cells_taken : ℕ → Bool → PageUse → List Bool
cells_taken class leaf (Cells class' leaf' taken) = if (class == class') && is_same_sort leaf leaf' then taken else []
cells_taken class leaf _ = []

-- the place of the first that passes
abbrev pub first_where : {A : Type 0} → (A → Bool) → List A → Option ℕ
first_where p [] = None
first_where p (x ∷ xs) = if p x then Some 0 else option_map (λ n. n + 1) (first_where p xs)

-- the first, or the other if there is none
abbrev pub or_else : {A : Type 0} → Option A → Option A → Option A
or_else (Some x) other = Some x
or_else None other = other

-- the place, one page further
abbrev pub page_behind : Place → Place
page_behind place = record place { page = place.page + 1 }

-- the lowest cell that isn't taken, of the lowest page of this class and sort that has one
abbrev pub cell_place : ℕ → Bool → List PageUse → Option Place
cell_place class leaf [] = None
cell_place class leaf (page ∷ pages) =
    or_else (option_map (λ index. record { page = 0; index = index; carve = false })
    (first_where not (cells_taken class leaf page)))
    (option_map page_behind (cell_place class leaf pages))

-- the pages from a page on, which are free and have to be carved
abbrev pub carved : ℕ → Place
carved page = record { page = page; index = 0; carve = true }

-- such a cell; if there is none, cell 0 of the lowest free page, if fewer pages are resident than may be
abbrev pub small_place : ℕ → ℕ → Bool → List PageUse → Option Place
small_place limit class leaf pages =
    or_else (cell_place class leaf pages)
    (if nat_lt (resident_pages pages) limit then option_map carved (first_where is_free_page pages) else None)

-- how many free pages stand at the front
abbrev pub free_range : List PageUse → ℕ
free_range [] = 0
free_range (page ∷ pages) = if is_free_page page then free_range pages + 1 else 0

-- the lowest of this many neighbours that are free
abbrev pub range_start : ℕ → List PageUse → Option ℕ
range_start count [] = None
range_start count (page ∷ pages) =
    if nat_le count (free_range (page ∷ pages)) then Some 0 else option_map (λ n. n + 1) (range_start count pages)

-- that range, if no more pages are resident with it than may be
abbrev pub large_place : ℕ → ℕ → List PageUse → Option Place
large_place limit count pages =
    if nat_le (resident_pages pages + count) limit then option_map carved (range_start count pages) else None

-- First fit: where an object of this many words goes, leaf or not, if this many pages may be resident.
abbrev pub place_on_uses : ℕ → ℕ → Bool → List PageUse → Option Place
place_on_uses limit words leaf pages =
    if is_small_size words
    then option_and_then (λ class. small_place limit class leaf pages) (class_for words)
    else large_place limit (run_pages_of words) pages

-- the most free pages side by side
abbrev pub longest_free_range : List PageUse → ℕ
longest_free_range [] = 0
longest_free_range (page ∷ pages) = max (free_range (page ∷ pages)) (longest_free_range pages)

-- the words of the cells that are taken, or of a page of a mapped run
abbrev pub held_by_use : PageUse → ℕ
held_by_use Nothing = 0
held_by_use (Cells class leaf taken) = class_words_of class * count_by (λ cell. cell) taken
held_by_use (PartOfRun mapped) = if mapped then 64 else 0

-- the words held on all pages
abbrev pub held_by_uses : List PageUse → ℕ
held_by_uses pages = sum_by held_by_use pages

-- how many cells of a class and sort are free in blocks
abbrev pub free_cells_among : Bool → List PageUse → ℕ → ℕ
free_cells_among leaf pages class = sum_by (λ page. count_by not (cells_taken class leaf page)) pages

-- the counts of what stands on the pages
abbrev pub census_among : List PageUse → Census
census_among pages = record {
  free_pages = count_by is_free_page pages;
  longest_range = longest_free_range pages;
  resident = resident_pages pages;
  free_cells = map (free_cells_among false pages) (range_with_len 0 8) ++ map (free_cells_among true pages)
      (range_with_len 0 8);
}

-- the low bits of a used word, one a cell
abbrev pub bits_of : ℕ → ℕ → List Bool
bits_of count used = map (λ k. bit_at used k == 1) (range_with_len 0 count)

-- A page whose header is no header word is as a page of an unmapped run: neither free nor resident.
abbrev pub use_under : Option Header → ℕ → PageUse
use_under None used = PartOfRun false
use_under (Some Free) used = Nothing
use_under (Some (Block class)) used = Cells class false (bits_of (cells_of class) used)
use_under (Some (Run pages mapped)) used = PartOfRun mapped
use_under (Some (Later distance mapped)) used = PartOfRun mapped
use_under (Some (LeafBlock class)) used = Cells class true (bits_of (cells_of class) used)
use_under (Some (LeafRun pages)) used = PartOfRun true

-- what stands on a page, by its header and used word
abbrev pub use_of_page : Page → PageUse
use_of_page page = use_under (header_of page.header) page.used

-- what stands on each page
abbrev pub uses_of_pages : List Page → List PageUse
uses_of_pages pages = map use_of_page pages

-- Each page has a header word.
abbrev pub HaveHeaderWords : List Page → Type 0
HaveHeaderWords pages = All (λ page. IsHeaderWord page.header) pages

-- An object of this class and sort may take the cell: the page is free, or a block of that class and sort in which the
-- cell isn't taken.
abbrev pub MayTakeCell : ℕ → Bool → ℕ → PageUse → Type 0
MayTakeCell class leaf index Nothing = index < cells_of class
MayTakeCell class leaf index (Cells class' leaf' taken) = (class' ≡ class) × (leaf' ≡ leaf)
    × (slice_get taken index ≡ Some false)
MayTakeCell class leaf index (PartOfRun mapped) = ⊥

-- the pages from `first` on are there, and free
pub record AreFree (first count : ℕ) (pages : List Page) : Type 0 where
  pub within : first + count ≤ length pages
  pub free : AllWithin (λ page. is_free_page (use_of_page page) ≡ true) pages first (first + count)

-- a place for an object of this class and sort
pub record IsCellPlace (limit class : ℕ) (leaf : Bool) (pages : List Page) (place : Place) : Type 0 where
  pub page : Page
  pub at : slice_get pages place.page ≡ Some page
  pub may_take : MayTakeCell class leaf place.index (use_of_page page)
  pub carves : place.carve ≡ is_free_page (use_of_page page)
  pub carves_first : place.carve ≡ true → place.index ≡ 0
  pub has_room : place.carve ≡ true → resident_pages (uses_of_pages pages) < limit

-- a place for an object that takes this many pages
pub record IsRunPlace (limit count : ℕ) (pages : List Page) (place : Place) : Type 0 where
  pub free : AreFree place.page count pages
  pub index : place.index ≡ 0
  pub carves : place.carve ≡ true
  pub has_room : resident_pages (uses_of_pages pages) + count ≤ limit
