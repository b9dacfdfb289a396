-- What a page map answers by: which pages pass a test, and what it is to be right about a heap and about runs.
use Rattle.std.specs.Prelude.{◌≡◌, ℕ, ◌<◌, ◌≤◌, Bool, true, false, not, ◌==◌, List, slice_index, slice_index_or, Option}
use Rattle.std.specs.Prelude.{Some, None, is_some, ◌&&◌, ◌||◌, length, slice_set, ◌+◌, ◌-◌, ◌*◌, suc, zero}
use Rattle.std.specs.Prelude.{if◌then◌else◌, nat_lt, option_map, option_and_then}
use Rattle.mk_geom.specs.{declared.pages.Page.Page, PageUses.{PageUse, is_free_page, cells_taken, first_where}}
use Rattle.mk_geom.specs.PageUses.{use_of_page, use_under, resident_pages, or_else, carved, small_place, uses_of_pages}
use Rattle.mk_geom.specs.{Storages.free_page, Addresses.header_of, declared.pages.Place.Place}

-- page number, free if there is none
abbrev pub page_at : List Page → ℕ → Page
page_at pages number = slice_index_or pages number free_page

-- the page is a block of this class and sort, with a cell that isn't taken
abbrev pub has_free_cell : ℕ → Bool → PageUse → Bool
has_free_cell class leaf stands = is_some (first_where not (cells_taken class leaf stands))

-- something stands on the page
abbrev pub is_in_use : List Page → ℕ → Bool
is_in_use pages number = not (is_free_page (use_of_page (page_at pages number)))

-- nothing stands on the page
abbrev pub is_free : List Page → ℕ → Bool
is_free pages number = is_free_page (use_of_page (page_at pages number))

-- the page has freed cells
abbrev pub has_freed_cells : List ℕ → ℕ → Bool
has_freed_cells freed number = not (slice_index freed number == 0)

-- the lowest number that passes, of those from this one on and below a count
abbrev pub IsNext : (ℕ → Bool) → ℕ → ℕ → Option ℕ → Type 0
IsNext passes from count (Some number) =
    (from ≤ number) × (number < count) × (passes number ≡ true)
    × ((between : ℕ) → from ≤ between → between < number → passes between ≡ false)
IsNext passes from count None = (number : ℕ) → from ≤ number → number < count → passes number ≡ false

-- The header and used word of each page; of each whether it has freed cells, and whether it is a free page that may be
-- marked.
pub record KnownPages : Type 0 where
  pub pages : List Page
  pub quarantined : List Bool
  pub uncleaned : List Bool

-- It has freed cells.
abbrev pub is_quarantined_page : KnownPages → ℕ → Bool
is_quarantined_page known number = slice_index_or known.quarantined number false

-- Since it was freed, or marked as a free page, nobody has said that no mark is left on it.
abbrev pub is_uncleaned : KnownPages → ℕ → Bool
is_uncleaned known number = slice_index_or known.uncleaned number false

-- whether a page has header 0, so that it is free
abbrev pub is_bare : KnownPages → ℕ → Bool
is_bare known number = (page_at known.pages number).header == 0

-- Whether a page is uncleaned after this header word was stored. If it is free now, it is. If it was free before, it no
-- longer is. Otherwise it is as it was.
abbrev pub is_uncleaned_under : KnownPages → ℕ → ℕ → Bool
is_uncleaned_under known number header = header == 0 || (not (is_bare known number) && is_uncleaned known number)

-- It is right about a heap that has these pages and freed cells.
pub record Shows (known : KnownPages) (pages : List Page) (freed : List ℕ) : Type 0 where
  pub page_by_page : known.pages ≡ pages
  pub freed_words : length freed ≡ length pages
  pub quarantined : (number : ℕ) → number < length pages
      → is_quarantined_page known number ≡ has_freed_cells freed number

-- the pages after a store of a header word, and of a used word
abbrev pub with_header : List Page → ℕ → ℕ → List Page
with_header pages number header =
    slice_set pages number (record { header = header; used = (page_at pages number).used })

-- the pages, with this used word on one of them
abbrev pub with_used : List Page → ℕ → ℕ → List Page
with_used pages number used =
    slice_set pages number (record { header = (page_at pages number).header; used = used })

-- the pages after these header words were stored on `count` of them, from page `first` on
abbrev pub with_headers : List Page → ℕ → ℕ → (ℕ → ℕ) → List Page
with_headers pages first zero headers = pages
with_headers pages first (suc n) headers = with_header (with_headers pages first n headers) (first + n) (headers n)

-- the header words of a run: that of its head, that of the page after it, and then each 16 more than the one before
abbrev pub run_word : ℕ → ℕ → ℕ → ℕ
run_word head next distance = if distance == 0 then head else next + 16 * (distance - 1)

-- each of these header words says that this is on its page
abbrev pub HeadersSay : PageUse → ℕ → (ℕ → ℕ) → Type 0
HeadersSay stands count headers =
    (distance used : ℕ) → distance < count → use_under (header_of (headers distance)) used ≡ stands

-- this is on each of `count` pages, from page `first` on
abbrev pub StandsOn : PageUse → List Page → ℕ → ℕ → Type 0
StandsOn stands pages first count =
    (distance : ℕ) → distance < count → use_of_page (page_at pages (first + distance)) ≡ stands

-- `count` pages have the header word 0, from page `first` on
abbrev pub AreBare : List Page → ℕ → ℕ → Type 0
AreBare pages first count = (distance : ℕ) → distance < count → (page_at pages (first + distance)).header ≡ 0

-- A map that was told of these header words at once knows what it would know if it had been told of each: what holds
-- of a range holds of its pages.
pub record RunIsTold (old : KnownPages) (first count : ℕ) (headers : ℕ → ℕ) (new : KnownPages) : Type 0 where
  pub shows : (pages : List Page) (freed : List ℕ) → Shows old pages freed
      → Shows new (with_headers pages first count headers) freed
  pub inside : (distance : ℕ) → distance < count
      → is_uncleaned new (first + distance) ≡ is_uncleaned_under old (first + distance) (headers distance)
  pub outside : (number : ℕ) → (first ≤ number → number < first + count → ⊥)
      → is_uncleaned new number ≡ is_uncleaned old number

-- the lowest free cell of a page, as a place
abbrev pub free_cell_on : ℕ → Bool → List Page → ℕ → Option Place
free_cell_on class leaf pages number =
    option_map (λ index. record { page = number; index = index; carve = false })
    (first_where not (cells_taken class leaf (use_of_page (page_at pages number))))

-- A small object goes into the lowest block of its class and sort that has a free cell. If there is none, it goes onto
-- the lowest free page, if fewer pages are resident than may be.
abbrev pub LowestBlockHasThePlace : Type 0
LowestBlockHasThePlace =
    (limit class : ℕ) (leaf : Bool) (pages : List Page)
    → small_place limit class leaf (uses_of_pages pages)
    ≡ or_else
    (option_and_then (free_cell_on class leaf pages) (first_where (has_free_cell class leaf) (uses_of_pages pages)))
    (if nat_lt (resident_pages (uses_of_pages pages)) limit
    then option_map carved (first_where is_free_page (uses_of_pages pages)) else None)
