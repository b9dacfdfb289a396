-- The storage of objects, its words and their addresses: what stands on the pages of a heap, read off a plain list.
use Rattle.std.specs.Prelude.{◌≡◌, ◌≢◌, ℕ, zero, suc, ◌+◌, ◌-◌, ◌*◌, ◌/◌, ◌%◌, ◌<◌, ◌≤◌, Bool, true, false, ◌&&◌, ◌==◌}
use Rattle.std.specs.Prelude.{nat_le, if◌then◌else◌, List, [], ◌∷◌, length, map, find, slice_index_or, All, Option}
use Rattle.std.specs.{Prelude.{Some, None, IsSome, unwrap_or, ◌⊎◌, sum_by}, List.{range_with_len, list_any}}
use Rattle.mk_geom.specs.declared.pages.{Page.Page, Place.Place, Census.Census}
use Rattle.mk_geom.specs.declared.headers.Header.{Header, TheVariants.{Block, Run, Later}}
use Rattle.mk_geom.specs.declared.headers.Header.TheVariants.{LeafBlock, LeafRun}
use Rattle.mk_geom.specs.Addresses.{class_for, class_words_of, cells_of, is_small_size, word_of, heap_word_at}
use Rattle.mk_geom.specs.{Addresses.{page_at_address, cell_at}, PageUses.{PageUse, Nothing, Cells, PartOfRun}}
use Rattle.mk_geom.specs.{PageUses.{place_on_uses, census_among}, declared.addresses.Cell.Cell}

-- An object's storage: its first heap word, how many words it takes, whether its pages are mapped, and whether it is
-- leaf. A small object takes a cell, and a large one all the words of its pages.
pub record Storage : Type 0 where
  pub first : ℕ
  pub words : ℕ
  pub mapped : Bool
  pub leaf : Bool

-- the storage is a cell
abbrev pub is_small : Storage → Bool
is_small s = is_small_size s.words

-- the page that it begins on, and the one that it ends on
abbrev pub first_page : Storage → ℕ
first_page s = s.first / 64

-- its last page
abbrev pub last_page : Storage → ℕ
last_page s = (s.first + s.words - 1) / 64

-- it stands on the page
abbrev pub stands_on : ℕ → Storage → Bool
stands_on page s = nat_le (first_page s) page && nat_le page (last_page s)

-- the class of a cell of this many words
abbrev pub class_of_storage : Storage → ℕ
class_of_storage s = unwrap_or (class_for s.words) 0

-- whether a storage begins at cell k of a page of cells of this many words
abbrev pub is_cell_taken : List Storage → ℕ → ℕ → ℕ → Bool
is_cell_taken storages page words k = list_any (λ s. s.first == 64 * page + k * words) storages

-- which cells of a page's class are taken
abbrev pub taken_cells : List Storage → ℕ → ℕ → List Bool
taken_cells storages page class =
    map (is_cell_taken storages page (class_words_of class)) (range_with_len 0 (cells_of class))

-- what is on a page, if this is a storage on it
abbrev pub use_by : List Storage → ℕ → Option Storage → PageUse
use_by storages page None = Nothing
use_by storages page (Some s) =
    if is_small s then Cells (class_of_storage s) s.leaf (taken_cells storages page (class_of_storage s))
    else PartOfRun s.mapped

-- what these storages make of a page
abbrev pub use_of_storages : List Storage → ℕ → PageUse
use_of_storages storages page = use_by storages page (find (stands_on page) storages)

-- what stands on each page of a heap of this many
abbrev pub uses_of_storages : ℕ → List Storage → List PageUse
uses_of_storages pages storages = map (use_of_storages storages) (range_with_len 0 pages)

-- Place, fits and census, of a heap of this many pages.
abbrev pub place_among_storages : ℕ → ℕ → ℕ → Bool → List Storage → Option Place
place_among_storages pages limit words leaf storages = place_on_uses limit words leaf (uses_of_storages pages storages)

-- There is a place for so many words, leaf or not.
abbrev pub Fits : ℕ → ℕ → ℕ → Bool → List Storage → Type 0
Fits pages limit words leaf storages = IsSome (place_among_storages pages limit words leaf storages)

-- the counts of pages with these storages
abbrev pub census_of : ℕ → List Storage → Census
census_of pages storages = census_among (uses_of_storages pages storages)

-- A cell of a block, or whole pages of a run of 1 to 64, within a heap of this many pages.
pub record IsCell (s : Storage) : Type 0 where
  pub class : ℕ
  pub index : ℕ
  pub known : class < 8
  pub words : s.words ≡ class_words_of class
  pub within : index < cells_of class
  pub first : s.first % 64 ≡ index * class_words_of class
  pub mapped : s.mapped ≡ true

-- Whole pages, at most 64.
pub record IsRun (s : Storage) : Type 0 where
  pub pages : ℕ
  pub some : 1 ≤ pages
  pub most : pages ≤ 64
  pub words : s.words ≡ 64 * pages
  pub first : s.first % 64 ≡ 0

-- A cell or a run, on the heap's pages.
abbrev pub IsStorage : ℕ → Storage → Type 0
IsStorage pages s = (IsCell s ⊎ IsRun s) × (s.first + s.words ≤ 64 * pages)

-- two storages that share no word, and no page but as cells of one class and sort
pub record LieApart (s t : Storage) : Type 0 where
  pub apart : (s.first + s.words ≤ t.first) ⊎ (t.first + t.words ≤ s.first)
  pub alike : (page : ℕ) → stands_on page s ≡ true → stands_on page t ≡ true
      → (is_small s ≡ true) × (is_small t ≡ true) × (s.words ≡ t.words) × (s.leaf ≡ t.leaf)

-- Each is a storage of the heap, and no two share a word or the page of different classes.
pub record AreLaidOut (pages : ℕ) (storages : List Storage) : Type 0 where
  pub each : All (IsStorage pages) storages
  pub apart : (i j : ℕ) (d : Storage) → i < length storages → j < length storages → i ≢ j
      → LieApart (slice_index_or storages i d) (slice_index_or storages j d)

-- the used word in which these bits are set
abbrev pub used_word : List Bool → ℕ
used_word [] = 0
used_word (bit ∷ bits) = (if bit then 1 else 0) + 2 * used_word bits

-- the header of a block
abbrev pub block_header : ℕ → Bool → Header
block_header class true = LeafBlock class
block_header class false = Block class

-- the header of the page of a run that lies so far after its head. An unmapped leaf run is as any unmapped run.
abbrev pub run_header : ℕ → Bool → Bool → ℕ → Header
run_header pages mapped leaf zero = if leaf && mapped then LeafRun pages else Run pages mapped
run_header pages mapped leaf (suc distance) = Later (suc distance) mapped

-- a run's used bit is bit 0 of its head
abbrev pub run_used : ℕ → ℕ
run_used zero = 1
run_used (suc distance) = 0

-- a page with nothing on it, that of a block with its used word, and one of a run
abbrev pub free_page : Page
free_page = record { header = 0; used = 0 }

-- the page of a block
abbrev pub block_page : ℕ → Bool → ℕ → Page
block_page class leaf used = record { header = word_of (block_header class leaf); used = used }

-- a page of a run, so many pages after its first one
abbrev pub run_page : ℕ → Bool → Bool → ℕ → Page
run_page pages mapped leaf distance =
    record { header = word_of (run_header pages mapped leaf distance); used = run_used distance }

-- the words of a page, if this is a storage on it
abbrev pub words_by : List Storage → ℕ → Option Storage → Page
words_by storages page None = free_page
words_by storages page (Some s) =
    if is_small s
    then block_page (class_of_storage s) s.leaf (used_word (taken_cells storages page (class_of_storage s)))
    else run_page (s.words / 64) s.mapped s.leaf (page - first_page s)

-- the words of a page on which these storages stand
abbrev pub words_of_storages : List Storage → ℕ → Page
words_of_storages storages page = words_by storages page (find (stands_on page) storages)

-- The headers and used bits of the pages stand for these storages.
pub record PagesStandFor (pages : List Page) (storages : List Storage) : Type 0 where
  pub laid_out : AreLaidOut (length pages) storages
  pub words : (page : ℕ) (d : Page) → page < length pages
      → slice_index_or pages page d ≡ words_of_storages storages page

-- Heap word n is one of the storage's words.
abbrev pub IsWordOf : Storage → ℕ → Type 0
IsWordOf s n = (s.first ≤ n) × (n < s.first + s.words)

-- The value is an address, and the heap word that it is in is one of the storage's: whatever the headers say.
abbrev pub PointsInto : ℕ → Storage → Type 0
PointsInto u s = (65536 ≤ u) × IsWordOf s (heap_word_at u)

-- the cell of a small storage; of a large one cell 0 of the page that it begins on
abbrev pub cell_of_storage : Storage → Cell
cell_of_storage s = record { page = first_page s; index = if is_small s then s.first % 64 / s.words else 0 }

-- the words of the mapped storages
abbrev pub held_by_storages : List Storage → ℕ
held_by_storages storages = sum_by (λ s. if s.mapped then s.words else 0) storages

-- the header word of a page that the storage stands on, mapped or not; a cell's page is always mapped
abbrev pub header_shown : Storage → ℕ → Bool → ℕ
header_shown s page mapped =
    word_of
    (if is_small s
    then block_header (class_of_storage s) s.leaf
    else run_header (s.words / 64) mapped s.leaf (page - first_page s))

-- The header word is one that the storage gives the page. The pages of a run may be mapped and unmapped, each by
-- itself.
abbrev pub ShowsStorage : Storage → ℕ → ℕ → Type 0
ShowsStorage s page header = (mapped : Bool) × (header ≡ header_shown s page mapped)

-- a page of these; after the last a free one
abbrev pub page_in : List Page → ℕ → Page
page_in pages page = slice_index_or pages page free_page

-- what a value points into, by the header of the page that it is in
abbrev pub cell_on : List Page → ℕ → Option Cell
cell_on pages u = cell_at (length pages) (page_in pages (page_at_address u)).header u
