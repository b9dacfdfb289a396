-- The laws of pages and storages. Each holds of all pages and all storages that they stand for.
use Rattle.std.specs.Prelude.{◌≡◌, ℕ, ◌+◌, ◌*◌, ◌<◌, Bool, true, false, List, [], length, replicate, ◌==◌, ◌↔◌, Some}
use Rattle.std.specs.{Prelude.Contains, Int.bit_at}
use Rattle.mk_geom.specs.declared.{addresses.Cell.Cell, pages.{Page.Page, Place.Place}}
use Rattle.mk_geom.specs.{Addresses.{class_words_of, cells_of, class_for, run_pages_of}, Storages.{cell_on, IsWordOf}}
use Rattle.mk_geom.specs.Storages.{PointsInto, cell_of_storage, held_by_storages, ShowsStorage, page_in}
use Rattle.mk_geom.specs.{Addresses.{address_of, page_at_address, cell_at}, PageUses.{place_on_uses, held_by_uses}}
use Rattle.mk_geom.specs.PageUses.{census_among, uses_of_pages, HaveHeaderWords}
use Rattle.mk_geom.specs.{PageUses.{IsCellPlace, IsRunPlace}, Storages.{Storage, stands_on, uses_of_storages}}
use Rattle.mk_geom.specs.Storages.{place_among_storages, census_of, taken_cells, used_word, free_page, block_page}
use Rattle.mk_geom.specs.Storages.{run_page, words_of_storages, IsStorage, AreLaidOut, PagesStandFor}

-- Pages show what stands on them. So first fit finds the place on them that it finds among the storages, their counts
-- are those of the storages, and the words that they hold are those of the mapped ones. Each header is a header word.
pub record ShowWhatStands (pages : List Page) (storages : List Storage) : Type 0 where
  pub uses : uses_of_pages pages ≡ uses_of_storages (length pages) storages
  pub places : (limit words : ℕ) (leaf : Bool) → place_on_uses limit words leaf (uses_of_pages pages)
      ≡ place_among_storages (length pages) limit words leaf storages
  pub census : census_among (uses_of_pages pages) ≡ census_of (length pages) storages
  pub held : held_by_uses (uses_of_pages pages) ≡ held_by_storages storages
  pub header_words : HaveHeaderWords pages

-- The words of the page of a cell that is one of storages that are laid out,
abbrev pub CellPageHasWords : Type 0
CellPageHasWords =
    (pages : ℕ) (storages : List Storage) (s : Storage)
    → AreLaidOut pages storages → Contains storages s
    → (page class index : ℕ) → class < 8 → index < cells_of class
    → s.first ≡ 64 * page + index * class_words_of class → s.words ≡ class_words_of class
    → words_of_storages storages page ≡ block_page class s.leaf (used_word (taken_cells storages page class))

-- of a page of a run,
abbrev pub RunPageHasWords : Type 0
RunPageHasWords =
    (pages : ℕ) (storages : List Storage) (s : Storage)
    → AreLaidOut pages storages → Contains storages s
    → (first count distance : ℕ) → s.first ≡ 64 * first → s.words ≡ 64 * count → distance < count
    → words_of_storages storages (first + distance) ≡ run_page count s.mapped s.leaf distance

-- and of one on which no storage stands.
abbrev pub BarePageIsFree : Type 0
BarePageIsFree =
    (page : ℕ) (storages : List Storage)
    → ((s : Storage) → Contains storages s → stands_on page s ≡ false)
    → words_of_storages storages page ≡ free_page

-- A value that points into a storage, on a page that shows it, points into its cell.
abbrev pub PointsIntoCell : Type 0
PointsIntoCell =
    (pages header u : ℕ) (s : Storage)
    → IsStorage pages s → ShowsStorage s (page_at_address u) header → PointsInto u s
    → cell_at pages header u ≡ Some (cell_of_storage s)

-- A value that points into a storage's cell points into the storage, if its page shows one that is there.
abbrev pub CellHasPointers : Type 0
CellHasPointers =
    (pages header u : ℕ) (storages : List Storage) (s t : Storage)
    → AreLaidOut pages storages → Contains storages s → Contains storages t
    → stands_on (page_at_address u) t ≡ true → ShowsStorage t (page_at_address u) header
    → cell_at pages header u ≡ Some (cell_of_storage s) → PointsInto u s

-- On pages that stand for storages a value points into one of them exactly if it points into its cell.
abbrev pub PointersHitCells : Type 0
PointersHitCells =
    (pages : List Page) (storages : List Storage)
    → PagesStandFor pages storages
    → (u : ℕ) (s : Storage) → Contains storages s
    → PointsInto u s ↔ (cell_on pages u ≡ Some (cell_of_storage s))

-- A cell there that a value points into is that of a storage, if its used bit is set.
abbrev pub UsedCellHasStorage : Type 0
UsedCellHasStorage =
    (pages : List Page) (storages : List Storage)
    → PagesStandFor pages storages
    → (u : ℕ) (k : Cell) → cell_on pages u ≡ Some k
    → (bit_at (page_in pages k.page).used k.index == 1) ≡ true
    → (s : Storage) × Contains storages s × (cell_of_storage s ≡ k)

-- The cell of a storage begins at its first word.
abbrev pub CellHasFirstWord : Type 0
CellHasFirstWord =
    (pages : ℕ) (s : Storage)
    → IsStorage pages s → 64 * (cell_of_storage s).page + (cell_of_storage s).index * s.words ≡ s.first

-- Of storages that are laid out no two have one cell.
abbrev pub CellsTellStoragesApart : Type 0
CellsTellStoragesApart =
    (pages : ℕ) (storages : List Storage) (s t : Storage)
    → AreLaidOut pages storages → Contains storages s → Contains storages t
    → cell_of_storage s ≡ cell_of_storage t → s ≡ t

-- The addresses of a storage's words point into it, and no others of words do.
abbrev pub AddressesOfWordsPointIn : Type 0
AddressesOfWordsPointIn = (word : ℕ) (s : Storage) → PointsInto (address_of word) s ↔ IsWordOf s word

-- Free pages stand for no storage.
abbrev pub FreePagesStandForNothing : Type 0
FreePagesStandForNothing = (count : ℕ) → PagesStandFor (replicate count free_page) []

-- The place that first fit finds for a small object is a cell that it may take.
abbrev pub FoundCellIsPlace : Type 0
FoundCellIsPlace =
    (pages : List Page) (storages : List Storage) (limit words class : ℕ) (leaf : Bool) (place : Place)
    → PagesStandFor pages storages → class_for words ≡ Some class
    → place_among_storages (length pages) limit words leaf storages ≡ Some place
    → IsCellPlace limit class leaf pages place

-- For a large one it is the head of free pages, as many as it takes.
abbrev pub FoundRunIsPlace : Type 0
FoundRunIsPlace =
    (pages : List Page) (storages : List Storage) (limit words : ℕ) (leaf : Bool) (place : Place)
    → PagesStandFor pages storages → 32 < words
    → place_among_storages (length pages) limit words leaf storages ≡ Some place
    → IsRunPlace limit (run_pages_of words) pages place
