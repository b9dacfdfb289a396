-- How a page map keeps its sets of pages: as bits, 64 pages in a word. A set has a summary, whose bit k is 1 if its
-- word k isn't 0, and then 64 words.
use Rattle.std.specs.Prelude.{◌≡◌, ℕ, ◌+◌, ◌*◌, ◌/◌, ◌%◌, ◌<◌, ◌≤◌, ◌&&◌, ◌||◌, Bool, false, not, ◌==◌, nat_le, nat_lt}
use Rattle.std.specs.{Prelude.{List, Option, Some, true, length, slice_index, if◌then◌else◌, map}, Int.bit_at}
use Rattle.std.specs.List.{range_with_len}
use Rattle.mk_geom.specs.{declared.pages.Page.Page, PageUses.{PageUse, Nothing, Cells, PartOfRun, is_free_page}}
use Rattle.mk_geom.specs.{PageUses.{resident_pages, use_of_page, uses_of_pages, bits_of}, Addresses.cells_of}
use Rattle.mk_geom.specs.declared.headers.Header.{Header}
use Rattle.mk_books.specs.{KnownPages.{page_at, has_free_cell}, declared.kinds.PageKind.PageKind}
use Rattle.mk_books.specs.declared.kinds.PageKind.TheVariants.{Free, Block, Run}

-- word number word of a set: 64 pages, a bit each
abbrev pub word_in_set : List ℕ → ℕ → ℕ → ℕ
word_in_set sets set word = slice_index sets (65 * set + 1 + word)

-- the set's summary: a bit for each of its words that isn't 0
abbrev pub summary_of : List ℕ → ℕ → ℕ
summary_of sets set = slice_index sets (65 * set)

-- the page is in the set
abbrev pub is_member : List ℕ → ℕ → ℕ → Bool
is_member sets set number = bit_at (word_in_set sets set (number / 64)) (number % 64) == 1

-- there are 20 sets, and each has its summary
pub record AreSets (sets : List ℕ) : Type 0 where
  pub long : length sets ≡ 1300
  pub summaries : (set word : ℕ) → set < 20 → word < 64
      → (bit_at (summary_of sets set) word == 1) ≡ not (word_in_set sets set word == 0)

-- Sets 0 to 15 have the blocks with a free cell: those of a class and then the leaf blocks of a class. Set 16 has the
-- free pages, and set 17 all others.
abbrev pub is_of_set : ℕ → PageUse → Bool
is_of_set set stands =
    if nat_lt set 16 then has_free_cell (set % 8) (nat_le 8 set) stands
    else if set == 16 then is_free_page stands else not (is_free_page stands)

-- a page is in those of these 18 that it is of, and in no other
abbrev pub IsInItsSets : List ℕ → ℕ → PageUse → Type 0
IsInItsSets sets number stands = (set : ℕ) → set < 18 → is_member sets set number ≡ is_of_set set stands

-- all other words of the sets are as they were
abbrev pub OtherWordsStay : List ℕ → List ℕ → ℕ → ℕ → Type 0
OtherWordsStay before after set word =
    (other place : ℕ) → place < 64 → (other ≡ set → place ≡ word → ⊥)
    → word_in_set after other place ≡ word_in_set before other place

-- a word of a set is stored
pub record StoresWord (before after : List ℕ) (set word bits : ℕ) : Type 0 where
  pub are_sets : AreSets after
  pub this : word_in_set after set word ≡ bits
  pub others : OtherWordsStay before after set word

-- all other pages are in the sets that they were in
abbrev pub OthersStay : List ℕ → List ℕ → ℕ → Type 0
OthersStay before after page =
    (set number : ℕ) → set < 20 → number < 4096 → (number ≡ page → ⊥)
    → is_member after set number ≡ is_member before set number

-- A page is put into a set, or taken out: of the other sets it is in those that it was in.
pub record PutsPage (before after : List ℕ) (set page : ℕ) (inside : Bool) : Type 0 where
  pub are_sets : AreSets after
  pub this : is_member after set page ≡ inside
  pub other_sets : (other : ℕ) → other < 20 → (other ≡ set → ⊥)
      → is_member after other page ≡ is_member before other page
  pub other_pages : OthersStay before after page

-- Pages of a word of a set are put into it, or taken out: those that have a 1 in these bits.
pub record PutsBits (before after : List ℕ) (set word bits : ℕ) (inside : Bool) : Type 0 where
  pub are_sets : AreSets after
  pub this : (number : ℕ) → number < 4096 → number / 64 ≡ word → is_member after set number
      ≡ (if bit_at bits (number % 64) == 1 then inside else is_member before set number)
  pub other_words : (number : ℕ) → number < 4096 → (number / 64 ≡ word → ⊥)
      → is_member after set number ≡ is_member before set number
  pub other_sets : (other number : ℕ) → other < 20 → number < 4096 → (other ≡ set → ⊥)
      → is_member after other number ≡ is_member before other number

-- The pages of a word that have a 1 in these bits are put among the free ones and among those of them that may be
-- marked, or out of both and among those in use.
pub record PutsThree (before after : List ℕ) (word bits : ℕ) (free : Bool) : Type 0 where
  pub first : List ℕ
  pub second : List ℕ
  pub into_free : PutsBits before first 16 word bits free
  pub out_of_use : PutsBits first second 17 word bits (not free)
  pub into_uncleaned : PutsBits second after 19 word bits free

-- the sets by which free pages are told from those in use
abbrev pub tells_free : ℕ → Bool
tells_free set = set == 16 || (set == 17 || set == 19)

-- Pages are put among the free ones and among those of them that may be marked, or out of both and among those in use.
pub record MovesPages (before after : List ℕ) (among : ℕ → Bool) (free : Bool) : Type 0 where
  pub are_sets : AreSets after
  pub moved : (set number : ℕ) → set < 20 → number < 4096 → is_member after set number
      ≡ (if tells_free set && among number
      then (if set == 17 then not free else free) else is_member before set number)

-- a page is from this one on, and below that one
abbrev pub is_between : ℕ → ℕ → ℕ → Bool
is_between from end number = nat_le from number && nat_lt number end

-- A page is put among the free ones and among those of them that may be marked, or out of both and among those in use.
-- Of the sets of blocks it is in those that it was in, and among those with freed cells if it was so.
pub record PutsFree (before after : List ℕ) (page : ℕ) (is_free : Bool) : Type 0 where
  pub are_sets : AreSets after
  pub free : is_member after 16 page ≡ is_free
  pub in_use : is_member after 17 page ≡ not is_free
  pub uncleaned : is_member after 19 page ≡ is_free
  pub other_sets : (set : ℕ) → set < 19 → (set ≡ 16 → ⊥) → (set ≡ 17 → ⊥)
      → is_member after set page ≡ is_member before set page
  pub other_pages : OthersStay before after page

-- A page is sorted by what is on it now. It is among those with freed cells if it was so.
pub record SortsPage (before after : List ℕ) (page : ℕ) (stands : PageUse) : Type 0 where
  pub are_sets : AreSets after
  pub sorted : IsInItsSets after page stands
  pub quarantined : is_member after 18 page ≡ is_member before 18 page
  pub other_pages : OthersStay before after page

-- the sets and the count of resident pages fit the pages
pub record FitPages (pages : List Page) (sets : List ℕ) (resident : ℕ) : Type 0 where
  pub few : length pages ≤ 4096
  pub are_sets : 0 < length pages → AreSets sets
  pub sorted : (number : ℕ) → number < length pages → IsInItsSets sets number (use_of_page (page_at pages number))
  pub no_others : (set number : ℕ) → set < 20 → length pages ≤ number → number < 4096
      → is_member sets set number ≡ false
  pub counted : resident ≡ resident_pages (uses_of_pages pages)

-- of each of this many pages whether it is in the set
abbrev pub members : List ℕ → ℕ → ℕ → List Bool
members sets set count = map (is_member sets set) (range_with_len 0 count)

-- what stands on a page of a kind that has this used word
abbrev pub use_of_kind : PageKind → ℕ → PageUse
use_of_kind Free used = Nothing
use_of_kind (Block class leaf) used = Cells class leaf (bits_of (cells_of class) used)
use_of_kind (Run mapped) used = PartOfRun mapped

-- the page is one of a mapped run
abbrev pub is_mapped_run : Option Header → Bool
is_mapped_run (Some (Header.Run pages mapped)) = mapped
is_mapped_run (Some (Header.Later distance mapped)) = mapped
is_mapped_run (Some (Header.LeafRun pages)) = true
is_mapped_run _ = false

-- a block's class is one of the eight
abbrev pub HasClass : PageKind → Type 0
HasClass (Block class leaf) = class < 8
HasClass _ = Unit {0}
