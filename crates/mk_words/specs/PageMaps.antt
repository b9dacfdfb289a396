-- The page map of a heap: what it shows of the words, and the steps by which it changes hands or has to follow.
use Rattle.std.specs.Prelude.{◌≡◌, ℕ, ◌/◌, ⊤, ◌<◌, ◌≤◌, Bool, true, false, slice_index, Option, Some, None, []}
use Rattle.mk_core.specs.Below.Books.KnownPages.{KnownPages, Shows, is_uncleaned}
use Rattle.mk_core.specs.declared.accesses.TableWord.{TableWord, TheVariants.Named}
use Rattle.mk_core.specs.{declared.events.{Word.Word, Step.Step}, Words.{Words, header_at}}

-- A word of the heap stands on this page. Of other words it says nothing.
abbrev pub IsOnPage : ℕ → TableWord → Type 0
IsOnPage page (Named (Word.Heap n)) = page ≡ n / 64
IsOnPage page _ = ⊤

-- No mark is on the page, and nothing of it is black.
pub record HasNoMarks (w : Words) (page : ℕ) : Type 0 where
  pub unmarked : slice_index w.marks page ≡ 0
  pub unscanned : slice_index w.blacks page ≡ 0

-- a map of no pages
abbrev pub no_map : KnownPages
no_map = record { pages = []; quarantined = []; uncleaned = [] }

-- the map that lies in a slot, and where none does that of no pages
abbrev pub map_in : {A : Type 0} → (A → KnownPages) → Option A → KnownPages
map_in map_of (Some held) = map_of held
map_in map_of None = no_map

-- The map shows the header and used words of all pages, and which have freed cells. A page without a header has no
-- marks, unless the map has it as uncleaned.
pub record IsMapOf (map : KnownPages) (w : Words) : Type 0 where
  pub words : Shows map w.pages w.freed
  pub unmarked : (page : ℕ) → header_at w page ≡ 0 → is_uncleaned map page ≡ false → HasNoMarks w page

-- The next page that may be marked, though it has no header, of those from one on and below a count: no other of them
-- below it is.
abbrev pub IsNextUncleaned : Words → ℕ → ℕ → Option ℕ → Type 0
IsNextUncleaned w from count (Some page) =
    (from ≤ page) × (page < count)
    × ((between : ℕ) → from ≤ between → between < page → header_at w between ≡ 0 → HasNoMarks w between)
IsNextUncleaned w from count None =
    (page : ℕ) → from ≤ page → page < count → header_at w page ≡ 0 → HasNoMarks w page

-- the steps by which the turn, and the map with it, changes hands
abbrev pub is_handing : Step → Bool
is_handing (Step.Take o) = true
is_handing Step.Give = true
is_handing _ = false

-- the steps that a map is told of
abbrev pub is_told : Step → Bool
is_told (Step.Head p v) = true
is_told (Step.Used p v) = true
is_told (Step.Quar p v) = true
is_told (Step.Mark p v) = true
is_told _ = false

-- the page that it stores to
abbrev pub page_told : Step → ℕ
page_told (Step.Head p v) = p
page_told (Step.Used p v) = p
page_told (Step.Quar p v) = p
page_told (Step.Mark p v) = p
page_told _ = 0
