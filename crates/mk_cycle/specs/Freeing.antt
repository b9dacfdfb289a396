-- After a `release` what was released is wiped and given back, page by page.
use Rattle.std.specs.Prelude.{◌≡◌, ℕ, ◌≤◌, Bool, ◌&&◌, nat_lt, Option, Some, zero, suc, ◌+◌, ◌*◌, bit_and, count_ones}
use Rattle.std.specs.Prelude.{if◌then◌else◌, slice_index, ◌≢◌, ◌<◌, true, false, ◌==◌, ◌||◌, not, []}
use Rattle.mk_geom.specs.declared.headers.Header.{Header, TheVariants.Later}
use Rattle.mk_geom.specs.{Addresses.header_of, declared.pages.Page.Page}
use Rattle.mk_core.specs.Below.Books.KnownPages.{has_freed_cells}
use Rattle.mk_core.specs.Cells.{is_unmapped_header, words_under, left_unmarked, header_in, head_page}
use Rattle.mk_core.specs.{Words.{Words, has_bit, page_of, header_at, quarantine_word, used_at}, Frames.Steady}
use Rattle.mk_core.specs.{Moments.{is_held, none_is_held}, MarkingConditions.has_settled_page}
use Rattle.mk_words.specs.{Below.Laws.{Theorems.run_count, WordLaws.IsWordOfMapped}, Steps.{Does, is_open}}
use Rattle.mk_words.specs.States.{IsTurn, PassState, WordsState, world_of, now_of}
use Rattle.mk_cycle.specs.{declared.finishing.Released.Released, EngineLaw.{IsTurnAmong, IsAtPhase}}
use Rattle.mk_cycle.specs.{TurnKeeps.{is_giving_back, LeavesTurn}, Stops.HoldsGates, FinishCycle.ReleasesUnmarked}

-- how far a later page is from the head of its run
abbrev pub distance_under : Option Header → ℕ
distance_under (Some (Later distance mapped)) = distance
distance_under _ = 0

-- An unmapped run of several pages has its head at the page with this header.
abbrev pub heads_unmapped_pages : Option Header → Bool
heads_unmapped_pages x = is_unmapped_header x && nat_lt 1 (run_count x)

-- The numbers are those of the header word. No cell has more than 4,096 words.
pub record IsRight (word size : ℕ) (unmapped : Bool) (distance pages : ℕ) : Type 0 where
  pub size_of : size ≡ words_under (header_of word)
  pub few : size ≤ 4096
  pub is_unmapped : unmapped ≡ is_unmapped_header (header_of word)
  pub distance_of : distance ≡ distance_under (header_of word)
  pub pages_of : pages ≡ run_count (header_of word)

-- the sum of the values below a bound
abbrev pub sum_below : ℕ → (ℕ → ℕ) → ℕ
sum_below zero f = 0
sum_below (suc n) f = sum_below n f + f n

-- how many cells of a page are in the snapshot and not marked
abbrev pub cells_unmarked : Words → ℕ → ℕ
cells_unmarked w p = count_ones (left_unmarked w p)

-- their words
abbrev pub words_unmarked : Words → ℕ → ℕ
words_unmarked w p = cells_unmarked w p * words_under (header_in w p)

-- those of them that are held
abbrev pub held_unmarked : Words → ℕ → ℕ
held_unmarked w p = if is_unmapped_header (header_in w p) then 0 else words_unmarked w p

-- how many cells of a page are in the snapshot and marked
abbrev pub cells_marked : Words → ℕ → ℕ
cells_marked w p = count_ones (bit_and (slice_index w.snapshot p) (slice_index w.marks p))

-- what a page's release comes to
abbrev pub released_on : Words → ℕ → Released
released_on w p = record { count = cells_unmarked w p; words = words_unmarked w p; kept = cells_marked w p }

-- what that of all pages below this one comes to
abbrev pub released_below : Words → ℕ → Released
released_below w n =
    record {
      count = sum_below n (cells_unmarked w);
      words = sum_below n (words_unmarked w);
      kept = sum_below n (cells_marked w);
    }

-- the held words among them
abbrev pub held_below : Words → ℕ → ℕ
held_below w n = sum_below n (held_unmarked w)

-- A page has few cells, and few words.
pub record IsOfOnePage (r : Released) : Type 0 where
  pub count : r.count ≤ 64
  pub words : r.words ≤ 64 * 4096
  pub kept : r.kept ≤ 64

-- This was released on a page, and so many of its words were held until then.
pub record WasReleasedOn (w : Words) (page : ℕ) (r : Released) (words : ℕ) : Type 0 where
  pub released : r ≡ released_on w page
  pub held : words ≡ held_unmarked w page
  pub few : IsOfOnePage r
  pub part : words ≤ r.words

-- without what is given back, and the count of fresh words
abbrev pub but_pages : Steady → Steady
but_pages s = record s { pages = []; freed = []; snapshot = []; fresh_words = 0 }

-- No mapped allocation has the word.
abbrev pub IsUnmapped : PassState → ℕ → Type 0
IsUnmapped p n = IsWordOfMapped p.table.config (world_of p).allocations n → ⊥

-- The word lies in the heap, and no mapped allocation has it.
pub record IsUnmappedWord (p : PassState) (n : ℕ) : Type 0 where
  pub within : n < 64 * p.table.config.pages
  pub unmapped : IsUnmapped p n

-- Heap word n is 0.
abbrev pub IsZero : PassState → ℕ → Type 0
IsZero p n = slice_index (now_of p).words.heap n ≡ 0

-- From one to the other cells were given back: marks and open gates stay, and words of no mapped allocation that are 0.
pub record Frees (p q : PassState) : Type 0 where
  pub does : Does is_giving_back p q
  pub keeps : LeavesTurn but_pages p q
  pub marks : (now_of q).words.marks ≡ (now_of p).words.marks
  pub gates : (j : ℕ) → is_held (now_of p).words j ≡ false → is_held (now_of q).words j ≡ false
  pub zeros : (n : ℕ) → IsUnmapped p n → IsZero p n → IsZero q n

-- the words of a page that cells are given back on
pub record PageState : Type 0 where
  pub page : Page
  pub freed : ℕ
  pub snapshot : ℕ

-- what giving back changes of a page
abbrev pub page_state : PassState → ℕ → PageState
page_state p r =
    record {
      page = page_of (now_of p).words r;
      freed = slice_index (now_of p).words.freed r;
      snapshot = slice_index (now_of p).words.snapshot r;
    }

-- The page is as it was.
abbrev pub SamePage : PassState → PassState → ℕ → Type 0
SamePage p q r = page_state q r ≡ page_state p r

-- Nothing of the words of pages was changed.
pub record GivesNothingBack (p q : PassState) : Type 0 where
  pub frees : Frees p q
  pub same : (r : ℕ) → SamePage p q r

-- but for one page
pub record FreesPage (page : ℕ) (p q : PassState) : Type 0 where
  pub frees : Frees p q
  pub others : (r : ℕ) → r ≢ page → SamePage p q r

-- The words of these cells, by the page's header word, are of no mapped allocation, and those of an unmapped run are 0.
pub record AreFreeCells (p : PassState) (page header cells : ℕ) : Type 0 where
  pub unmapped : (k i : ℕ) → has_bit cells k ≡ true → i < words_under (header_of header)
      → IsUnmappedWord p (64 * page + k * words_under (header_of header) + i)
  pub wiped : is_unmapped_header (header_of header) ≡ true → (k i : ℕ) → has_bit cells k ≡ true
      → i < words_under (header_of header) → IsZero p (64 * page + k * words_under (header_of header) + i)

-- It holds of the page's released cells.
abbrev pub HasFreeCells : PassState → ℕ → Type 0
HasFreeCells p page = AreFreeCells p page (header_at (now_of p).words page) (left_unmarked (now_of p).words page)

-- A turn on these words, of so many pages, may give back the released cells of this one, which has this header word.
pub record MayGiveBackOn (w : WordsState) (p : PassState) (pages page header : ℕ) : Type 0 where
  pub turn : IsTurnAmong 4 w p pages
  pub within : page < w.config.pages
  pub is_header : header ≡ header_at (now_of p).words page
  pub cells : HasFreeCells p page

-- It is the page's quarantine word.
abbrev pub IsQuarantineWord : PassState → ℕ → ℕ → Type 0
IsQuarantineWord p page n =
    n ≡ quarantine_word (slice_index (now_of p).words.freed page) (slice_index (now_of p).words.snapshot page)

-- The released cells of the page were given back; its header is as it was.
pub record GivesBack (page : ℕ) (p q : PassState) : Type 0 where
  pub frees : FreesPage page p q
  pub header : header_at (now_of q).words page ≡ header_at (now_of p).words page
  pub none_left : left_unmarked (now_of q).words page ≡ 0

-- On such a turn this was done on the page and those before it: none is left on it, or at the head of its run.
pub record HasGivenBackOn (w : WordsState) (p : PassState) (pages page header : ℕ) : Type 0 where
  pub turn : IsTurnAmong 4 w p pages
  pub within : page < w.config.pages
  pub is_header : header ≡ header_at (now_of p).words page
  pub none_left : left_unmarked (now_of p).words page ≡ 0
  pub none_at_head : left_unmarked (now_of p).words (head_page (now_of p).words page) ≡ 0

-- No cell of the page is released, and its run has a used cell, if it has a header.
abbrev pub IsSettledPage : PassState → ℕ → Type 0
IsSettledPage p page = has_settled_page (now_of p).words page ≡ true

-- It has no header, or its run has a used cell.
abbrev pub is_occupied_page : Words → ℕ → Bool
is_occupied_page w page = (header_at w page == 0) || not (used_at w (head_page w page) == 0)

-- Something on the page is used.
abbrev pub IsOccupied : PassState → ℕ → Type 0
IsOccupied p page = is_occupied_page (now_of p).words page ≡ true

-- It is one of the pages before this end of a run, or has freed cells.
abbrev pub may_be_unsettled : Words → ℕ → ℕ → Bool
may_be_unsettled w end page = nat_lt page end || has_freed_cells w.freed page

-- The later pages of a run, from one on and below another, were freed: they are settled, had no freed cells and headed
-- no run, and all other pages are as they were.
pub record FreesRest (from to : ℕ) (p q : PassState) : Type 0 where
  pub frees : Frees p q
  pub others : (r : ℕ) → (from ≤ r → r < to → ⊥) → SamePage p q r
  pub settled : (r : ℕ) → from ≤ r → r < to → IsSettledPage q r
  pub bare : (r : ℕ) → from ≤ r → r < to → has_freed_cells (now_of p).words.freed r ≡ false
  pub later : (r : ℕ) → from ≤ r → r < to → run_count (header_in (now_of p).words r) ≡ 0

-- A page was freed, or stays in use, and is settled since; then the rest of its run was freed, up to this end.
pub record FreesRun (head end : ℕ) (p q : PassState) : Type 0 where
  pub between : PassState
  pub turn : IsTurn between
  pub frees_head : FreesPage head p between
  pub settled : IsSettledPage between head
  pub frees_rest : FreesRest (head + 1) end between q

-- All that was released is given back, by these stages.
pub record GivesAllBack (p q : PassState) : Type 0 where
  pub held : PassState
  pub released : PassState
  pub opened : PassState
  pub holds : HoldsGates p held
  pub releases : ReleasesUnmarked held released
  pub opens : Does is_open released opened
  pub none_held : none_is_held p.table.config.callers (now_of opened).words ≡ true
  pub gives : Does is_giving_back opened q
  pub frees : Frees released q
  pub phase : IsAtPhase q 4
  pub gates : none_is_held p.table.config.callers (now_of q).words ≡ true
  pub settled : (page : ℕ) → page < p.table.config.pages → IsSettledPage q page
