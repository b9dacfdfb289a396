-- What words of the table say: which of them are 0, what a look at a header says, and when the tallies are exact.
use Rattle.std.specs.Prelude.{◌≡◌, ◌≢◌, ℕ, ◌/◌, false, slice_index, ◌*◌, ◌%◌, ◌<◌, ◌≤◌, true, List, Option, Some, Bool}
use Rattle.std.specs.{Prelude.{◌&&◌, not, ◌==◌, ◌++◌, ◌∷◌}, List.list_any}
use Rattle.mk_geom.specs.{Storages.IsWordOf, Addresses.{cells_of, class_words_of}, declared.addresses.Cell.Cell}
use Rattle.mk_geom.specs.{declared.headers.Header.Header, declared.headers.Header.TheVariants.{Free, Block, LeafBlock}}
use Rattle.mk_geom.specs.PageUses.{is_resident_page, use_of_page}
use Rattle.mk_core.specs.{declared.config.Config.Config, Allocations.{placed_at, storage_of, PlacedAllocation}}
use Rattle.mk_core.specs.{Allocations.is_mapped, History.{World, left}, Words.{Words, header_at, used_at, phase_of}}
use Rattle.mk_core.specs.{Words.{page_of, register_word}, declared.events.Event.Event, Cells.{cell_words, cells_under}}
use Rattle.mk_core.specs.{Cells.{first_word, header_in, words_are_zero}, NewPlaces.{is_run_gone, is_run_unmapped}}
use Rattle.mk_core.specs.{Readings.{IsTaken, WordsTellWhatStands}, declared.events.Step.Step}
use Rattle.mk_core.specs.{declared.seats.RunPages.RunPages, declared.events.Seat.Seat, Calls.g_of, Moments.flight_of}
use Rattle.mk_core.specs.Counts.{TalliesAreExact}

-- No cell of the page is used or freed, in the snapshot or not, and the page isn't dirty.
pub record HasNothing (w : Words) (p : ℕ) : Type 0 where
  pub used : used_at w p ≡ 0
  pub freed : slice_index w.freed p ≡ 0
  pub snapshot : slice_index w.snapshot p ≡ 0
  pub dirty : slice_index w.dirty p ≡ 0

-- So it is with each page that has no header,
abbrev pub FreePagesHaveNothing : Config → World → Type 0
FreePagesHaveNothing c w = (p : ℕ) → header_at w.now.words p ≡ 0 → HasNothing w.now.words p

-- A word of the page is one of an unreleased allocation.
pub record HasAllocation (c : Config) (w : World) (p : ℕ) : Type 0 where
  pub number : ℕ
  pub unreleased : (placed_at w.allocations number).released ≡ false
  pub word : ℕ
  pub of_it : IsWordOf (storage_of c (placed_at w.allocations number)) word
  pub page : word / 64 ≡ p

-- since on each dirty page an unreleased allocation stands.
abbrev pub DirtyPagesHaveAllocations : Config → World → Type 0
DirtyPagesHaveAllocations c w = (p : ℕ) → slice_index w.now.words.dirty p ≢ 0 → HasAllocation c w p

-- Heap word n is of no unreleased allocation.
abbrev pub IsOfNone : Config → List PlacedAllocation → ℕ → Type 0
IsOfNone c xs n = (i : ℕ) → (placed_at xs i).released ≡ false → IsWordOf (storage_of c (placed_at xs i)) n → ⊥

-- Heap word n is of no mapped allocation.
abbrev pub IsOfNoneMapped : Config → List PlacedAllocation → ℕ → Type 0
IsOfNoneMapped c xs n = (i : ℕ) → is_mapped c (placed_at xs i) ≡ true → IsWordOf (storage_of c (placed_at xs i)) n → ⊥

-- The word is one of a mapped allocation.
pub record IsWordOfMapped (c : Config) (xs : List PlacedAllocation) (n : ℕ) : Type 0 where
  pub number : ℕ
  pub mapped : is_mapped c (placed_at xs number) ≡ true
  pub word : IsWordOf (storage_of c (placed_at xs number)) n

-- A word of no unreleased allocation is 0,
abbrev pub WordsOfNoneAreZero : Config → World → Type 0
WordsOfNoneAreZero c w =
    phase_of w.now.words ≢ 4 → (n : ℕ) → IsOfNone c w.allocations n → slice_index w.now.words.heap n ≡ 0

-- and, if no Free is unmapping or wiping its run, so is each word of no mapped allocation.
abbrev pub UnmappedWordsAreZero : Config → World → Type 0
UnmappedWordsAreZero c w =
    phase_of w.now.words ≢ 4 → is_run_gone w.now.words w.now.seats.holding.freed ≡ true
    → (n : ℕ) → IsOfNoneMapped c w.allocations n → slice_index w.now.words.heap n ≡ 0

-- So the words of a cell are 0 in which no unreleased allocation stands,
abbrev pub FreeCellsAreZero : Config → World → Type 0
FreeCellsAreZero c w =
    phase_of w.now.words ≢ 4 → (cell : Cell) → cell.index < cells_under (header_in w.now.words cell.page)
    → (IsTaken w cell → ⊥)
    → words_are_zero w.now.words (first_word w.now.words cell) (cell_words w.now.words cell) ≡ true

-- how many of a page's words its cells take: of a free page none, and of a run's all
abbrev pub words_in_cells : Option Header → ℕ
words_in_cells (Some Free) = 0
words_in_cells (Some (Block class)) = cells_of class * class_words_of class
words_in_cells (Some (LeafBlock class)) = cells_of class * class_words_of class
words_in_cells _ = 64

-- and those that a page has after its cells.
abbrev pub WordsBehindCellsAreZero : Config → World → Type 0
WordsBehindCellsAreZero c w =
    phase_of w.now.words ≢ 4 → (n : ℕ) → words_in_cells (header_in w.now.words (n / 64)) ≤ n % 64
    → slice_index w.now.words.heap n ≡ 0

-- It holds of what a list of events leaves.
abbrev pub Leaves : (Config → World → Type 0) → Config → List Event → Type 0
Leaves claim c es = claim c (left c es)

-- whether the page takes memory, as `first_fit` counts it
abbrev pub is_resident_in : World → ℕ → Bool
is_resident_in w p = is_resident_page (use_of_page (page_of w.now.words p))

-- The page is one of a freed large allocation that is unreleased. If the call under way freed it, all its pages are
-- unmapped.
pub record IsOfUnmappedRun (c : Config) (w : World) (p : ℕ) : Type 0 where
  pub number : ℕ
  pub unreleased : (placed_at w.allocations number).released ≡ false
  pub freed : is_mapped c (placed_at w.allocations number) ≡ false
  pub page : IsWordOf (storage_of c (placed_at w.allocations number)) (64 * p)
  pub unmapped : (run : RunPages) → w.now.seats.holding.freed ≡ Some run
      → run.page ≡ (placed_at w.allocations number).base / 64 → is_run_unmapped w.now.words run ≡ true

-- The step makes the page one of a block or a run: it stores a header word to it, and not 0.
abbrev pub gives_header : ℕ → Step → Bool
gives_header p (Step.Head q value) = (q == p) && not (value == 0)
gives_header p _ = false

-- So it stays, whatever happens to the allocation, until a step makes the page one of a block or a run again.
abbrev pub UnmappedRunsTakeNoMemory : Config → List Event → Type 0
UnmappedRunsTakeNoMemory c es =
    (front more : List Event) (p : ℕ) → es ≡ front ++ more → IsOfUnmappedRun c (left c front) p
    → list_any (λ (e : Event). gives_header p e.step) more ≡ false → is_resident_in (left c es) p ≡ false

-- Registers of callers that don't exist are 0.
abbrev pub RegistersOfNoCallerAreZero : Config → World → Type 0
RegistersOfNoCallerAreZero c w = (k r : ℕ) → c.callers ≤ k → register_word w.now.words k r ≡ 0

-- no `setg` of the list is of the global
abbrev pub IsNeverSet : Config → List Event → ℕ → Type 0
IsNeverSet c es g =
    (front rest : List Event) (seat : Seat) → es ≡ front ++ record { seat = seat; step = Step.Setg } ∷ rest
    → g_of (flight_of (left c front).now seat).op ≢ g

-- Globals that nobody stored to are 0.
abbrev pub UnsetGlobalsAreZero : Config → List Event → Type 0
UnsetGlobalsAreZero c es = (g : ℕ) → IsNeverSet c es g → slice_index (left c es).now.words.globals g ≡ 0

-- They are so before each `give`.
abbrev pub TalliesAreExactAtGives : Config → List Event → Type 0
TalliesAreExactAtGives c es =
    (before : List Event) (e : Event) (behind : List Event) → es ≡ before ++ e ∷ behind → e.step ≡ Step.Give
    → TalliesAreExact c before

-- Header and quarantine words say what stands on the pages.
abbrev pub HeadersAndQuarantineTell : Config → List Event → Type 0
HeadersAndQuarantineTell c es = WordsTellWhatStands (left c es)
