-- The words of the shared table in their order, from index 0: the phase at 0, the turn at 16, the five tallies from 32,
-- a gate at each sixteenth word from 48, each caller's eight registers at each sixteenth word from 304, the 64 globals
-- from 560. From 640 on the headers, used, quarantine, mark and black words, one a page; and after a gap of 16 the
-- pages: each has its 64 words of the heap, its dirty word, and a gap of 7. The words between are never used, and 0:
-- threads that store to words of one cache line slow one another. With 4,096 pages these are 316,048 words, 2,528,384
-- bytes.
use Rattle.std.specs.Prelude.{◌≡◌, ◌≢◌, ℕ, zero, suc, ◌+◌, ◌*◌, ◌/◌, ◌<◌, ◌≤◌, ◌⊎◌, List, [], ◌∷◌, ◌++◌, length, map}
use Rattle.std.specs.Prelude.{take, drop, replicate, slice_index, slice_set, ⊤}
use Rattle.mk_geom.specs.declared.pages.Page.{Page}
use Rattle.mk_core.specs.{declared.events.Word.Word, declared.accesses.TableWord.TableWord}
use Rattle.mk_core.specs.{declared.accesses.TableWord.TheVariants.{Turn, Named}, declared.accesses.Access.Access}
use Rattle.mk_core.specs.{declared.config.Config.Config, declared.events.Event.Event, History.left}
use Rattle.mk_core.specs.Words.{Words, zero_words_of, quarantine_word, word_in, with_word_in, becomes, accessed}

-- the index of a word by its name, in a table of this many pages
abbrev pub index_of_named : ℕ → Word → ℕ
index_of_named pages Word.Phase = 0
index_of_named pages Word.Held = 32
index_of_named pages Word.Fresh = 33
index_of_named pages Word.Cycles = 34
index_of_named pages Word.Released = 35
index_of_named pages Word.Full = 36
index_of_named pages (Word.Gate caller) = 48 + 16 * caller
index_of_named pages (Word.Reg caller r) = 304 + 16 * caller + r
index_of_named pages (Word.Global g) = 560 + g
index_of_named pages (Word.Head p) = 640 + p
index_of_named pages (Word.Used p) = 640 + pages + p
index_of_named pages (Word.Quar p) = 640 + 2 * pages + p
index_of_named pages (Word.Mark p) = 640 + 3 * pages + p
index_of_named pages (Word.Black p) = 640 + 4 * pages + p
index_of_named pages (Word.Dirty p) = 720 + 5 * pages + 72 * p
index_of_named pages (Word.Heap n) = 656 + 5 * pages + n + 8 * (n / 64)

-- where the word is in the table
abbrev pub index_of : ℕ → TableWord → ℕ
index_of pages Turn = 16
index_of pages (Named name) = index_of_named pages name

-- how many words the table has
abbrev pub count_of_words : ℕ → ℕ
count_of_words pages = 656 + 77 * pages

-- the name is one of a table of this many pages
abbrev pub NamesWord : ℕ → Word → Type 0
NamesWord pages (Word.Gate caller) = caller < 16
NamesWord pages (Word.Reg caller r) = (caller < 16) × (r < 8)
NamesWord pages (Word.Global g) = g < 64
NamesWord pages (Word.Head p) = p < pages
NamesWord pages (Word.Used p) = p < pages
NamesWord pages (Word.Quar p) = p < pages
NamesWord pages (Word.Mark p) = p < pages
NamesWord pages (Word.Black p) = p < pages
NamesWord pages (Word.Dirty p) = p < pages
NamesWord pages (Word.Heap n) = n < 64 * pages
-- words that there is one of
NamesWord pages _ = ⊤

-- The table has this word.
abbrev pub IsOfTable : ℕ → TableWord → Type 0
IsOfTable pages Turn = ⊤
IsOfTable pages (Named name) = NamesWord pages name

-- the quarantine words of pages with these freed and snapshot bits
abbrev pub quarantine_words : List ℕ → List ℕ → List ℕ
quarantine_words [] snapshots = []
quarantine_words (freed ∷ freeds) [] = []
quarantine_words (freed ∷ freeds) (snapshot ∷ snapshots) = quarantine_word freed snapshot
    ∷ quarantine_words freeds snapshots

-- this many words that are never used
abbrev pub gap : ℕ → List ℕ
gap count = replicate count 0

-- this many groups of words of that size, each with a gap after it
unfoldable pub spread : ℕ → ℕ → ℕ → List ℕ → List ℕ
spread zero size between xs = []
spread (suc groups) size between xs = take size xs ++ (gap between ++ spread groups size between (drop size xs))

-- the words of the heap and the dirty words, page by page
unfoldable pub page_by_page : List ℕ → List ℕ → List ℕ
page_by_page [] heap = []
page_by_page (dirty ∷ others) heap = take 64 heap
    ++ ((dirty ∷ gap 7) ++ page_by_page others (drop 64 heap))

-- the words region by region, and as one list
abbrev pub regions : Words → List (List ℕ)
regions w =
    (w.phase ∷ []) ∷ gap 15
    ∷ (w.turn ∷ []) ∷ gap 15
    ∷ (w.held ∷ w.fresh ∷ w.cycles ∷ w.released ∷ w.full ∷ []) ∷ gap 11
    ∷ spread 16 1 15 w.gates
    ∷ spread 16 8 8 w.registers
    ∷ w.globals ∷ gap 16
    ∷ map (λ (page : Page). page.header) w.pages
    ∷ map (λ (page : Page). page.used) w.pages
    ∷ quarantine_words w.freed w.snapshot
    ∷ w.marks ∷ w.blacks ∷ gap 16
    ∷ page_by_page w.dirty w.heap ∷ []

-- the lists, one after the other
abbrev pub joined : List (List ℕ) → List ℕ
joined [] = []
joined (xs ∷ xss) = xs ++ joined xss

-- the table's words, in its order
abbrev pub in_order : Words → List ℕ
in_order w = joined (regions w)

-- each region has its length
pub record AreOfPages (count : ℕ) (w : Words) : Type 0 where
  pub gates : length w.gates ≡ 16
  pub registers : length w.registers ≡ 128
  pub globals : length w.globals ≡ 64
  pub pages : length w.pages ≡ count
  pub freed : length w.freed ≡ count
  pub snapshot : length w.snapshot ≡ count
  pub marks : length w.marks ≡ count
  pub blacks : length w.blacks ≡ count
  pub dirty : length w.dirty ≡ count
  pub heap : length w.heap ≡ 64 * count

-- Whatever happens, the regions keep their lengths.
abbrev pub RegionsKeepTheirLengths : Type 0
RegionsKeepTheirLengths = (c : Config) (events : List Event) → AreOfPages c.pages (left c events).now.words

-- Two names never share an index, and each index is one of the table.
abbrev pub NamesAreApart : Type 0
NamesAreApart =
    (pages : ℕ) (x y : TableWord) → IsOfTable pages x → IsOfTable pages y → index_of pages x ≡ index_of pages y → x ≡ y

-- Each word has a place in the table.
abbrev pub IndexesAreOfTheTable : Type 0
IndexesAreOfTheTable = (pages : ℕ) (x : TableWord) → IsOfTable pages x → index_of pages x < count_of_words pages

-- The list has each word at its index, and a word's change is a change there.
abbrev pub WordsStandAtTheirIndexes : Type 0
WordsStandAtTheirIndexes =
    (pages : ℕ) (w : Words) (x : TableWord) → AreOfPages pages w → IsOfTable pages x
    → slice_index (in_order w) (index_of pages x) ≡ word_in w x

-- To change a word is to change the table at its place.
abbrev pub ChangesStandAtTheirIndexes : Type 0
ChangesStandAtTheirIndexes =
    (pages : ℕ) (w : Words) (x : TableWord) (value : ℕ) → AreOfPages pages w → IsOfTable pages x
    → in_order (with_word_in w x value) ≡ slice_set (in_order w) (index_of pages x) value

-- As a list, the words are as many as the table's; the first are all 0.
abbrev pub ListHasAllWords : Type 0
ListHasAllWords = (pages : ℕ) (w : Words) → AreOfPages pages w → length (in_order w) ≡ count_of_words pages

-- At first all words of the table are 0.
abbrev pub FirstWordsAreZero : Type 0
FirstWordsAreZero = (pages : ℕ) → in_order (zero_words_of pages) ≡ replicate (count_of_words pages) 0

-- An access makes of the list's word at the index what it makes of a word, and leaves the others.
abbrev pub AccessesStandAtTheirIndexes : Type 0
AccessesStandAtTheirIndexes =
    (pages : ℕ) (w : Words) (x : TableWord) (a : Access) → AreOfPages pages w → IsOfTable pages x
    → in_order (accessed w x a)
    ≡ slice_set (in_order w) (index_of pages x) (becomes a (slice_index (in_order w) (index_of pages x)))

-- Words that may share a cache line: those from the headers to the black words may, and so may those of a page, with
-- its dirty word.
pub data LineGroup : Type 0 where
  OfPhase OfTurn OfTallies OfGlobals OfHeaders : LineGroup
  OfGate : (caller : ℕ) → LineGroup
  OfRegisters : (caller : ℕ) → LineGroup
  OfPage : (page : ℕ) → LineGroup

-- the words that may share a cache line with this one
abbrev pub line_group : TableWord → LineGroup
line_group Turn = OfTurn
line_group (Named Word.Phase) = OfPhase
line_group (Named Word.Held) = OfTallies
line_group (Named Word.Fresh) = OfTallies
line_group (Named Word.Cycles) = OfTallies
line_group (Named Word.Released) = OfTallies
line_group (Named Word.Full) = OfTallies
line_group (Named (Word.Gate caller)) = OfGate caller
line_group (Named (Word.Reg caller r)) = OfRegisters caller
line_group (Named (Word.Global g)) = OfGlobals
line_group (Named (Word.Dirty p)) = OfPage p
line_group (Named (Word.Heap n)) = OfPage (n / 64)
line_group (Named _) = OfHeaders

-- Words of two groups stand at least eight words apart, so no line of eight has both, wherever the table begins.
abbrev pub LineGroupsAreApart : Type 0
LineGroupsAreApart =
    (pages : ℕ) (x y : TableWord) → IsOfTable pages x → IsOfTable pages y → line_group x ≢ line_group y
    → (index_of pages x + 8 ≤ index_of pages y) ⊎ (index_of pages y + 8 ≤ index_of pages x)
