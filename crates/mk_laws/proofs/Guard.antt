-- What stands while a cycle marks: the words of black cells are guarded, and what markers have scanned and seen goes
-- on. And what stands from `close` to `release`: the marks are closed.
use Rattle.std.specs.Prelude.{◌≡◌, ◌≢◌, ◌⊎◌, ℕ, ◌+◌, ◌<◌, ◌≤◌, true, false, slice_index, Option, Some}
use Rattle.mk_geom.specs.{declared.addresses.Cell.Cell, Addresses.{header_of, cell_at}}
use Rattle.mk_core.specs.declared.{config.Config.Config, seats.{Scan.Scan, SeenHeader.SeenHeader, Marker.Marker}}
use Rattle.mk_core.specs.{Words.{Words, phase_of, header_at}, Cells.{header_in, cells_under, words_under}}
use Rattle.mk_core.specs.{Cells.{has_no_pointers, is_marked, first_word, cell_words}, Moments.{Moment, marker_of}}
use Rattle.mk_core.specs.{MarkingConditions.is_attending, Cycles.{IsGuarded, BlackIsGuarded}}
use Rattle.mk_laws.specs.Theorems.{CellsAreClosed}

-- One header word goes on as another: what the one shows of cells, the other shows too.
pub record HeaderGoesOn (pages before after : ℕ) : Type 0 where
  pub cell : (value : ℕ) (x : Cell) → cell_at pages before value ≡ Some x → cell_at pages after value ≡ Some x
  pub count : cells_under (header_of before) ≢ 0 → cells_under (header_of after) ≡ cells_under (header_of before)
  pub words : cells_under (header_of before) ≢ 0 → words_under (header_of after) ≡ words_under (header_of before)
  pub unscanned : cells_under (header_of before) ≢ 0 → has_no_pointers (header_of before) ≡ true
      → has_no_pointers (header_of after) ≡ true

-- the cell that a marker scans
abbrev pub cell_scanned : Scan → Cell
cell_scanned x = record { page = x.page; index = x.index }

-- the scan's cell is there, and the scan ends after its last word, or at its first if the cell isn't scanned
abbrev pub EndsItsCell : Words → Scan → Type 0
EndsItsCell w x =
    (x.end ≡ first_word w (cell_scanned x) + cell_words w (cell_scanned x))
    ⊎ ((x.end ≡ first_word w (cell_scanned x)) × (has_no_pointers (header_in w x.page) ≡ true))

-- A marker is so far in a marked cell: each word before its next one is guarded, or is its open hand.
pub record ScanStands (c : Config) (m : Moment) (hand : Option ℕ) (x : Scan) : Type 0 where
  pub index : x.index < cells_under (header_in m.words x.page)
  pub marked : is_marked m.words (cell_scanned x) ≡ true
  pub start : first_word m.words (cell_scanned x) ≤ x.next
  pub next : x.next ≤ x.end
  pub end : EndsItsCell m.words x
  pub passed : has_no_pointers (header_in m.words x.page) ≡ false → (n : ℕ) → first_word m.words (cell_scanned x) ≤ n
      → n < x.next
      → IsGuarded c m n ⊎ (hand ≡ Some (slice_index m.words.heap n))

-- And the header that it has seen goes on.
pub record MarkerStands (c : Config) (m : Moment) (x : Marker) : Type 0 where
  pub scan : (s : Scan) → x.scan ≡ Some s → ScanStands c m x.hand s
  pub seen : (s : SeenHeader) → x.seen ≡ Some s → HeaderGoesOn c.pages s.header (header_at m.words s.page)

-- Black cells are guarded, and so is what markers have scanned and hold in hand.
pub record Guard (c : Config) (m : Moment) : Type 0 where
  pub black : BlackIsGuarded c m
  pub markers : (k : ℕ) → is_attending (marker_of m k).presence ≡ true → MarkerStands c m (marker_of m k)

-- The phase is marking, or wanted for closing.
abbrev pub IsMarking : Words → Type 0
IsMarking w = (phase_of w ≡ 1) ⊎ (phase_of w ≡ 2)

-- What a cycle stands on, from its `begin` to its `close`, and from there to its `release`.
pub record MarksStand (c : Config) (m : Moment) : Type 0 where
  pub guarded : IsMarking m.words → Guard c m
  pub closed : phase_of m.words ≡ 3 → CellsAreClosed c m.words
