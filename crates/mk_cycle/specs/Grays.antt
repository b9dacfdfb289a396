-- Gray cells, which are marked and not black; what is noted of those that are still to be scanned.
use Rattle.std.specs.Prelude.{◌≡◌, ◌≢◌, ◌⊎◌, ℕ, ◌+◌, ◌<◌, ◌≤◌, Bool, true, false, ⊤, slice_index, slice_set, bit_or}
use Rattle.std.specs.{Prelude.{bit_and, ◌^◌, Option, Some, ◌++◌, List, option_to_list}, List.{All, Contains}}
use Rattle.mk_geom.specs.declared.addresses.Cell.{Cell}
use Rattle.mk_core.specs.declared.{config.Config.Config, events.Step.Step, seats.Flight.Flight}
use Rattle.mk_core.specs.{declared.seats.Hand.Hand, Words.{has_bit, without, is_some_and, Words, phase_of}}
use Rattle.mk_core.specs.{Words.register_word, Cells.{header_in, head_page, cells_under, cell_bits, first_word}}
use Rattle.mk_core.specs.Cells.{cell_words, is_marked, pointed_cell, points_well, has_no_pointers, words_scanned}
use Rattle.mk_core.specs.{Cycles.{is_unmarked, sweeps}, Frames.OnlyGrow, Moments.Moment}
use Rattle.mk_core.specs.{MarkingConditions.marks_by_hand, declared.events.Word.Word}
use Rattle.mk_words.specs.{States.{PassState, TurnState, now_of}, TurnSteps.IsStopped}
use Rattle.mk_cycle.specs.{Stops.{HolderIsLoaded, IsWanted, hand_of, still_words}, Tracing.{Counted, Traces}}
use Rattle.mk_cycle.specs.{Tracing.{is_marking, is_waiting}, TurnKeeps.is_want, declared.noted.Noted.Noted}
use Rattle.mk_cycle.specs.declared.worklist.Worklist.{Worklist}

-- the cell is black
abbrev pub is_black : Words → Cell → Bool
is_black w cell = has_bit (slice_index w.blacks cell.page) cell.index

-- a marked cell that isn't black
pub record IsGray (pages : ℕ) (w : Words) (cell : Cell) : Type 0 where
  pub page : cell.page < pages
  pub index : cell.index < cells_under (header_in w cell.page)
  pub marked : is_marked w cell ≡ true
  pub not_black : is_black w cell ≡ false

-- a word of a gray cell
pub record IsGrayWord (pages : ℕ) (w : Words) (n : ℕ) : Type 0 where
  pub cell : Cell
  pub gray : IsGray pages w cell
  pub least : first_word w cell ≤ n
  pub below : n < first_word w cell + cell_words w cell

-- The dirty word of the page is 1, or that of a page of the run headed there.
pub record HasDirtyPart (w : Words) (page : ℕ) : Type 0 where
  pub part : ℕ
  pub dirty : slice_index w.dirty part ≡ 1
  pub of : (part ≡ page) ⊎ (head_page w part ≡ page)

-- A mark by the hand, whose value stood in a root or in a cell that was marked: no sweeping mark.
pub record MarksReached (c : Config) (m : Moment) (page value : ℕ) : Type 0 where
  pub by_hand : marks_by_hand c.pages m.words m.seats.holding.hand page value ≡ true
  pub reached : is_some_and (λ (hand : Hand). is_unmarked hand.source) m.seats.holding.hand ≡ false

-- Only words of gray cells are looked at, only what was reached is marked, and only what is dirty is looked at again.
abbrev pub TracesReached : Config → Moment → Step → Type 0
TracesReached c m (Step.Look (Word.Heap n)) = IsGrayWord c.pages m.words n
TracesReached c m (Step.Mark p v) = MarksReached c m p v
TracesReached c m (Step.Unblack p) = HasDirtyPart m.words p
TracesReached c m _ = ⊤

-- The stop goes on, its holder marks by these rules, and all else is as it was.
pub record MarksOn (t u : TurnState) : Type 0 where
  pub table : u.pass.table ≡ t.pass.table
  pub wanted : IsWanted u.pass
  pub traces : Traces is_marking TracesReached t.pass u.pass

-- The stop goes on so, and the words are left.
pub record LooksOn (t u : TurnState) : Type 0 where
  pub on : MarksOn t u
  pub words : still_words u.pass ≡ still_words t.pass

-- The close is wanted, by so many steps, and the holder looks until no marker is in, while the other gates are held.
pub record WaitsForMarkers (t u : TurnState) (wishes : ℕ) : Type 0 where
  pub table : u.pass.table ≡ t.pass.table
  pub ready : HolderIsLoaded u.pass
  pub gates : IsStopped u.pass
  pub phase : phase_of (now_of u.pass).words ≡ 2
  pub traces : Counted is_waiting TracesReached is_want t.pass u.pass wishes

-- The hand is this value, which stood in a root or in a marked cell.
pub record IsInHand (p : PassState) (u : ℕ) : Type 0 where
  pub hand : Hand
  pub is : hand_of p ≡ Some hand
  pub value : hand.value ≡ u
  pub reached : is_unmarked hand.source ≡ false

-- The hand points into the cell.
pub record HandPointsInto (p : PassState) (cell : Cell) : Type 0 where
  pub value : ℕ
  pub in_hand : IsInHand p value
  pub points : pointed_cell p.table.config.pages (still_words p).pages value ≡ Some cell

-- the words, with these bits marked
abbrev pub with_marks : ℕ → ℕ → Words → Words
with_marks p bits w = record w { marks = slice_set w.marks p (bit_or (slice_index w.marks p) bits) }

-- the words, with these bits black
abbrev pub with_blacks : ℕ → ℕ → Words → Words
with_blacks p bits w = record w { blacks = slice_set w.blacks p (bit_or (slice_index w.blacks p) bits) }

-- the words, with no black bit on the page
abbrev pub without_blacks : ℕ → Words → Words
without_blacks p w = record w { blacks = slice_set w.blacks p 0 }

-- the words, with the page no more dirty
abbrev pub without_dirty : ℕ → Words → Words
without_dirty p w = record w { dirty = slice_set w.dirty p 0 }

-- Marks, and no others, are added.
pub record MarksMore (w v : Words) : Type 0 where
  pub is : v ≡ record w { marks = v.marks }
  pub grow : OnlyGrow w.marks v.marks

-- Marks and black bits, and no others, are added.
pub record ColoursMore (w v : Words) : Type 0 where
  pub is : v ≡ record w { marks = v.marks; blacks = v.blacks }
  pub marks : OnlyGrow w.marks v.marks
  pub blacks : OnlyGrow w.blacks v.blacks

-- Marks are added, and one cell is blackened.
pub record BlackensOne (w : Words) (cell : Cell) (v : Words) : Type 0 where
  pub is : v ≡ record (with_blacks cell.page (2 ^ cell.index) w) { marks = v.marks }
  pub grow : OnlyGrow w.marks v.marks

-- The bits of a page that are marked and not black. A bit past its cells may be one of them.
abbrev pub gray_bits : Words → ℕ → ℕ
gray_bits w p = without (slice_index w.marks p) (slice_index w.blacks p)

-- Each marked cell of the page is black.
abbrev pub HasNoGray : Words → ℕ → Type 0
HasNoGray w p = without (bit_and (slice_index w.marks p) (cell_bits w p)) (slice_index w.blacks p) ≡ 0

-- What the caller's registers were points well now.
abbrev pub RegistersAreWell : Config → PassState → PassState → ℕ → Type 0
RegistersAreWell c p q k =
    (r : ℕ) → r < 8 → points_well c.pages (still_words q) (register_word (still_words p) k r) ≡ true

-- What the global was points well now.
abbrev pub GlobalIsWell : Config → PassState → PassState → ℕ → Type 0
GlobalIsWell c p q g = points_well c.pages (still_words q) (slice_index (still_words p).globals g) ≡ true

-- Each register and each global points well.
pub record RootsPointWell (pages : ℕ) (w : Words) : Type 0 where
  pub registers : (i : ℕ) → points_well pages w (slice_index w.registers i) ≡ true
  pub globals : (g : ℕ) → points_well pages w (slice_index w.globals g) ≡ true

-- If the page is dirty, nothing of it is black.
pub record DirtyIsUnscanned (w : Words) (page : ℕ) : Type 0 where
  pub own : slice_index w.dirty page ≢ 0 → slice_index w.blacks page ≡ 0
  pub head : slice_index w.dirty page ≢ 0 → slice_index w.blacks (head_page w page) ≡ 0

-- Black words, and no others, are cleared.
pub record BlacksFewer (w v : Words) : Type 0 where
  pub is : v ≡ record w { blacks = v.blacks }
  pub fewer : (p : ℕ) → slice_index w.blacks p ≡ 0 → slice_index v.blacks p ≡ 0

-- Dirty words, and no others, are cleared.
pub record DirtyFewer (w v : Words) : Type 0 where
  pub is : v ≡ record w { dirty = v.dirty }
  pub fewer : (p : ℕ) → slice_index w.dirty p ≡ 0 → slice_index v.dirty p ≡ 0

-- Black and dirty words, and no others, are cleared.
pub record IsCleaner (w v : Words) : Type 0 where
  pub is : v ≡ record w { blacks = v.blacks; dirty = v.dirty }
  pub fewer : (p : ℕ) → slice_index w.dirty p ≡ 0 → slice_index v.dirty p ≡ 0

-- No cell of the page is marked.
abbrev pub IsUnmarked : Words → ℕ → Type 0
IsUnmarked w p = (k : ℕ) → k < cells_under (header_in w p) → has_bit (slice_index w.marks p) k ≡ false

-- No cell turns gray but for this one, if it was white.
abbrev pub GraysOne : Words → Cell → Bool → Words → Type 0
GraysOne w cell was_white v =
    (pages : ℕ) (one : Cell) → IsGray pages v one → IsGray pages w one ⊎ ((was_white ≡ true) × (one ≡ cell))

-- Such steps make no sweeping mark.
abbrev pub ReachedMarksSweepNothing : Type 0
ReachedMarksSweepNothing =
    (c : Config) (m : Moment) (f : Flight) (s : Step) → TracesReached c m s → sweeps c m f s ≡ false

-- The cell is one of its page's and marked, and so many of its words are scanned.
pub record IsNoted (pages : ℕ) (w : Words) (noted : Noted) : Type 0 where
  pub page : noted.cell.page < pages
  pub index : noted.cell.index < cells_under (header_in w noted.cell.page)
  pub marked : is_marked w noted.cell ≡ true
  pub words : noted.words ≡ words_scanned (header_in w noted.cell.page)

-- What is noted: some cells, and whether each gray cell is one of them.
pub record Notes : Type 0 where
  pub cells : List Noted
  pub is_whole : Bool

-- the notes of a list, and those with a cell in registers, which isn't in the list
abbrev pub listed : Worklist → Notes
listed work = record { cells = work.cells.items; is_whole = work.is_whole }

-- the noted cells, with one that isn't in the list yet
abbrev pub with_last : Worklist → Option Noted → Notes
with_last work last = record { cells = work.cells.items ++ option_to_list last; is_whole = work.is_whole }

-- The list has the cell too, if there is one, or it had no room, and isn't whole any more.
abbrev pub Adds : Worklist → Option Noted → Worklist → Type 0
Adds old last new = (listed new ≡ with_last old last) ⊎ (listed new ≡ record (listed old) { is_whole = false })

-- The cell is one of these.
pub record IsAmong (cells : List Noted) (cell : Cell) : Type 0 where
  pub noted : Noted
  pub among : Contains cells noted
  pub is : noted.cell ≡ cell

-- All cells are noted so, and if the notes are whole, each gray cell is one of them.
pub record AreNoted (pages : ℕ) (w : Words) (notes : Notes) : Type 0 where
  pub each : All (IsNoted pages w) notes.cells
  pub grays : notes.is_whole ≡ true → (cell : Cell) → IsGray pages w cell → IsAmong notes.cells cell

-- The notes were whole, what was noted stays so, and each cell that turned gray is noted.
pub record NotesGrays (pages : ℕ) (w : Words) (had : Notes) (v : Words) (has : Notes) : Type 0 where
  pub whole : had.is_whole ≡ true
  pub kept : (cell : Cell) → IsAmong had.cells cell → IsAmong has.cells cell
  pub new : (cell : Cell) → IsGray pages v cell → IsGray pages w cell ⊎ IsAmong has.cells cell

-- The cell is gray, and so many of its words are scanned.
pub record IsGrayNoted (pages : ℕ) (w : Words) (noted : Noted) : Type 0 where
  pub gray : IsGray pages w noted.cell
  pub words : noted.words ≡ words_scanned (header_in w noted.cell.page)

-- The cell is gray, and its words, this many, are to be scanned.
pub record IsDue (pages : ℕ) (w : Words) (noted : Noted) : Type 0 where
  pub gray : IsGray pages w noted.cell
  pub scanned : has_no_pointers (header_in w noted.cell.page) ≡ false
  pub words : noted.words ≡ cell_words w noted.cell

-- The stop goes on, marks and no others are added, and what turns gray is noted, as far as there is room.
pub record MarksAndNotes (pages : ℕ) (t : TurnState) (had : Notes) (u : TurnState) (has : Notes) : Type 0 where
  pub on : MarksOn t u
  pub more : MarksMore (still_words t.pass) (still_words u.pass)
  pub each : All (IsNoted pages (still_words t.pass)) had.cells → All (IsNoted pages (still_words u.pass)) has.cells
  pub grays : has.is_whole ≡ true → NotesGrays pages (still_words t.pass) had (still_words u.pass) has

-- The words of a cell from one on, up to another, are scanned: what each of them was points well now.
pub record Scans (pages : ℕ) (t : TurnState) (had : Notes) (u : TurnState) (has : Notes) (cell : Cell)
    (from end : ℕ) : Type 0 where
  pub marks : MarksAndNotes pages t had u has
  pub well : (i : ℕ) → from ≤ i → i < end → points_well pages (still_words u.pass)
      (slice_index (still_words t.pass).heap (first_word (still_words t.pass) cell + i)) ≡ true
