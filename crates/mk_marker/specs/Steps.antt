-- A marker's pass on its way through a call: what one step leaves, and what a marker is at.
use Rattle.std.specs.Prelude.{◌≡◌, ℕ, ◌-◌, ◌<◌, ◌≤◌, true, List, [], ◌∷◌, Option, Some, None, slice_index}
use Rattle.mk_core.specs.declared.{events.Step.Step, seats.Presence.TheVariants.Attending}
use Rattle.mk_core.specs.declared.seats.{Scan.Scan, SeenHeader.SeenHeader}
use Rattle.mk_core.specs.{Accesses.{scan_page, scan_bit}, Words.{has_bit, bit_for}, Effects.marker_behind}
use Rattle.mk_core.specs.{Frames.OnlyGrow, History.Finding, declared.seats.Marker.Marker as MarkerState}
use Rattle.mk_words.specs.{States.{WordsState, PassState, IsPass, now_of}, Steps.{marker_in, are_of}}
use Rattle.mk_marker.specs.{declared.cells.MarkedCell.MarkedCell, Markers.{IsMarkers, IsBetweenScans, between_scans}}
use Rattle.mk_marker.specs.Markers.{attends, Did, finding, is_markers_look, is_of_scan, count_loads}
use Rattle.mk_marker.specs.Markers.{Scans, SeesNoWork, SeesACell}

-- The pass is a marker's, of this table.
pub record IsOf (w : WordsState) (p : PassState) : Type 0 where
  pub one_table : p.table ≡ w
  pub marker : IsMarkers p

-- The pass made one step, which found this number. While a marker attends, no mark is taken back.
pub record MovesMarker (p : PassState) (s : Step) (n : ℕ) (q : PassState) : Type 0 where
  pub pass : IsPass q
  pub did : Did p (finding p.seat s n ∷ []) q
  pub marker : marker_in q ≡ marker_behind p.table.config n s (marker_in p)
  pub marks : attends p ≡ true → OnlyGrow (now_of p).words.marks (now_of q).words.marks

-- whatever it found
abbrev pub Moved : PassState → Step → PassState → Type 0
Moved p s q = (n : ℕ) × MovesMarker p s n q

-- The cell is marked after what the pass has seen.
abbrev pub IsMarkedIn : PassState → ℕ → ℕ → Type 0
IsMarkedIn p page index = has_bit (slice_index (now_of p).words.marks page) index ≡ true

-- the words that a marker has still to load of its cell
abbrev pub words_left : MarkerState → ℕ
words_left x = by x.scan
  where
    by : Option Scan → ℕ
    by (Some scan) = scan.end - scan.next
    by None = 0

-- A marker scans a cell, and has this value in its hand, or none.
pub record IsScanning (x : MarkerState) (hand : Option ℕ) : Type 0 where
  pub scan : Scan
  pub seen : Option SeenHeader
  pub is : x ≡ record { presence = Attending; scan = Some scan; hand = hand; seen = seen }
  pub next : scan.next ≤ scan.end

-- It scans this cell.
pub record IsScanOf (x : MarkerState) (page index : ℕ) : Type 0 where
  pub on_page : scan_page x.scan ≡ page
  pub bit : scan_bit x.scan ≡ bit_for index

-- It scans the same cell.
pub record SameScan (x y : MarkerState) : Type 0 where
  pub page : scan_page y.scan ≡ scan_page x.scan
  pub bit : scan_bit y.scan ≡ scan_bit x.scan

-- The pass claimed the cell, and found it marked.
pub record ClaimsMarked (p : PassState) (cell : MarkedCell) (q : PassState) : Type 0 where
  pub found : ℕ
  pub moves : MovesMarker p (Step.Claim cell.page cell.index) found q
  pub marked : has_bit found cell.index ≡ true

-- The pass made these steps of a scan, with this many loads, and is still scanning.
pub record ScansOn (p : PassState) (loads : ℕ) (q : PassState) : Type 0 where
  pub steps : List Finding
  pub did : Did p steps q
  pub of_scan : are_of is_of_scan steps ≡ true
  pub has_loads : count_loads steps ≡ loads

-- It scanned the cell, from its `claim` to its `mblack`.
pub record ScansCell (p : PassState) (cell : MarkedCell) (q : PassState) : Type 0 where
  pub steps : List Finding
  pub did : Did p steps q
  pub scans : Scans p.seat cell.page cell.index cell.header steps

-- It looked at these pages, and saw no work.
pub record LooksInVain (p : PassState) (first end : ℕ) (q : PassState) : Type 0 where
  pub steps : List Finding
  pub did : Did p steps q
  pub looks : are_of is_markers_look steps ≡ true
  pub pages : (page : ℕ) → first ≤ page → page < end → SeesNoWork p.seat page steps
  pub between : IsBetweenScans q

-- It saw a cell that it may claim, which is still marked.
pub record SeesCell (p : PassState) (cell : MarkedCell) (q : PassState) : Type 0 where
  pub steps : List Finding
  pub did : Did p steps q
  pub sees : SeesACell p.seat cell.page cell.index cell.header steps
  pub marker : marker_in q ≡ between_scans (Some (record { page = cell.page; header = cell.header }))
  pub marked : IsMarkedIn q cell.page cell.index
