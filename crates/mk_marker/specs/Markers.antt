-- A marker's call: what contracts see of its pass, what it did, and why `attend` and `work` answer so.
use Rattle.std.specs.Prelude.{◌≡◌, ℕ, Bool, true, false, List, ◌++◌, count_by, ◌⊎◌, ◌<◌, None, Option, [], ◌∷◌, ◌≢◌}
use Rattle.std.specs.Prelude.{◌%◌, slice_index}
use Rattle.mk_geom.specs.Addresses.{header_of}
use Rattle.mk_core.specs.declared.events.{Seat.Seat, Word.Word, Step.Step}
use Rattle.mk_core.specs.{declared.events.{Event.Event, Seat.TheVariants.Marker}, History.Finding}
use Rattle.mk_core.specs.declared.seats.{Presence.TheVariants.Attending, SeenHeader.SeenHeader}
use Rattle.mk_core.specs.{MarkingConditions.{is_attending, is_out}, declared.seats.Marker.Marker as MarkerState}
use Rattle.mk_core.specs.{Words.{has_bit, phase_number, without}, Cells.{words_scanned, cells_under}}
use Rattle.mk_core.specs.declared.phases.Phase.{Phase}
use Rattle.mk_words.specs.{States.{PassState, WordsState, now_of}, Steps.{AreOwnOrOfOthers, done_in, marker_in, are_of}}
use Rattle.mk_marker.specs.declared.markers.Work.{Work, TheVariants.{Worked, Idle, Wanted}}

-- a step of a seat that found this number
abbrev pub finding : Seat → Step → ℕ → Finding
finding s x n = record { event = record { seat = s; step = x }; found = n }

-- a look that found this word
abbrev pub looking : Seat → Word → ℕ → Finding
looking s x n = finding s (Step.Mlook x) n

-- From what one pass had seen to what it has seen now, these are the steps of its seat.
pub record Did (p : PassState) (xs : List Finding) (q : PassState) : Type 0 where
  pub more : List Event
  pub is : q ≡ record p { seen = p.seen ++ more }
  pub own_or_others : AreOwnOrOfOthers p.seat p.seats more
  pub done : done_in p more ≡ xs

-- it is an `mlook`
abbrev pub is_markers_look : Step → Bool
is_markers_look (Step.Mlook x) = true
is_markers_look _ = false

-- it is an `mload`
abbrev pub is_markers_load : Step → Bool
is_markers_load Step.Mload = true
is_markers_load _ = false

-- the steps of a scan between its `claim` and its `mblack`
abbrev pub is_of_scan : Step → Bool
is_of_scan (Step.Mlook (Word.Head p)) = true
is_of_scan Step.Mload = true
is_of_scan Step.Mmark = true
is_of_scan _ = false

-- how many of these are loads
abbrev pub count_loads : List Finding → ℕ
count_loads xs = count_by (λ (x : Finding). is_markers_load x.event.step) xs

-- the marker attends
abbrev pub attends : PassState → Bool
attends p = is_attending (marker_in p).presence

-- It neither attends nor visits.
abbrev pub IsOut : PassState → Type 0
IsOut p = is_out (marker_in p).presence ≡ true

-- The pass is that of one of the eight markers.
pub record IsMarkers (p : PassState) : Type 0 where
  pub number : ℕ
  pub exists : number < 8
  pub seat : p.seat ≡ Marker number

-- It attends, and scans nothing.
abbrev pub between_scans : Option SeenHeader → MarkerState
between_scans seen = record { presence = Attending; scan = None; hand = None; seen = seen }

-- It scans nothing and has nothing in hand.
abbrev pub IsBetweenScans : PassState → Type 0
IsBetweenScans p = (seen : Option SeenHeader) × (marker_in p ≡ between_scans seen)

-- what always holds of a marker between two calls
pub record IsAtRest (w : WordsState) (p : PassState) (page : ℕ) : Type 0 where
  pub one_table : p.table ≡ w
  pub marker : IsMarkers p
  pub rests : IsOut p ⊎ IsBetweenScans p
  pub on_a_page : page < w.config.pages

-- The scan of a cell: it is claimed, each of its words is loaded and what that points into is marked, and it is made
-- black.

-- These steps are the scan of a cell that was seen under the header: its `claim`, which finds it marked, a load of each
-- of its words with the looks and marks that these lead to, and its `mblack`.
pub record Scans (s : Seat) (page index header : ℕ) (xs : List Finding) : Type 0 where
  pub marks : ℕ
  pub blacks : ℕ
  pub words : List Finding
  pub is : xs ≡ finding s (Step.Claim page index) marks ∷ (words ++ finding s Step.Mblack blacks ∷ [])
  pub marked : has_bit marks index ≡ true
  pub of_scan : are_of is_of_scan words ≡ true
  pub loads : count_loads words ≡ words_scanned (header_of header)

-- `attend` found the phase marking.
pub record ComesIn (p q : PassState) : Type 0 where
  pub found : ℕ
  pub did : Did p (finding p.seat Step.Attend found ∷ []) q
  pub marking : found % 8 ≡ 1
  pub attends : attends q ≡ true

-- `attend` found this phase, which isn't marking, and the marker is out again.
pub record FindsPhase (p : PassState) (phase : Phase) (q : PassState) : Type 0 where
  pub found : ℕ
  pub left : ℕ
  pub did : Did p (finding p.seat Step.Attend found ∷ finding p.seat Step.Quit left ∷ []) q
  pub low_bits : phase_number phase ≡ found % 8
  pub other : phase_number phase ≢ 1
  pub out : IsOut q

-- Loads of a page's mark and black word show no cell that is marked and not black; or a load of its header after them
-- shows that the page has no cell.
pub record SeesNoWork (s : Seat) (page : ℕ) (xs : List Finding) : Type 0 where
  pub before : List Finding
  pub behind : List Finding
  pub marks : ℕ
  pub blacks : ℕ
  pub is : xs ≡ before ++ looking s (Word.Mark page) marks ∷ looking s (Word.Black page) blacks ∷ behind
  pub no_work : (without marks blacks ≡ 0) ⊎ ((rest : List Finding) × (behind ≡ looking s (Word.Head page) 0 ∷ rest))

-- The call found the phase not wanted, looked at every page, and saw no work.
pub record FindsNoWork (p q : PassState) : Type 0 where
  pub phase : ℕ
  pub steps : List Finding
  pub did : Did p (looking p.seat Word.Phase phase ∷ steps) q
  pub not_wanted : phase % 8 ≢ 2
  pub looks : are_of is_markers_look steps ≡ true
  pub pages : (page : ℕ) → page < p.table.config.pages → SeesNoWork p.seat page steps

-- These steps look at pages, and at the end see a cell that is marked and not black.
pub record SeesACell (s : Seat) (page index header : ℕ) (xs : List Finding) : Type 0 where
  pub looks : List Finding
  pub marks : ℕ
  pub blacks : ℕ
  pub is : xs ≡ looks ++ looking s (Word.Mark page) marks ∷ looking s (Word.Black page) blacks ∷ looking s
      (Word.Head page) header ∷ []
  pub are_looks : are_of is_markers_look looks ≡ true
  pub marked : has_bit marks index ≡ true
  pub not_black : has_bit blacks index ≡ false
  pub cell : index < cells_under (header_of header)

-- The cell is black after what the pass has seen.
abbrev pub IsBlackIn : PassState → ℕ → ℕ → Type 0
IsBlackIn p page index = has_bit (slice_index (now_of p).words.blacks page) index ≡ true

-- The call found the phase not wanted, saw a cell that is marked and not black, and scanned it; it is black then.
pub record ScansACell (p q : PassState) : Type 0 where
  pub phase : ℕ
  pub page : ℕ
  pub index : ℕ
  pub header : ℕ
  pub search : List Finding
  pub scan : List Finding
  pub did : Did p (looking p.seat Word.Phase phase ∷ search ++ scan) q
  pub not_wanted : phase % 8 ≢ 2
  pub sees : SeesACell p.seat page index header search
  pub scans : Scans p.seat page index header scan
  pub black : IsBlackIn q page index

-- The call's one step found the phase wanted for closing.
pub record FindsWanted (p q : PassState) : Type 0 where
  pub phase : ℕ
  pub did : Did p (looking p.seat Word.Phase phase ∷ []) q
  pub wanted : phase % 8 ≡ 2

-- Each answer of `work` has its cause.
abbrev pub WorksSo : Work → PassState → PassState → Type 0
WorksSo Worked p q = ScansACell p q
WorksSo Idle p q = FindsNoWork p q
WorksSo Wanted p q = FindsWanted p q

-- The marker went out.
pub record GoesOut (p q : PassState) : Type 0 where
  pub left : ℕ
  pub did : Did p (finding p.seat Step.Quit left ∷ []) q
  pub out : IsOut q
