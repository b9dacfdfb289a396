-- A page without a header gets no marks, but by a `mark` of the turn's holder, which comes before its header.
use Rattle.mk_laws.proofs.Vocabulary.{Block, Bool, Caller, Cell, Config, Event, Free, Header, Host, IsHistory}
use Rattle.mk_laws.proofs.Vocabulary.{IsMarking, Later, LeafBlock, LeafRun, List, Marker, MarkerStands, MarkerState}
use Rattle.mk_laws.proofs.Vocabulary.{Moment, None, Option, Run, RunPages, Scan, Seat, SeenHeader, Some, Step, Words, ℕ}
use Rattle.mk_laws.proofs.Vocabulary.{and_parts, ap, arith, cases_eq, cases_lt, cell_at, cell_seen}
use Rattle.mk_laws.proofs.Vocabulary.{earlier_part_is_history, enabled_meets, eqb-true, false, first_world}
use Rattle.mk_laws.proofs.Vocabulary.{get_or-set_other, get_or-set_same, header_at, header_in, header_of, inl, inr}
use Rattle.mk_laws.proofs.Vocabulary.{is_attending, is_none, is_scanned, is_some, left, length, ltb-true, marker_at}
use Rattle.mk_laws.proofs.Vocabulary.{marker_of, not, page_at_address, phase_of, refl, run_headed, scan_page, seen_page}
use Rattle.mk_laws.proofs.Vocabulary.{set_past, slice_index, slice_set, subst, suc, sym, true, zero, [], ◌&&◌, ◌++◌}
use Rattle.mk_laws.proofs.{Vocabulary.{◌-◌, ◌∙◌, ◌∷◌, ◌≡◌, ◌≢◌}, Actors.{Actor, AsHolder, AsMarker, CallTakes}}
use Rattle.mk_laws.proofs.{Actors.{HostTakes, InCallOf, Meets}, Changes.{reg_table, tally_table}}
use Rattle.mk_laws.proofs.{InvariantHistories.histories_keep_the_invariant, IdleMarkers.work_attends}
use Rattle.mk_laws.proofs.{Known.{Known, known_left}, OrderlyLists.actor_of, ReadingsStands.headers_and_quarantine_tell}
use Rattle.mk_laws.proofs.{SameWords.Behind, Views.{HoldsTurn, view_of}}
use Rattle.mk_geom.specs.Addresses.{cell_under, word_at_address}
use Rattle.mk_core.proofs.{Histories.last_enabled, PointedPages.{found_under, lies_under}}
use Rattle.mk_core.specs.{MarkingConditions.{blackens, may_black, may_turn_black}, Words.all_below, Cells.pointed_cell}
use Rattle.mk_core.specs.Readings.{WordsTellWhatStands}
use Rattle.mk_words.specs.PageMaps.{HasNoMarks}

-- a `mark` of the turn's holder
abbrev pub is_mark : Step → Bool
is_mark (Step.Mark p v) = true
is_mark _ = false

-- the page on which a step marks or blackens cells
abbrev pub page_coloured : Config → Moment → Seat → Step → Option ℕ
page_coloured c m seat (Step.Mark p v) = Some p
page_coloured c m seat (Step.Black p v) = Some p
page_coloured c m seat Step.Mmark = Some (seen_page (cell_seen c (marker_at m seat).seen (marker_at m seat).hand))
page_coloured c m seat Step.Mblack = Some (scan_page (marker_at m seat).scan)
page_coloured c m seat _ = None

-- All other pages stay unmarked.

cleared : (ws : List ℕ) (p q : ℕ) → slice_index ws q ≡ 0 → slice_index (slice_set ws p 0) q ≡ 0
cleared ws p q z = elim (cases_eq q p) [
  | inr ne ↦ get_or-set_other ws p q 0 0 ne ∙ z
  | inl e ↦ elim (cases_lt p (length ws)) [
    | inl lt ↦ ap (λ i. slice_index (slice_set ws p 0) i) e ∙ get_or-set_same ws p 0 0 lt
    | inr past ↦ ap (λ (ys : List ℕ). slice_index ys q) (set_past ws p 0 past) ∙ z
  ]
]

elsewhere : (ws : List ℕ) (p q v : ℕ) → q ≢ p → slice_index ws q ≡ 0 → slice_index (slice_set ws p v) q ≡ 0
elsewhere ws p q v ne z = get_or-set_other ws p q v 0 ne ∙ z

pub stays_unmarked : (c : Config) (m : Moment) (seat : Seat) (s : Step) (q : ℕ) → ((p : ℕ)
    → page_coloured c m seat s ≡ Some p → q ≢ p) → HasNoMarks m.words q → HasNoMarks (Behind c m seat s).words q
stays_unmarked c m seat (Step.Mark p v) q other h =
    record { unmarked = elsewhere m.words.marks p q _ (other p refl) h.unmarked; unscanned = h.unscanned }
stays_unmarked c m seat (Step.Black p v) q other h =
    record { unmarked = h.unmarked; unscanned = elsewhere m.words.blacks p q _ (other p refl) h.unscanned }
stays_unmarked c m seat Step.Mmark q other h =
    record { unmarked = elsewhere m.words.marks _ q _ (other _ refl) h.unmarked; unscanned = h.unscanned }
stays_unmarked c m seat Step.Mblack q other h =
    record { unmarked = h.unmarked; unscanned = elsewhere m.words.blacks _ q _ (other _ refl) h.unscanned }
stays_unmarked c m seat (Step.Clear p) q other h = grind (arith, cleared)
stays_unmarked c m seat (Step.Unblack p) q other h = grind (arith, cleared)
stays_unmarked c m seat Step.Reg q other h = grind (arith, reg_table)
stays_unmarked c m seat (Step.Tally n v) q other h = grind (arith, tally_table)
stays_unmarked c m seat _ q other h = record { unmarked = h.unmarked; unscanned = h.unscanned }

-- A page on which cells are marked or blackened has a header.

-- what the holder blackens
black_none : (c : Config) (w : Words) (p v k : ℕ) → header_at w p ≡ 0 → not (blackens c.pages w p v k) ≡ true
unfolding may_turn_black
black_none c w p v k bare = grind (arith, and_parts, ltb-true)

none_below : (n : ℕ) (test : ℕ → Bool) → ((k : ℕ) → test k ≡ true) → all_below n test ≡ true
unfolding all_below
none_below zero test all = refl
none_below (suc n) test all = ap (λ b. b && test n) (none_below n test all) ∙ all n

black_has_header : (c : Config) (m : Moment) (p v : ℕ) → may_black c m p v ≡ true → header_at m.words p ≢ 0
black_has_header c m p v may bare = grind (arith, and_parts, none_below, black_none)

-- the page of the cell that a header shows
free_there : (w : Words) (page : ℕ) (cell : Cell) (h : Header) → header_in w page ≡ Some h → cell.page ≡ page
    → header_at w cell.page ≡ 0 → Some Free ≡ Some h
free_there w page cell h shown same bare = grind arith

cell_has_header : (w : Words) (page word : ℕ) (cell : Cell) (h : Header)
    → ((distance : ℕ) (mapped : Bool) → header_in w page ≡ Some (Later distance mapped)
    → (run : RunPages) × (run_headed (header_in w (page - distance)) (page - distance) ≡ Some run))
    → header_in w page ≡ Some h → cell_under h page word ≡ Some cell → header_at w cell.page ≢ 0
cell_has_header w page word cell Free later shown is bare = cc
cell_has_header w page word cell (Later distance mapped) later shown is bare =
    let lies = lies_under (Later distance mapped) page word cell is in
    let run = later distance mapped shown in
    let free : header_in w (page - distance) ≡ Some Free =
    ap (λ q. header_in w q) (sym lies.head) ∙ ap (λ n. header_of n) bare in
    let none : None ≡ Some run.0 = ap (λ o. run_headed o (page - distance)) (sym free) ∙ run.1 in
    cc
cell_has_header w page word cell (Block class) later shown is bare =
    let e : Some Free ≡ Some (Block class) =
    free_there w page cell (Block class) shown (lies_under (Block class) page word cell is).head bare in
    cc
cell_has_header w page word cell (LeafBlock class) later shown is bare =
    let e : Some Free ≡ Some (LeafBlock class) =
    free_there w page cell (LeafBlock class) shown (lies_under (LeafBlock class) page word cell is).head bare in
    cc
cell_has_header w page word cell (Run pages mapped) later shown is bare = cc
cell_has_header w page word cell (LeafRun pages) later shown is bare = cc

seen_where : (c : Config) (seen : Option SeenHeader) (hand : Option ℕ) → is_some (cell_seen c seen hand) ≡ true
    → (s : SeenHeader) × (v : ℕ) × (cell : Cell) × (seen ≡ Some s) × (s.page ≡ page_at_address v)
    × (cell_at c.pages s.header v ≡ Some cell) × (cell_seen c seen hand ≡ Some cell)
seen_where c x1 hand is = grind (arith, eqb-true)

module _ (c : Config) (es : List Event) (h : IsHistory c es) where
  abbrev pub m : Moment
  m = (left c es).now

  known : Known c m
  known = known_left c es h.within_limits h.enabled

  -- A marker that attends stands on what it has seen.
  stands : (k : ℕ) → is_attending (marker_of m k).presence ≡ true → IsMarking m.words × MarkerStands c m (marker_of m k)
  stands k attends =
      let marking : IsMarking m.words = known.orderly.attends k attends in
      (marking, ((histories_keep_the_invariant c es h).marks.guarded marking).markers k attends)

  not_releasing : IsMarking m.words → phase_of m.words ≢ 4
  not_releasing (inl one) four = absurd (omega arith)
  not_releasing (inr two) four = absurd (omega arith)

  -- The cell that a header word shows at a value has one too.
  shown_has_header : (page value : ℕ) (cell : Cell) → phase_of m.words ≢ 4 → page ≡ page_at_address value
      → cell_at c.pages (header_at m.words page) value ≡ Some cell → header_at m.words cell.page ≢ 0
  shown_has_header page value cell quiet at shown =
      let under = found_under c.pages (header_at m.words page) value cell shown in
      let tell : WordsTellWhatStands (left c es) = headers_and_quarantine_tell c es h in
      cell_has_header m.words page (word_at_address value) cell under.0
      (λ distance mapped later. (let run = tell.later quiet page distance mapped later in (run.0, run.1))) under.1
      (subst (λ (q : ℕ). cell_under under.0 q (word_at_address value) ≡ Some cell) (sym at) under.2)

  mark_has_header : (k : ℕ) → Meets c m (Marker k) Step.Mmark
      → header_at m.words (seen_page (cell_seen c (marker_of m k).seen (marker_of m k).hand)) ≢ 0
  mark_has_header k meets =
      let x : MarkerState = marker_of m k in
      let st = stands k (work_attends c x Step.Mmark (known.orderly.idle k) meets.marker refl) in
      let at = seen_where c x.seen x.hand meets.marker in
      let s : SeenHeader = at.0 in
      let v : ℕ = at.1 in
      let cell : Cell = at.2 in
      subst (λ (o : Option Cell). header_at m.words (seen_page o) ≢ 0) (sym at.6)
      (shown_has_header s.page v cell (not_releasing st.0) at.4 ((st.1.seen s at.3).cell v cell at.5))

  -- So does the cell into which a value points.
  pub pointed_has_header : (value : ℕ) (cell : Cell) → phase_of m.words ≢ 4
      → pointed_cell c.pages m.words.pages value ≡ Some cell → header_at m.words cell.page ≢ 0
  unfolding pointed_cell
  pointed_has_header value cell quiet points = grind (arith, shown_has_header)

  scan_has_header : (x : MarkerState) (s : Option Scan) → x.scan ≡ s → is_scanned s ≡ true → MarkerStands c m x
      → header_at m.words (scan_page s) ≢ 0
  scan_has_header x (Some s) is scanned st bare = grind arith
  scan_has_header x None is scanned st bare = cc

  pub coloured_has_header : (seat : Seat) (s : Step) (p : ℕ) → Meets c m seat s → is_mark s ≡ false
      → page_coloured c m seat s ≡ Some p → header_at m.words p ≢ 0
  coloured_has_header seat (Step.Mark q v) p meets unmarks is = cc
  coloured_has_header seat (Step.Black q v) p meets unmarks is = grind (arith, black_has_header)
  coloured_has_header (Marker k) Step.Mmark p meets unmarks is = grind (arith, mark_has_header)
  coloured_has_header (Marker k) Step.Mblack p meets unmarks is =
      let x : MarkerState = marker_of m k in
      let e : scan_page x.scan ≡ p = cc in
      let st = stands k (work_attends c x Step.Mblack (known.orderly.idle k) meets.marker refl) in
      subst (λ r. header_at m.words r ≢ 0) e
      (scan_has_header x x.scan refl (and_parts (is_scanned x.scan) (is_none x.hand) meets.marker).0 st.1)
  coloured_has_header (Caller k) Step.Mmark p meets unmarks is = let kind = meets.kind in cc
  coloured_has_header Host Step.Mmark p meets unmarks is = let kind = meets.kind in cc
  coloured_has_header (Caller k) Step.Mblack p meets unmarks is = let kind = meets.kind in cc
  coloured_has_header Host Step.Mblack p meets unmarks is = let kind = meets.kind in cc
  coloured_has_header seat _ p meets unmarks is = cc

pub others_unmark : (c : Config) (m : Moment) (seat : Seat) (s : Step) → Known c m → Meets c m seat s
    → (HoldsTurn c (view_of m) seat → ⊥) → is_mark s ≡ false
others_unmark c m seat s known meets out = by seat s (actor_of c m seat s known.orderly meets) out
  where
    by : (seat : Seat) (s : Step) → Actor c m seat s → (HoldsTurn c (view_of m) seat → ⊥) → is_mark s ≡ false
    by seat s (InCallOf k _ lt g) out = grind arith
    by seat s (AsMarker k _ lt g) out = grind arith
    by seat s (CallTakes k o lt idle is) out = refl
    by seat s (HostTakes free) out = refl
    by seat s (AsHolder _ _ t n) out = absurd (out t)

-- A page without a header stays unmarked over an event of a history that is no `mark`.
pub stays_bare : (c : Config) (es : List Event) (e : Event) → IsHistory c (es ++ e ∷ []) → is_mark e.step ≡ false
    → (q : ℕ) → header_at (left c es).now.words q ≡ 0 → HasNoMarks (left c es).now.words q
    → HasNoMarks (Behind c (left c es).now e.seat e.step).words q
stays_bare c es e h unmarks q bare none =
    let before = earlier_part_is_history c es (e ∷ []) h in
    let meets = enabled_meets c (left c es).now e (last_enabled c (first_world c) es e h.enabled) in
    stays_unmarked c (left c es).now _ _ q (λ p is same. coloured_has_header c es before e.seat e.step p meets unmarks
    is (ap (λ r. header_at (left c es).now.words r) (sym same) ∙ bare)) none
