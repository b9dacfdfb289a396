-- What stands while a cycle marks and stops, stands after each event, and after every enabled list.
use Rattle.mk_laws.proofs.Vocabulary.{AreOfPages, BlackIsGuarded, Bool, Caller, Cell, CellsAreClosed, Config}
use Rattle.mk_laws.proofs.Vocabulary.{DirtyIsOwed, GuardPremises, GuardPremisesFrom, HasItsHeaders, HeaderGoesOn, Host}
use Rattle.mk_laws.proofs.Vocabulary.{IsGuarded, IsMarking, IsWithinLimits, IsWordOf, Marker, MarkerStands, MarkerState}
use Rattle.mk_laws.proofs.Vocabulary.{MarksAreClosed, Moment, None, Option, PageIsDirty, PlacedAllocation, PointsWell}
use Rattle.mk_laws.proofs.Vocabulary.{Scan, Seat, SeenHeader, Some, Step, Word, Words, World, ℕ, all_below}
use Rattle.mk_laws.proofs.Vocabulary.{all_below-at, and_parts, arith, behind_mlook, bit_or, cases_Bool, cases_eq}
use Rattle.mk_laws.proofs.Vocabulary.{cases_lt, cell_at, cell_seen, cell_words, cells_begin, cells_under, enabled_meets}
use Rattle.mk_laws.proofs.Vocabulary.{eq-eqb, eqb-true, false, first_moment, first_page_shows, first_word, found}
use Rattle.mk_laws.proofs.Vocabulary.{get_or-set_other, get_or_past, has_bit, has_clean_page, has_no_pointers}
use Rattle.mk_laws.proofs.Vocabulary.{head_page, header_at, header_in, header_made, histories_keep_lengths}
use Rattle.mk_laws.proofs.Vocabulary.{if◌then◌else◌, inl, inr, is_attending, is_mapped, is_none, is_scanned, is_some}
use Rattle.mk_laws.proofs.Vocabulary.{left, made_is_mapped, marker_behind, marker_of, may_turn_black, no_bit}
use Rattle.mk_laws.proofs.Vocabulary.{none_attends, not, not-true, object_placed, or_cases, page_at_address, pages_some}
use Rattle.mk_laws.proofs.Vocabulary.{part_has_no_pointers, phase_of, placed_at, refl, scan_page, slice_index}
use Rattle.mk_laws.proofs.Vocabulary.{slice_set, storage_of, subst, suc, sym, true, true≢false, typed_size}
use Rattle.mk_laws.proofs.Vocabulary.{word_points_well, words_under, zero, ◌&&◌, ◌*◌, ◌+◌, ◌-◌, ◌/◌, ◌<◌, ◌==◌, ◌^◌}
use Rattle.mk_laws.proofs.{Vocabulary.{◌∙◌, ◌≡◌, ◌≢◌, ◌≤◌, ◌⊎◌}, Basics.{Behind, Keeps, Known, Meets, either_phase}}
use Rattle.mk_laws.proofs.Basics.{headers_kind, is_head, known_left, marker_set, over_phase, wells_from}
use Rattle.mk_laws.proofs.Changes.{blacks_kind, dirty_kind, heap_kind, is_undirty, marks_kind, owed_kind}
use Rattle.mk_laws.proofs.FoundHeaders.{HeadKeeps, head_finds, head_keeps, no_new_cells}
use Rattle.mk_laws.proofs.GuardStopped.{closed, leaves_closed, stays_closed}
use Rattle.mk_laws.proofs.KeptGuard.{NewCellsAreGuarded, black_kept, goes_equal, marker_kept}
use Rattle.mk_laws.proofs.Scans.{claim_stands, idle_stands, load_stands, look_stands, mark_stands, scanned_guarded}
use Rattle.mk_laws.proofs.{Scans.{seen_well, unscanning_stands, unseen_stands}, Actors.none_at}
use Rattle.mk_laws.proofs.{CoveredWords.covered_word, IdleMarkers.work_attends, Known.along_enabled}
use Rattle.mk_laws.proofs.{Phases.{is_phase_step, phase_stays}, Wells.{IsWell, bare_guarded}}
use Rattle.mk_geom.specs.Storages.{cell_of_storage}
use Rattle.mk_core.proofs.{PointedAllocations.marked_where_its_cell_is, WordBits.{bit_for_has, bit_of_cell}}
use Rattle.mk_core.proofs.{WordBits.{bit_of_power, bits_added, more_bits}, PointedPages.cell_within}
use Rattle.mk_core.{proofs.StandingAllocations.cell_is_known, specs.declared.seats.Presence.TheVariants.Out}
use Rattle.mk_core.specs.{Accesses.scan_bit, Cells.words_point_well, Cycles.is_marked_allocation}
use Rattle.mk_core.specs.MarkingConditions.{is_markers_word, blackens}
use Rattle.mk_laws.proofs.Kept.{CloseFindsMarksClosed, GuardPremisesAtFirst, MarkingGuards}
use Rattle.mk_laws.proofs.{Kept.{MarksStandBehindLists, StandsMapped, StoppedMarksAreClosed}, Guard.Guard}
use Rattle.mk_laws.proofs.Guard.{MarksStand}

-- What the markers are in the middle of stands after an event that keeps what is guarded.

pub nothing_is : {A : Type 0} (x : Option A) → is_none x ≡ true → x ≡ None
nothing_is None h = refl
nothing_is (Some y) h = cc

-- the cell that an `mmark` marks: the value of the hand, and the header that the cell was seen under
pub record Seen (c : Config) (x : MarkerState) : Type 0 where
  pub value : ℕ
  pub cell : Cell
  pub under : SeenHeader
  pub hand : x.hand ≡ Some value
  pub seen : x.seen ≡ Some under
  pub near : (under.page == page_at_address value) ≡ true
  pub at : cell_at c.pages under.header value ≡ Some cell
  pub is : cell_seen c x.seen x.hand ≡ Some cell

pub seen_cell : (c : Config) (x : MarkerState) → is_some (cell_seen c x.seen x.hand) ≡ true → Seen c x
seen_cell c x own = by x.seen x.hand refl refl own
  where
    by : (seen : Option SeenHeader) (hand : Option ℕ) → x.seen ≡ seen → x.hand ≡ hand
        → is_some (cell_seen c seen hand) ≡ true → Seen c x
    by (Some q) (Some value) es eh own = here (q.page == page_at_address value) refl _ refl own
      where
        here : (b : Bool) → (q.page == page_at_address value) ≡ b → (y : Option Cell)
            → cell_at c.pages q.header value ≡ y → is_some (if b then y else None) ≡ true → Seen c x
        here true e (Some y) is own =
            let there : cell_seen c (Some q) (Some value) ≡ Some y = rw (e, is) in
            let seen : cell_seen c x.seen x.hand ≡ Some y = rw es (rw eh there) in
            record { value = value; cell = y; under = q; hand = eh; seen = es; near = e; at = is; is = seen }
        here _ e _ is own = cc
    by _ _ es eh own = cc

looks : {c : Config} {m : Moment} (x : Word) {y : MarkerState} (f : ℕ) → ((p : ℕ) → x ≡ Word.Head p
    → f ≡ header_at m.words p) → MarkerStands c m y → MarkerStands c m (behind_mlook c f x y)
looks {c} {m} (Word.Head p) {y = y} f is h = rw (is p refl) (look_stands c m p y h)
looks {c} {m} _ {y = y} f is h = unseen_stands h

-- a marker's own step
own_marker : (c : Config) (m : Moment) (k : ℕ) (x : Step) → AreOfPages c.pages m.words → Meets c m (Marker k) x
    → Keeps c m (Behind c m (Marker k) x)
    → (is_attending (marker_of m k).presence ≡ true → MarkerStands c m (marker_of m k)) → is_attending (marker_behind c
    (found c m (record { seat = Marker k; step = x })) x (marker_of m k)).presence ≡ true → MarkerStands c
    (Behind c m (Marker k) x) (marker_behind c (found c m (record { seat = Marker k; step = x })) x (marker_of m k))
own_marker c m k Step.Attend len h keeps before at = idle_stands c _ _
own_marker c m k Step.Quit len h keeps before at = idle_stands c _ Out
own_marker c m k (Step.Mlook x) len h keeps before at =
    marker_kept keeps (looks x (found c m (record { seat = Marker k; step = Step.Mlook x }))
    (λ p e. rw e) (before ((and_parts _ (is_markers_word x) h.marker).0)))
own_marker c m k (Step.Claim p i) len h keeps before at =
    marker_kept keeps (claim_stands p i (and_parts _ _ h.marker).1 (before at))
own_marker c m k Step.Mload len h keeps before at =
    marker_kept keeps (load_stands _ (and_parts _ _ h.marker).0
    (nothing_is (marker_of m k).hand (and_parts _ _ h.marker).1) (λ y e. sym (rw e)) (before at))
own_marker c m k Step.Mmark len h keeps before at =
    let s = seen_cell c (marker_of m k) h.marker in
    let within = cell_within c.pages s.under.header s.value s.cell s.at in
    let n = Behind c m (Marker k) Step.Mmark in
    let there : MarkerStands c n (marker_of m k) = marker_kept keeps (before at) in
    mark_stands s.value s.hand (seen_well s.cell s.value s.hand s.is there
    (rw s.is (bits_added m.words.marks s.cell.page _ s.cell.index
    (let lt = within.0 in omega (arith, len.marks, lt)) (bit_for_has s.cell.index within.1)))) there
own_marker c m k Step.Mblack len h keeps before at = marker_kept keeps (unscanning_stands (before at))
own_marker c m k _ len h keeps before at = let kind = h.kind in cc

-- all markers
pub markers_stand : (c : Config) (m : Moment) (seat : Seat) (x : Step) → AreOfPages c.pages m.words → Meets c m seat x
    → Keeps c m (Behind c m seat x) → ((k : ℕ) → is_attending (marker_of m k).presence ≡ true
    → MarkerStands c m (marker_of m k)) → (k : ℕ) → is_attending (marker_of (Behind c m seat x) k).presence ≡ true
    → MarkerStands c (Behind c m seat x) (marker_of (Behind c m seat x) k)
markers_stand c m (Caller k) x len h keeps before j at = marker_kept keeps (before j at)
markers_stand c m Host x len h keeps before j at = marker_kept keeps (before j at)
markers_stand c m (Marker k) x len h keeps before j at = marker_set m.seats.markers k j
    (marker_behind c (found c m (record { seat = Marker k; step = x })) x (marker_of m k))
    (λ (y : MarkerState). is_attending y.presence ≡ true → MarkerStands c (Behind c m (Marker k) x) y)
    (λ lt own. own_marker c m k x len h keeps (before k) own) (λ other. marker_kept keeps (before j other)) at

-- The words of black cells stay guarded: cells that turn black, and pages that are made clean.

-- bits are added to the black word of one page, each of a cell whose words are guarded
blackened : {c : Config} {m n : Moment} (q bits : ℕ) → Keeps c m n → NewCellsAreGuarded c m n
    → n.words.blacks ≡ slice_set m.words.blacks q (bit_or (slice_index m.words.blacks q) bits)
    → ((k : ℕ) → has_bit bits k ≡ true → (i : ℕ) → k < cells_under (header_in m.words q)
    → has_no_pointers (header_in m.words q) ≡ false → i < words_under (header_in m.words q)
    → IsGuarded c m (64 * q + k * words_under (header_in m.words q) + i)) → BlackIsGuarded c m → BlackIsGuarded c n
blackened {c} {m} {n} q bits keeps new are guarded black =
    black_kept keeps new (λ p k is. elim (more_bits m.words.blacks q bits p k (rw are at is)) [
      | inl old ↦ inl old
      | inr at ↦ inr (λ i lt sc li. rw at.0 (guarded k at.1 i (rw at.0 at lt) (rw at.0 at sc) (rw at.0 at li)))
    ]) black

pub left_fails : (a b : Bool) → (a && not b) ≡ false → b ≡ false → a ≡ false
left_fails true true h none = cc
left_fails _ _ h none = cc

-- `black`: the cell whose bit is added

record Blackened (w : Words) (pages p value : ℕ) : Type 0 where
  bit : ℕ
  is : blackens pages w p value bit ≡ true

turned : (w : Words) (pages p value n : ℕ) → all_below n (λ k. not (blackens pages w p value k)) ≡ false
    → Blackened w pages p value
unfolding all_below
turned w pages p value zero h = cc
turned w pages p value (suc n) h = elim (cases_Bool (blackens pages w p value n)) [
  | inl e ↦ record { bit = n; is = e }
  | inr e ↦ turned w pages p value n (left_fails _ _ h e)
]

turned_words : (pages : ℕ) (w : Words) (p k : ℕ) → may_turn_black pages w (record { page = p; index = k }) ≡ true
    → has_no_pointers (header_in w p) ≡ false → words_point_well pages w (record { page = p; index = k }) ≡ true
unfolding may_turn_black
turned_words pages w p k h sc = grind (arith, and_parts, or_cases)

-- `mblack`: the marker's scan is at its end
pub mblack_kind : (c : Config) (m : Moment) (seat : Seat) → Known c m → Keeps c m (Behind c m seat Step.Mblack)
    → NewCellsAreGuarded c m (Behind c m seat Step.Mblack) → Meets c m seat Step.Mblack → Guard c m
    → BlackIsGuarded c (Behind c m seat Step.Mblack)
mblack_kind c m (Marker k) known keeps new h g =
    blackened _ _ keeps new refl (by (marker_of m k).scan refl own.0) g.black
  where
    own : (is_scanned (marker_of m k).scan ≡ true) × (is_none (marker_of m k).hand ≡ true)
    own = and_parts _ _ h.marker

    by : (scan : Option Scan) → (marker_of m k).scan ≡ scan → is_scanned scan ≡ true → (j : ℕ)
        → has_bit (scan_bit scan) j ≡ true → (i : ℕ) → j < cells_under (header_in m.words (scan_page scan))
        → has_no_pointers (header_in m.words (scan_page scan)) ≡ false
        → i < words_under (header_in m.words (scan_page scan))
        → IsGuarded c m (64 * scan_page scan + j * words_under (header_in m.words (scan_page scan)) + i)
    by None e done j is i lt sc li = cc
    by (Some y) e done j is i lt sc li =
        let st = (g.markers k (work_attends c _ Step.Mblack (known.orderly.idle k) h.marker refl)).scan y e in
        rw (bit_of_cell y.index j is) (scanned_guarded c m y (rw (nothing_is _ own.1) at st) done sc i li)
mblack_kind c m _ known keeps new h g = let kind = h.kind in cc

-- `undirty`: in the stop, nothing that is black has a word other than 0 there

pub record Undirties (m : Moment) (q : ℕ) : Type 0 where
  pub none : none_attends m.seats.markers ≡ true
  pub head : slice_index m.words.blacks (head_page m.words q) ≡ 0

pub undirties : (c : Config) (m : Moment) (seat : Seat) (q : ℕ) → IsMarking m.words → Meets c m seat (Step.Undirty q)
    → Undirties m q
undirties c m seat q early h = grind (arith, and_parts, eqb-true, either_phase, eq-eqb)

pub undirty_kind : {c : Config} {w : World} (seat : Seat) (q : ℕ) → AreOfPages c.pages w.now.words
    → IsMarking w.now.words → GuardPremises c w → Meets c w.now seat (Step.Undirty q)
    → BlackIsGuarded c w.now → BlackIsGuarded c (Behind c w.now seat (Step.Undirty q))
undirty_kind {c} {w} seat q len early say h black p k i lt is scanned li =
    elim (cases_eq (slice_index w.now.words.heap (64 * p + k * words_under (header_in w.now.words p) + i)) 0) [
      | inl z ↦ bare_guarded c _ _ z
      | inr some ↦ elim (cases_eq ((64 * p + k * words_under (header_in w.now.words p) + i) / 64) q) [
        | inl e ↦
            let head : head_page w.now.words q ≡ p =
            rw e at (covered_word w.now.words p k i (say.later early) lt scanned li some) in
            absurd (true≢false (sym is ∙ no_bit _ k (rw (← head) (undirties c w.now seat q early h).head)))
        | inr ne ↦ by (black p k i lt is scanned li) ne
      ]
    ]
  where
    by : {x : ℕ} → IsGuarded c w.now x → x / 64 ≢ q → IsGuarded c (Behind c w.now seat (Step.Undirty q)) x
    by {x} (PointsWell h) ne = PointsWell h
    by {x} (PageIsDirty d) ne = PageIsDirty (get_or-set_other w.now.words.dirty q (x / 64) 0 0 ne ∙ d)
    by {x} (DirtyIsOwed j owes) ne = elim (owed_kind c w.now seat (Step.Undirty q) len h j (x / 64) owes) [
      | inl o ↦ DirtyIsOwed j o
      | inr d ↦ PageIsDirty d
    ]

same_markers : (c : Config) (m : Moment) (seat : Seat) (q j : ℕ) → Meets c m seat (Step.Undirty q)
    → marker_of (Behind c m seat (Step.Undirty q)) j ≡ marker_of m j
same_markers c m (Marker k) q j h = let kind = h.kind in cc
same_markers c m _ q j h = refl

-- what a step keeps of the guarded words
module _ (c : Config) (w : World) (seat : Seat) (limits : IsWithinLimits c) (known : Known c w.now) (len : AreOfPages
    c.pages w.now.words) (early : IsMarking w.now.words) (say : GuardPremises c w) (g : Guard c w.now) where
  abbrev After : Step → Moment
  After x = Behind c w.now seat x

  keeps_by : (x : Step) → Meets c w.now seat x → is_undirty x ≡ false
      → ((v : ℕ) → IsWell c w.now.words v → IsWell c (After x).words v) → ((p : ℕ)
      → HeaderGoesOn c.pages (header_at w.now.words p) (header_at (After x).words p)) → Keeps c w.now (After x)
  keeps_by x h no_clean wells headers = record {
    wells = wells;
    heap = heap_kind seat x known h;
    dirty = dirty_kind c w.now seat x no_clean;
    owed = owed_kind c w.now seat x len h;
    headers = headers;
    marks = marks_kind c w.now seat x early h;
  }

  keeps_of : (x : Step) → Meets c w.now seat x → is_head x ≡ false → is_undirty x ≡ false → Keeps c w.now (After x)
  keeps_of x h no_head no_clean = keeps_by x h no_clean (wells_from c w.now.words (After x).words
      (headers_kind c w.now seat x no_head) (marks_kind c w.now seat x early h))
      (λ p. goes_equal c.pages _ _ (headers_kind c w.now seat x no_head p))

  head : (p n : ℕ) → Meets c w.now seat (Step.Head p n) → HeadKeeps c w.now (After (Step.Head p n))
  head p n h = head_keeps c w.now seat p n len h (head_finds c w seat p n limits known early say h)

  keeps_head : (p n : ℕ) → Meets c w.now seat (Step.Head p n) → Keeps c w.now (After (Step.Head p n))
  keeps_head p n h = keeps_by (Step.Head p n) h refl (head p n h).wells (head p n h).headers

  black_behind : (x : Step) → Meets c w.now seat x → BlackIsGuarded c (After x)
  black_behind (Step.Head p n) h = black_kept (keeps_head p n h) (head p n h).new
      (λ q k is. inl (blacks_kind c w.now seat (Step.Head p n) refl q k is)) g.black
  black_behind (Step.Undirty q) h = undirty_kind seat q len early say h g.black
  black_behind (Step.Black p n) h =
      let own = and_parts _ (not (all_below 32 (λ k. not (blackens c.pages w.now.words p n k)))) h.holder in
      let t = turned w.now.words c.pages p n 32
      (not-true (all_below 32 (λ k. not (blackens c.pages w.now.words p n k))) own.1) in
      let a = and_parts _ (may_turn_black c.pages w.now.words (record { page = p; index = t.bit })) t.is in
      blackened p n (keeps_of (Step.Black p n) h refl refl)
      (no_new_cells c w.now seat (Step.Black p n) refl) refl (λ k is i lt sc li.
      let e = bit_of_power t.bit k (rw (eqb-true n (2 ^ t.bit) a.0) at is) in
      let words = turned_words c.pages w.now.words p t.bit a.1 sc in
      let at : word_points_well c.pages w.now.words (64 * p + t.bit * words_under (header_in w.now.words p) + i)
      ≡ true =
      all_below-at (cell_words w.now.words (record { page = p; index = t.bit })) i (λ j. word_points_well c.pages
      w.now.words (first_word w.now.words (record { page = p; index = t.bit }) + j)) words li in
      rw e (PointsWell at)) g.black
  black_behind Step.Mblack h = mblack_kind c w.now seat known (keeps_of Step.Mblack h refl refl)
      (no_new_cells c w.now seat Step.Mblack refl) h g
  black_behind x h = black_kept (keeps_of x h refl refl) (no_new_cells c w.now seat x refl)
      (λ p k is. inl (blacks_kind c w.now seat x refl p k is)) g.black

  markers_behind : (x : Step) → Meets c w.now seat x → (j : ℕ)
      → is_attending (marker_of (After x) j).presence ≡ true → MarkerStands c (After x) (marker_of (After x) j)
  markers_behind (Step.Head p n) h j at =
      markers_stand c w.now seat (Step.Head p n) len h (keeps_head p n h) g.markers j at
  markers_behind (Step.Undirty q) h j at = absurd (true≢false (sym
      (subst (λ (y : MarkerState). is_attending y.presence ≡ true) (same_markers c w.now seat q j h) at)
      ∙ none_at w.now.seats.markers j (undirties c w.now seat q early h).none))
  markers_behind x h j at = markers_stand c w.now seat x len h (keeps_of x h refl refl) g.markers j at

  guard_behind : (x : Step) → Meets c w.now seat x → Guard c (After x)
  guard_behind x h = record { black = black_behind x h; markers = markers_behind x h }

-- `begin`: nothing is black, and no marker attends
begun : (c : Config) (m : Moment) (seat : Seat) → Known c m → AreOfPages c.pages m.words → Meets c m seat Step.Begin
    → Guard c (Behind c m seat Step.Begin)
begun c m seat known len h = record {
  black = λ p k i lt is sc li. absurd (true≢false (sym is ∙ no_bit _ k (elim (cases_lt p c.pages) [
    | inl lt ↦
        eqb-true _ 0 (and_parts _ _ (and_parts _ _ (all_below-at c.pages p _ own lt)).0).1
    | inr past ↦ get_or_past m.words.blacks p 0 (omega (arith, len.blacks))
  ])));
  markers = λ j at. absurd (alone seat h j at);
}
  where
    own : all_below c.pages (has_clean_page m.words) ≡ true
    own = (and_parts _ (m.words.fresh == 0) h.holder).0

    quiet : (j : ℕ) → Meets c m seat Step.Begin → is_attending (marker_of m j).presence ≡ true → ⊥
    quiet j h at = grind (arith, eqb-true)

    alone : (seat : Seat) → Meets c m seat Step.Begin → (j : ℕ)
        → is_attending (marker_of (Behind c m seat Step.Begin) j).presence ≡ true → ⊥
    alone x0 hh j at = grind (arith, quiet)

-- at a phase past the stop nothing is asked
past : (c : Config) (m : Moment) (n : ℕ) → phase_of m.words ≡ n → (n ≡ 0) ⊎ (4 ≤ n) → MarksStand c m
past c m n is out = grind (arith, closed)

module _ (c : Config) (w : World) (seat : Seat) (limits : IsWithinLimits c) (known : Known c w.now)
    (len : AreOfPages c.pages w.now.words) (say : GuardPremises c w) where
  goes_on : (x : Step) → IsMarking w.now.words → Meets c w.now seat x → MarksStand c w.now
      → Guard c (Behind c w.now seat x)
  goes_on x early h g = guard_behind c w seat limits known len early say (g.guarded early) x h

  pub marks_behind : (x : Step) → Meets c w.now seat x → MarksStand c w.now → MarksStand c (Behind c w.now seat x)
  marks_behind Step.Begin h g =
      let z = eqb-true _ 0 h.phase in
      record { guarded = λ early. begun c w.now seat known len h; closed = λ three. absurd (omega arith) }
  marks_behind Step.Want h g =
      let early = eqb-true _ 1 h.phase in
      record { guarded = λ any. goes_on Step.Want (inl early) h g; closed = λ three. absurd (omega arith) }
  marks_behind Step.Close h g =
      let two = eqb-true _ 2 h.phase in
      record {
        guarded = λ early. goes_on Step.Close (inr two) h g;
        closed = λ three. stays_closed _
            (record { registers = refl; globals = refl; headers = λ p. refl; marks = refl; heap = λ n. inl refl })
            (closed c w.now seat known len h (g.guarded (inr two)).black);
      }
  marks_behind Step.Release h g = let three = eqb-true _ 3 h.phase in past c _ 4 (omega arith) (inr (omega arith))
  marks_behind Step.End h g = past c _ 0 (omega (arith, eqb-true _ 4 h.phase)) (inl refl)
  marks_behind Step.Over h g = let zero = over_phase c w.now seat h in past c _ 5 (omega arith) (inr (omega arith))
  marks_behind x h g = rest x h refl
    where
      rest : (x : Step) → Meets c w.now seat x → is_phase_step x ≡ false → MarksStand c (Behind c w.now seat x)
      rest x h stays =
          let same = phase_stays c w.now seat x stays in
          grind (arith, goes_on, closed, stays_closed, leaves_closed)

-- If cells are closed, so are the allocations in them.

has_headers : {c : Config} {w : Words} {a : PlacedAllocation} → StandsMapped c w a → HasItsHeaders c w a
has_headers st distance lt = inl (st.headers distance lt)

-- Its cell is scanned, if it isn't leaf.
is_scanned_cell : {c : Config} {w : Words} {a : PlacedAllocation} → IsWithinLimits c → StandsMapped c w a
    → (storage_of c a).leaf ≡ false → has_no_pointers (header_in w (a.base / 64)) ≡ false
is_scanned_cell {c} {w} {a} limits st leaf =
    let sized = typed_size c a limits st.stands.typed in
    let first = pages_some (object_placed c a) sized in
    let here : a.base / 64 + 0 ≡ a.base / 64 = omega arith in
    let made : header_at w (a.base / 64) ≡ header_made (object_placed c a) 0 = rw here at (st.headers 0 first) in
    part_has_no_pointers (object_placed c a) _ (first_page_shows c w a sized (has_headers st)) ∙ rw leaf
    (rw made (made_is_mapped (object_placed c a) 0 sized first))

closed_word : (c : Config) (w : Words) (a : PlacedAllocation) → IsWithinLimits c → StandsMapped c w a
    → CellsAreClosed c w → (storage_of c a).leaf ≡ false
    → is_marked_allocation c w a ≡ true → (n : ℕ) → IsWordOf (storage_of c a) n → word_points_well c.pages w n ≡ true
closed_word c w a limits st closed leaf marked n inside =
    let has = has_headers st in
    let cells = cells_begin c w a limits st.stands has in
    let at : first_word w (cell_of_storage (storage_of c a)) + (n - a.base) ≡ n = omega arith in
    subst (λ i. word_points_well c.pages w i ≡ true) at
    (closed.words _ (n - a.base) (cell_is_known c w a (typed_size c a limits st.stands.typed) st.stands.begins has)
    (sym (marked_where_its_cell_is c w a limits st.stands has) ∙ marked) (is_scanned_cell limits st leaf) (omega arith))

pub closed_allocations : {c : Config} (w : World) → IsWithinLimits c
    → ((i : ℕ) → is_mapped c (placed_at w.allocations i) ≡ true
    → StandsMapped c w.now.words (placed_at w.allocations i)) → CellsAreClosed c w.now.words → MarksAreClosed c w
closed_allocations w limits stand closed = grind (arith, closed, and_parts, closed_word, not-true)

-- nothing stands at first: the phase is 0
pub marks_at_first : (c : Config) → MarksStand c (first_moment c)
marks_at_first c = grind (arith, closed)

pub marks_stand_behind_lists : MarksStandBehindLists
unfolding GuardPremisesFrom
marks_stand_behind_lists c es limits on say = (along_enabled (λ w xs. GuardPremisesFrom c w xs × MarksStand c w.now)
    (λ w e xs lengths known here p. (
      p.0.1,
      marks_behind c w e.seat limits known lengths p.0.0 e.step (enabled_meets c w.now e here) p.1,
    )) es limits on (say, marks_at_first c)).1

pub close_finds_marks_closed : CloseFindsMarksClosed
close_finds_marks_closed c es seat limits on enabled say g =
    let h = enabled_meets c (left c es).now (record { seat = seat; step = Step.Close }) enabled in
    closed_allocations _ limits say.mapped (closed c (left c es).now seat (known_left c es limits on)
    (histories_keep_lengths c es) h (g.guarded (inr (eqb-true _ 2 h.phase))).black)

pub stopped_marks_are_closed : StoppedMarksAreClosed
stopped_marks_are_closed c w limits say g three = closed_allocations w limits say.mapped (g.closed three)

pub marking_guards : MarkingGuards
marking_guards c m g early = (g.guarded (grind (arith, eqb-true))).black

pub others_at_first : GuardPremisesAtFirst
others_at_first c = grind arith

pub ruleset marks_stand_behind_lists_facts = (others_at_first, marks_stand_behind_lists)

pub ruleset marks_are_closed_facts = (close_finds_marks_closed, stopped_marks_are_closed)
