-- What each kind of step changes of marks, black words and dirty words, of the hand of the turn's holder, and of all
-- else that the guard reads.
use Rattle.mk_laws.proofs.Vocabulary.{AreOfPages, Bool, Caller, Config, DirtyIsOwed, Flight, Hand, IsGuarded, IsMarking}
use Rattle.mk_laws.proofs.Vocabulary.{List, Moment, Named, None, OnlyGrow, Op, Option, OwesDirty, Page, Seat, Stage}
use Rattle.mk_laws.proofs.Vocabulary.{Step, Store, Tally, Word, Words, ℕ, accessed, and_parts, ap, arith, at_rest}
use Rattle.mk_laws.proofs.Vocabulary.{bit_or, cases_eq, cell_seen, comes_next, eqb-true, false, flight_of, found}
use Rattle.mk_laws.proofs.Vocabulary.{free_page, get_or-set_other, get_or-set_same, has_bit, head_page, header_at}
use Rattle.mk_laws.proofs.Vocabulary.{if◌then◌else◌, inl, inr, is_attending, is_phase, is_some, ltb-true, marker_at}
use Rattle.mk_laws.proofs.Vocabulary.{marker_of, nat_le, nat_lt, no_bit, none_attends, not, not-true, nothing_done}
use Rattle.mk_laws.proofs.Vocabulary.{or_cases, or_else, page_met, phase_of, progress, refl, scan_page, seen_bit}
use Rattle.mk_laws.proofs.Vocabulary.{seen_page, set_by, slice_index, slice_index_or, slice_set, stage_behind, steps_of}
use Rattle.mk_laws.proofs.Vocabulary.{subst, sym, tally_word, true, true≢false, word_met, ◌&&◌, ◌*◌, ◌<◌, ◌==◌, ◌||◌}
use Rattle.mk_laws.proofs.{Vocabulary.{◌∙◌, ◌≡◌, ◌⊎◌}, Actors.{Meets, none_at}, Known.Known, NextSteps.at_its_stage}
use Rattle.mk_laws.proofs.{OrderlyLists.not_astray, SameWords.Behind, Standings.{is_astray, standing_at}}
use Rattle.mk_laws.proofs.Wells.{bare_guarded}
use Rattle.mk_core.proofs.{RegisterAccesses.{LeavesTable, register_leaves, tally_leaves}, WordBits.has_bit_or_left}
use Rattle.mk_core.specs.{MarkingConditions.{may_black, may_mark, may_undirty}, Accesses.scan_bit, Effects.hand_given}
use Rattle.mk_core.specs.MarkingConditions.{may_mblack}

-- Bits are added to a word of a list, and no bit is cleared.

pub grows_same : (xs : List ℕ) → OnlyGrow xs xs
grows_same xs p k is = is

pub grows_joined : (xs ys zs : List ℕ) → OnlyGrow xs ys → OnlyGrow ys zs → OnlyGrow xs zs
grows_joined xs ys zs a b p k is = b p k (a p k is)

pub grows_more : (xs : List ℕ) (q bits : ℕ) → OnlyGrow xs (slice_set xs q (bit_or (slice_index xs q) bits))
grows_more xs q bits p k is = set_by (λ v. has_bit v k ≡ true) xs q p (bit_or (slice_index xs q) bits) 0
    (λ e. has_bit_or_left (slice_index xs q) bits k (rw e at is)) is

-- What an event may do to marks, blacks and dirty words, and to the hand of the turn's holder.

pub record Colours : Type 0 where
  pub marks : List ℕ
  pub blacks : List ℕ
  pub dirty : List ℕ
  pub hand : Option Hand

abbrev pub colours_with : Words → Option Hand → Colours
colours_with w hand = record { marks = w.marks; blacks = w.blacks; dirty = w.dirty; hand = hand }

abbrev pub colours_of : Moment → Colours
colours_of m = colours_with m.words m.seats.holding.hand

-- The phase is 0, or the stop is wanted and no marker attends.
abbrev pub IsQuiet : Moment → Type 0
IsQuiet m = (phase_of m.words ≡ 0) ⊎ ((phase_of m.words ≡ 2) × (none_attends m.seats.markers ≡ true))

-- if a seat steps
pub data ColourStep (c : Config) (m : Moment) (seat : Seat) : Colours → Type 0 where
  Leaves : ColourStep c m seat (colours_of m)
  ClearsMarks : (p : ℕ) → phase_of m.words ≡ 0
      → ColourStep c m seat (record (colours_of m) { marks = slice_set m.words.marks p 0 })
  AddsMarks : (p bits : ℕ) → (phase_of m.words ≡ 1) ⊎ (phase_of m.words ≡ 2)
      → may_mark c m (flight_of m seat) p bits ≡ true → ColourStep c m seat
      (record (colours_of m) { marks = slice_set m.words.marks p (bit_or (slice_index m.words.marks p) bits) })
  MarksSeen : (p bits : ℕ) → is_some (cell_seen c (marker_at m seat).seen (marker_at m seat).hand) ≡ true
      → seen_page (cell_seen c (marker_at m seat).seen (marker_at m seat).hand) ≡ p
      → seen_bit (cell_seen c (marker_at m seat).seen (marker_at m seat).hand) ≡ bits → ColourStep c m seat
      (record (colours_of m) { marks = slice_set m.words.marks p (bit_or (slice_index m.words.marks p) bits) })
  Blackens : (p bits : ℕ) → phase_of m.words ≡ 2 → may_black c m p bits ≡ true → ColourStep c m seat
      (record (colours_of m) { blacks = slice_set m.words.blacks p (bit_or (slice_index m.words.blacks p) bits) })
  BlackensScanned : (p bits : ℕ) → may_mblack (marker_at m seat) ≡ true → scan_page (marker_at m seat).scan ≡ p
      → scan_bit (marker_at m seat).scan ≡ bits → ColourStep c m seat
      (record (colours_of m) { blacks = slice_set m.words.blacks p (bit_or (slice_index m.words.blacks p) bits) })
  Whitens : (p : ℕ) → IsQuiet m → ColourStep c m seat (record (colours_of m) { blacks = slice_set m.words.blacks p 0 })
  Dirties : ColourStep c m seat
      (record (colours_of m) { dirty = slice_set m.words.dirty (page_met (flight_of m seat)) 1 })
  Cleans : (p : ℕ) → IsQuiet m → may_undirty m p ≡ true
      → ColourStep c m seat (record (colours_of m) { dirty = slice_set m.words.dirty p 0 })
  TakesHand : (x : Word) → ColourStep c m seat (colours_with m.words
      (or_else (hand_given c m seat x (found c m (record { seat = seat; step = Step.Look x }))) m.seats.holding.hand))
  DropsHand : ColourStep c m seat (record (colours_of m) { hand = None })

-- Words that leave the table leave the colours.
table_left : (c : Config) (m : Moment) (seat : Seat) {w : Words} → LeavesTable m.words w
    → ColourStep c m seat (colours_with w m.seats.holding.hand)
table_left c m seat t = rw (t.marks, t.blacks, t.dirty) Leaves

marking : (n : ℕ) → ((n == 1) || (n == 2)) ≡ true → (n ≡ 1) ⊎ (n ≡ 2)
marking n h = elim (or_cases (n == 1) (n == 2) h) [ inl e ↦ inl (eqb-true n 1 e) | inr e ↦ inr (eqb-true n 2 e) ]

quiet : (m : Moment) (more : Bool) → ((phase_of m.words == 0) || (phase_of m.words == 2)) ≡ true
    → (not (is_phase m.words 2) || (none_attends m.seats.markers && more)) ≡ true → IsQuiet m
quiet m more h own = grind (arith, or_cases, eqb-true, not-true, and_parts)

and_true : (b : Bool) → b ≡ (b && true)
and_true true = refl
and_true false = refl

-- what `undirty` asks besides that no marker attends
abbrev is_blank : Moment → ℕ → Bool
is_blank m p = (slice_index m.words.blacks p == 0) && (slice_index m.words.blacks (head_page m.words p) == 0)

and_moved : (a b d : Bool) → (a && b && d) ≡ (a && (b && d))
and_moved true b d = refl
and_moved false b d = refl

takes_or_not : (c : Config) (m : Moment) (seat : Seat) (b : Bool)
    → ColourStep c m seat (colours_with m.words (if b then nothing_done else m.seats.holding).hand)
takes_or_not c m seat true = DropsHand
takes_or_not c m seat false = Leaves

ruleset colour_steps = (Dirties, ClearsMarks, AddsMarks, MarksSeen, Blackens, BlackensScanned, Whitens, Leaves)

-- all kinds, whatever the seat
pub colour_step : (c : Config) (m : Moment) (seat : Seat) (x : Step) → Meets c m seat x
    → ColourStep c m seat (colours_of (Behind c m seat x))
colour_step c m seat Step.Reg h = table_left c m seat (register_leaves m.words _ _ _)
colour_step c m seat (Step.Tally n v) h = table_left c m seat (tally_leaves m.words n v)
colour_step c m seat (Step.Take o) h = takes_or_not c m seat _
colour_step c m seat Step.Give h = DropsHand
colour_step c m seat (Step.Look w) h = TakesHand w
colour_step c m seat Step.Begin h = DropsHand
colour_step c m seat (Step.Undirty p) h = Cleans p (quiet m (is_blank m p) h.phase (rw (← (and_moved _ _
    _)) h.holder)) h.holder
colour_step c m seat x4 h =
    grind (arith, eqb-true, marking, quiet, and_true, colour_steps)

-- While a marker attends, no mark and no black bit is cleared.
quiet_ends : (m : Moment) (k : ℕ) → (phase_of m.words ≡ 1) ⊎ (phase_of m.words ≡ 2)
    → is_attending (marker_of m k).presence ≡ true → IsQuiet m → ⊥
quiet_ends m k early a (inl z) = omega arith
quiet_ends m k early a (inr none) = let f : true ≡ false = sym a ∙ none_at m.seats.markers k none.1 in cc

pub attending_grows : {c : Config} {m : Moment} {seat : Seat} {y : Colours} (k : ℕ) → (phase_of m.words ≡ 1)
    ⊎ (phase_of m.words ≡ 2) → is_attending (marker_of m k).presence ≡ true → ColourStep c m seat y
    → OnlyGrow m.words.marks y.marks × OnlyGrow m.words.blacks y.blacks
attending_grows k early a (AddsMarks p bits e h) = (grows_more _ p bits, grows_same _)
attending_grows k early a (MarksSeen p bits s e f) = (grows_more _ p bits, grows_same _)
attending_grows k early a (Blackens p bits e h) = (grows_same _, grows_more _ p bits)
attending_grows k early a (BlackensScanned p bits s e f) = (grows_same _, grows_more _ p bits)
attending_grows {m} k early a (ClearsMarks p z) = absurd (quiet_ends m k early a (inl z))
attending_grows {m} k early a (Whitens p q) = absurd (quiet_ends m k early a q)
attending_grows {m} k early a _ = (grows_same m.words.marks, grows_same m.words.blacks)

-- the words that only a few kinds change
pub record Table : Type 0 where
  pub phase : ℕ
  pub globals : List ℕ
  pub pages : List Page
  pub marks : List ℕ
  pub blacks : List ℕ
  pub dirty : List ℕ
  pub heap : List ℕ

abbrev pub table_of : Words → Table
table_of w = record {
  phase = w.phase;
  globals = w.globals;
  pages = w.pages;
  marks = w.marks;
  blacks = w.blacks;
  dirty = w.dirty;
  heap = w.heap;
}

pub tally_table : (w : Words) (n : Tally) (v : ℕ) → table_of (accessed w (Named (tally_word n)) (Store v)) ≡ table_of w
tally_table w Tally.Held v = refl
tally_table w _ v = refl

pub reg_table : (c : Config) (m : Moment) (seat : Seat) → table_of (Behind c m seat Step.Reg).words ≡ table_of m.words
reg_table c m seat = grind arith

-- A call that has written, or exchanged, owes the dirty word after it.

wrote : (o : Op) → is_astray (standing_at Stage.Write o) ≡ false → stage_behind Stage.Write (steps_of o) ≡ Stage.Dirty
wrote (Op.SetNum q i n) h = refl
wrote _ h = cc

swapped : (o : Op) → is_astray (standing_at Stage.Cas o) ≡ false → stage_behind Stage.Cas (steps_of o) ≡ Stage.Dirty
swapped (Op.CasPtr q i p r) h = refl
swapped _ h = cc

-- heap words: one that changes is owed, or is 0

stored : {c : Config} {m : Moment} (k : ℕ) (x : Step) (s : Stage) (n y : ℕ) → Known c m → k < c.callers
    → (flight_of m (Caller k)).stage ≡ s
    → ((o : Op) → is_astray (standing_at s o) ≡ false → stage_behind s (steps_of o) ≡ Stage.Dirty)
    → (f : Flight) → f.stage ≡ stage_behind (flight_of m (Caller k)).stage (steps_of (flight_of m (Caller k)).op)
    → word_met f ≡ word_met (flight_of m (Caller k))
    → (Behind c m (Caller k) x).words.heap ≡ slice_set m.words.heap (word_met (flight_of m (Caller k))) n
    → (Behind c m (Caller k) x).seats.flights ≡ slice_set m.seats.flights k f
    → (slice_index (Behind c m (Caller k) x).words.heap y ≡ slice_index m.words.heap y)
    ⊎ IsGuarded c (Behind c m (Caller k) x) y
stored {c} {m} k x s n y known lt at owes f stage same heap flights =
    elim (cases_eq y (word_met (flight_of m (Caller k)))) [
      | inl e ↦
          let o : Op = (flight_of m (Caller k)).op in
          let fine = subst (λ (s : Stage). is_astray (standing_at s o)
          ≡ false) at (not_astray c m known.orderly k lt) in
          let is : flight_of (Behind c m (Caller k) x) (Caller k) ≡ f = rw flights
          (get_or-set_same m.seats.flights k f at_rest (omega (arith, lt, known.orderly.flights))) in
          inr (DirtyIsOwed k (
            rw is (stage ∙ ap (λ (s : Stage). stage_behind s (steps_of o)) at ∙ owes o fine),
            rw is (rw (same ∙ sym e)),
          ))
      | inr ne ↦ inl (rw heap (get_or-set_other m.words.heap _ y n 0 ne))
    ]

pub wiped : (xs : List ℕ) (n y : ℕ)
    → (slice_index (slice_set xs n 0) y ≡ slice_index xs y) ⊎ (slice_index (slice_set xs n 0) y ≡ 0)
wiped xs n y = set_by (λ v. (v ≡ slice_index xs y) ⊎ (v ≡ 0)) xs n y 0 0 (λ e. inr refl) (inl refl)

pub heap_kind : {c : Config} {m : Moment} (seat : Seat) (x : Step) → Known c m → Meets c m seat x → (y : ℕ)
    → (slice_index (Behind c m seat x).words.heap y ≡ slice_index m.words.heap y) ⊎ IsGuarded c (Behind c m seat x) y
heap_kind {c} {m} seat Step.Reg known h y = inl (ap (λ (t : Table). slice_index t.heap y) (reg_table c m seat))
heap_kind {m} seat (Step.Tally n v) known h y = inl (ap (λ (t : Table). slice_index t.heap y) (tally_table m.words n v))
heap_kind {c} {m} (Caller k) Step.Write known h y = stored k Step.Write Stage.Write _ y known
    (ltb-true k c.callers h.seat) (at_its_stage _ _ Step.Write refl h.order) wrote _ refl refl refl refl
heap_kind {c} {m} (Caller k) Step.Cas known h y = stored k Step.Cas Stage.Cas _ y known
    (ltb-true k c.callers h.seat) (at_its_stage _ _ Step.Cas refl h.order) swapped _ refl refl refl refl
heap_kind _ Step.Write known h y = let kind = h.kind in cc
heap_kind _ Step.Cas known h y = let kind = h.kind in cc
heap_kind {c} {m} seat (Step.Wipe n) known h y =
    elim (wiped m.words.heap n y) [ inl same ↦ inl same | inr bare ↦ inr (bare_guarded c _ y bare) ]
heap_kind seat _ known h y = inl refl

-- dirty words

abbrev pub is_undirty : Step → Bool
is_undirty (Step.Undirty p) = true
is_undirty _ = false

pub dirty_kind : (c : Config) (m : Moment) (seat : Seat) (x : Step) → is_undirty x ≡ false → (p : ℕ)
    → slice_index m.words.dirty p ≡ 1 → slice_index (Behind c m seat x).words.dirty p ≡ 1
dirty_kind c m seat Step.Reg u p h = ap (λ (t : Table). slice_index t.dirty p) (reg_table c m seat) ∙ h
dirty_kind c m seat Step.Dirty u p h =
    set_by (λ v. v ≡ 1) m.words.dirty (page_met (flight_of m seat)) p 1 0 (λ e. refl) h
dirty_kind c m seat x4 u p h = grind (arith, tally_table)

-- A call that owes a dirty word has no other step next.

abbrev pub is_dirty : Step → Bool
is_dirty Step.Dirty = true
is_dirty _ = false

pub at_owed : (o : Op) (x : Step) → comes_next Stage.Dirty o x ≡ true → is_dirty x ≡ true
at_owed o Step.Dirty h = refl
at_owed o _ h = cc

pub owed_kind : (c : Config) (m : Moment) (seat : Seat) (x : Step) → AreOfPages c.pages m.words → Meets c m seat x
    → (j p : ℕ) → OwesDirty m j p
    → OwesDirty (Behind c m seat x) j p ⊎ (slice_index (Behind c m seat x).words.dirty p ≡ 1)
owed_kind c m (Caller k) x len h j p owes = elim (cases_eq j k) [
  | inr ne ↦
      let is = get_or-set_other m.seats.flights k j
      (progress c m (flight_of m (Caller k)) (found c m (record { seat = Caller k; step = x })) x).flight at_rest ne in
      inl (rw is owes.0, rw is owes.1)
  | inl e ↦
      let own : (flight_of m (Caller k)).stage ≡ Stage.Dirty = rw e at owes.0 in
      let page : page_met (flight_of m (Caller k)) ≡ p = rw e at owes.1 in
      inr (rw page at (paid x h (at_owed (flight_of m (Caller k)).op x (rw own at h.order))))
]
  where
    paid : (x : Step) → Meets c m (Caller k) x → is_dirty x ≡ true
        → slice_index (Behind c m (Caller k) x).words.dirty (page_met (flight_of m (Caller k))) ≡ 1
    paid Step.Dirty h is =
        let met = (and_parts (nat_le 65536 (flight_of m (Caller k)).q)
        (nat_lt (word_met (flight_of m (Caller k))) (64 * c.pages)) h.range).1 in
        let lt = ltb-true (word_met (flight_of m (Caller k))) (64 * c.pages) met in
        get_or-set_same m.words.dirty (page_met (flight_of m (Caller k))) 1 0 (omega (arith, len.dirty, lt))
    paid _ h is = cc
owed_kind c m _ x len h j p owes = inl owes

-- headers

abbrev pub is_head : Step → Bool
is_head (Step.Head p n) = true
is_head _ = false

pub headers_kind : (c : Config) (m : Moment) (seat : Seat) (x : Step) → is_head x ≡ false → (p : ℕ)
    → header_at (Behind c m seat x).words p ≡ header_at m.words p
headers_kind c m seat Step.Reg u p =
    ap (λ (t : Table). (slice_index_or t.pages p free_page).header) (reg_table c m seat)
headers_kind c m seat (Step.Tally n v) u p =
    ap (λ (t : Table). (slice_index_or t.pages p free_page).header) (tally_table m.words n v)
headers_kind c m seat (Step.Used q n) u p = set_by (λ (y : Page). y.header ≡ header_at m.words p) m.words.pages q p
    (record { header = header_at m.words q; used = n }) free_page (λ e. rw e) refl
headers_kind c m seat _ u p = cc

-- marks only grow while a cycle marks
marks_grow : {c : Config} {m : Moment} {seat : Seat} {y : Colours} → IsMarking m.words → ColourStep c m seat y
    → OnlyGrow m.words.marks y.marks
marks_grow early x6 = grind (arith, grows_more, grows_same)

pub marks_kind : (c : Config) (m : Moment) (seat : Seat) (x : Step) → IsMarking m.words → Meets c m seat x
    → OnlyGrow m.words.marks (Behind c m seat x).words.marks
marks_kind c m seat x early h = marks_grow early (colour_step c m seat x h)

-- black words: bits are added by two kinds
abbrev pub is_blackening : Step → Bool
is_blackening (Step.Black p n) = true
is_blackening Step.Mblack = true
is_blackening _ = false

pub blacks_kind : (c : Config) (m : Moment) (seat : Seat) (x : Step) → is_blackening x ≡ false
    → OnlyGrow (Behind c m seat x).words.blacks m.words.blacks
blacks_kind c m seat Step.Reg u = rw (register_leaves m.words _ _ _).blacks (grows_same m.words.blacks)
blacks_kind c m seat (Step.Unblack q) u =
    λ p k. set_by (λ v. has_bit v k ≡ true → has_bit (slice_index m.words.blacks p) k ≡ true) m.words.blacks q p 0 0
    (λ e is. absurd (true≢false (sym is ∙ no_bit 0 k refl))) (λ is. is)
blacks_kind c m seat x4 u = grind (arith, tally_leaves, grows_same)
