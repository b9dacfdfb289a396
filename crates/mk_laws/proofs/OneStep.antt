-- One step of a cycle, whatever it is: after `begin` nothing is marked or held, and each step keeps it touched.
use Rattle.std.proofs.Common.{option_and_then}
use Rattle.mk_laws.proofs.Vocabulary.{Bool, Caller, Cell, Config, Hand, Host, IsIdle, Marker, MarkerStands, MarkerState}
use Rattle.mk_laws.proofs.Vocabulary.{Moment, NeverState, None, Null, Option, PlacedAllocation, Placing, Seat, Some}
use Rattle.mk_laws.proofs.Vocabulary.{Step, Word, Words, World, ℕ, address_of, all_below, all_below-at, and_parts, ap}
use Rattle.mk_laws.proofs.Vocabulary.{arith, bases_of, cases_Bool, cases_lt, cell_of_allocation, eqb-true, false}
use Rattle.mk_laws.proofs.Vocabulary.{flight_of, found, get_or_past, has_clean_page, has_no_pointers, header_in}
use Rattle.mk_laws.proofs.Vocabulary.{if◌then◌else◌, image_of, inl, inr, is_attending, is_marked, is_number_of, is_put}
use Rattle.mk_laws.proofs.Vocabulary.{is_unmarked, ltb-true, marker_of, nat_lt, no_bit, none-some, or_cases, or_else}
use Rattle.mk_laws.proofs.Vocabulary.{placed_at, pointed_cell, refl, register_word, same_Some, slice_index}
use Rattle.mk_laws.proofs.Vocabulary.{slice_index_or, subst, sym, true, true≢false, word_points, ◌&&◌, ◌*◌, ◌+◌, ◌/◌}
use Rattle.mk_laws.proofs.{Vocabulary.{◌∙◌, ◌≡◌, ◌≢◌, ◌≤◌, ◌⊎◌}, Worlds.{Told, headers, held, not_leaf, stands}}
use Rattle.mk_laws.proofs.{Basics.{Behind, KnownWorld, Meets, WorldBehind}, EventSorts.held_idle}
use Rattle.mk_laws.proofs.{MarkSteps.{marked_behind, points_behind}, MarkerSteps.{idle_is_precise, markers_behind}}
use Rattle.mk_laws.proofs.{Pairs.shows_plain, Precise.{IsPrecise, MarkerIsPrecise, PointsOnlyInto, PrecisionScene}}
use Rattle.mk_laws.proofs.Precise.{Steps, precision_scene_of}
use Rattle.mk_core.specs.Effects.{hand_given, hand_of_cell, is_in_stop, is_mapped_cell}
use Rattle.mk_core.specs.{declared.seats.Source.TheVariants.{Marked, Root, Unmarked}, Cycles.PointsIntoAllocation}

-- What the turn holder's hand holds is touched: a root's image, or a word of a marked cell that is scanned.

-- any other step leaves the hand, or drops it

abbrev pub is_look : Step → Bool
is_look (Step.Look y) = true
is_look _ = false

pub hand_kept : (c : Config) (m : Moment) (seat : Seat) (x : Step) → is_look x ≡ false
    → ((Behind c m seat x).seats.holding.hand ≡ m.seats.holding.hand) ⊎ ((Behind c m seat x).seats.holding.hand ≡ None)
hand_kept c m seat x out = grind arith

-- Registers that a look may reach are images: their caller owes out register.

module _ {c : Config} {w : World} {n : NeverState} (t : Told c w n) where
  looked_owes_none : (seat : Seat) (j r : ℕ) → Meets c w.now seat (Step.Look (Word.Reg j r))
      → is_put (flight_of w.now (Caller j)).stage ≡ false
  looked_owes_none seat j r h = elim (or_cases _ _ h.gates) [
    | inl own ↦ by seat own h
    | inr gate ↦
        let lt = ltb-true j c.callers (and_parts _ (nat_lt r 8) h.range).0 in
        ap is_put (held_idle j t.known.now.orderly lt (eqb-true _ 2 gate))
  ]
    where
      by : (seat : Seat) → is_number_of seat j ≡ true → Meets c w.now seat (Step.Look (Word.Reg j r))
          → is_put (flight_of w.now (Caller j)).stage ≡ false
      by seat own h = grind (arith, eqb-true)

  register_image : (seat : Seat) (j r : ℕ) → Meets c w.now seat (Step.Look (Word.Reg j r))
      → register_word w.now.words j r ≡ image_of (bases_of w.allocations) (slice_index_or n.registers (8 * j + r) Null)
  register_image seat j r h =
      let lt = ltb-true r 8 (and_parts (nat_lt j c.callers) (nat_lt r 8) h.range).1 in
      let own : (8 * j + r) / 8 ≡ j = omega arith in
      grind (arith, looked_owes_none, shows_plain)

-- A heap word gives a hand of a marked cell that is scanned, but for a sweeping one.
record IsOfMarked (w : Words) (cell : Cell) (value : ℕ) (h : Hand) : Type 0 where
  scanned : has_no_pointers (header_in w cell.page) ≡ false
  marked : is_marked w cell ≡ true
  holds : h.value ≡ value

cell_hand : (w : Words) (stop : Bool) (placing : Placing) (cell : Cell) (value : ℕ) (h : Hand)
    → hand_of_cell w stop placing cell value ≡ Some h → is_unmarked h.source ≡ false → IsOfMarked w cell value h
cell_hand w stop placing cell value h is out =
    by (has_no_pointers (header_in w cell.page)) (is_marked w cell) (stop && is_mapped_cell w placing cell) refl refl is
  where
    by : (a b d : Bool) → has_no_pointers (header_in w cell.page) ≡ a → is_marked w cell ≡ b
        → (if a then None else if b then Some (record { value = value; source = Marked }) else if d then Some
        (record { value = value; source = Unmarked }) else None) ≡ Some h → IsOfMarked w cell value h
    by a b d ea eb is = grind (arith, same_Some)

module _ {c : Config} {w : World} (n : NeverState) {T : ℕ → Type 0} (precise : IsPrecise c w T) where
  -- a word of a marked cell that is scanned
  heap_hand : {seat : Seat} {x : ℕ} {after : NeverState} (h : Hand) → Steps c w n seat (Step.Look (Word.Heap x)) after T
      → hand_given c w.now seat (Word.Heap x) (slice_index w.now.words.heap x) ≡ Some h → is_unmarked h.source ≡ false
      → PointsOnlyInto c w.allocations T h.value
  heap_hand {seat} {x} h s is out = by (pointed_cell c.pages w.now.words.pages (address_of x)) refl is
    where
      stop : Bool
      stop = is_in_stop c.callers w.now.words seat

      by : (cell : Option Cell) → pointed_cell c.pages w.now.words.pages (address_of x) ≡ cell
          → option_and_then (λ (y : Cell). hand_of_cell w.now.words stop w.now.seats.holding.placing y
          (slice_index w.now.words.heap x)) cell ≡ Some h → PointsOnlyInto c w.allocations T h.value
      by None at is = cc
      by (Some cell) at is =
          let k = cell_hand w.now.words stop w.now.seats.holding.placing cell
          (slice_index w.now.words.heap x) h is out in
          λ b points.
          let low : 65536 ≤ h.value = points.1.0 in
          let some : slice_index w.now.words.heap x ≢ 0 = λ z. absurd (omega arith) in
          let o = held c w n s.before s.early x some in
          let a : PlacedAllocation = placed_at w.allocations o.number in
          let same : cell_of_allocation c a ≡ cell = same_Some _ _
          (sym (word_points c w.now.words a s.before.known.limits (stands c w n s.before o.number o.unreleased)
          (headers c w n s.before o.number o.unreleased) x o.word) ∙ at) in
          let touched = precise.marked o.number o.unreleased
          (subst (λ (y : Cell). is_marked w.now.words y ≡ true) (sym same) k.marked) in
          let leaf = not_leaf c w n s.before o.number o.unreleased
          (ap (λ (y : Cell). has_no_pointers (header_in w.now.words y.page)) same ∙ k.scanned) in
          s.here.words o.number x touched (o.unreleased, leaf, o.word) b
          (subst (λ v. PointsIntoAllocation c w v b) k.holds points)

  root_hand : (value : ℕ) (h : Hand) → PointsOnlyInto c w.allocations T value
      → Some (record { value = value; source = Root }) ≡ Some h → PointsOnlyInto c w.allocations T h.value
  root_hand value h only is = grind (arith, same_Some)

  -- what a look gives
  look_hand : (seat : Seat) (y : Word) (after : NeverState) (h : Hand) → Steps c w n seat (Step.Look y) after T
      → hand_given c w.now seat y (found c w.now (record { seat = seat; step = Step.Look y })) ≡ Some h
      → is_unmarked h.source ≡ false → PointsOnlyInto c w.allocations T h.value
  look_hand seat (Word.Reg j r) after h s is out =
      root_hand _ h (rw (register_image s.before seat j r s.meets) (s.here.registers (8 * j + r))) is
  look_hand seat (Word.Global g) after h s is out = root_hand _ h (s.here.globals g) is
  look_hand seat (Word.Heap x) after h s is out = heap_hand h s is out
  look_hand seat _ after h s is out = cc

  pub hand_behind : (seat : Seat) (x : Step) (after : NeverState) → Steps c w n seat x after T → (h : Hand)
      → (WorldBehind c w seat x).now.seats.holding.hand ≡ Some h → is_unmarked h.source ≡ false
      → PointsOnlyInto c (WorldBehind c w seat x).allocations T h.value
  hand_behind seat (Step.Look y) after s h is out =
      by (hand_given c w.now seat y (found c w.now (record { seat = seat; step = Step.Look y }))) refl is
    where
      by : (given : Option Hand)
          → hand_given c w.now seat y (found c w.now (record { seat = seat; step = Step.Look y })) ≡ given
          → or_else given w.now.seats.holding.hand ≡ Some h → PointsOnlyInto c w.allocations T h.value
      by None e is = precise.hand h is out
      by (Some k) e is = look_hand seat y after h s (e ∙ is) out
  hand_behind seat x after s h is out = rest x refl s is
    where
      rest : (x : Step) → is_look x ≡ false → Steps c w n seat x after T
          → (WorldBehind c w seat x).now.seats.holding.hand ≡ Some h
          → PointsOnlyInto c (WorldBehind c w seat x).allocations T h.value
      rest x other s is = elim (hand_kept c w.now seat x other) [
        | inl same ↦ points_behind c w n seat x after T h.value s (precise.hand h (sym same ∙ is) out)
        | inr none ↦ let bad : ◌≡◌ {A = Option Hand} None (Some h) = sym none ∙ is in cc
      ]

-- What markers are in the middle of stands, whether they attend or not.

idle_stands : (c : Config) (m : Moment) {x : MarkerState} → IsIdle x → MarkerStands c m x
idle_stands c m idle = grind (arith, none-some)

markers_stand : (c : Config) (w : World) (n : NeverState) (seat : Seat) (x : Step) (after : NeverState)
    (T : ℕ → Type 0) → Steps c w n seat x after T → (j : ℕ) → MarkerStands c w.now (marker_of w.now j)
markers_stand c w n seat x after T s j = elim (cases_Bool (is_attending (marker_of w.now j).presence)) [
  | inl at ↦ (s.before.all.marks.guarded s.early).markers j at
  | inr out ↦ idle_stands c w.now (s.before.known.now.orderly.idle j out)
]

pub precise_behind : (c : Config) (w : World) (n : NeverState) (seat : Seat) (x : Step) (after : NeverState)
    (T : ℕ → Type 0) → Steps c w n seat x after T → IsPrecise c w T → IsPrecise c (WorldBehind c w seat x) T
precise_behind c w n seat x after T s precise =
    let stand = markers_stand c w n seat x after T s in
    record {
      marked = marked_behind n precise stand s;
      hand = hand_behind n precise seat x after s;
      markers = markers_behind c w n seat x after T s precise stand;
    }

-- after `begin`
pub precise_begun : (c : Config) (w : World) (seat : Seat) (T : ℕ → Type 0) → KnownWorld c w
    → Meets c w.now seat Step.Begin → IsPrecise c (WorldBehind c w seat Step.Begin) T
precise_begun c w seat T known h = record {
  marked = λ b u is.
      let cell : Cell = cell_of_allocation c (placed_at (WorldBehind c w seat Step.Begin).allocations b) in
      absurd (true≢false (sym is ∙ no_bit _ cell.index (elim (cases_lt cell.page c.pages) [
        | inl lt ↦
            let a = and_parts _ _ (all_below-at c.pages cell.page _ own lt) in
            eqb-true _ 0 (and_parts _ _ a.0).0
        | inr past ↦ get_or_past w.now.words.marks cell.page 0 (omega (arith, known.lengths.marks))
      ])));
  hand = λ k is. absurd (none-some _ is);
  markers = λ j. by seat h j;
}
  where
    own : all_below c.pages (has_clean_page w.now.words) ≡ true
    own = (and_parts _ _ h.holder).0

    quiet : (j : ℕ) (s : PrecisionScene) → MarkerIsPrecise c s T (marker_of w.now j)
    quiet j s = elim (cases_Bool (is_attending (marker_of w.now j).presence)) [
      | inr out ↦ idle_is_precise c s T _ (known.now.orderly.idle j out)
      | inl at ↦
          let z = eqb-true _ 0 h.phase in
          elim (known.now.orderly.attends j at) [ inl e ↦ absurd (omega arith) | inr e ↦ absurd (omega arith) ]
    ]

    by : (seat : Seat) → Meets c w.now seat Step.Begin → (j : ℕ) → MarkerIsPrecise c
        (precision_scene_of (WorldBehind c w seat Step.Begin)) T (marker_of (WorldBehind c w seat Step.Begin).now j)
    by (Caller k) on j = quiet j _
    by Host on j = quiet j _
    by (Marker k) on j = let kind = on.kind in cc
