-- What is fresh and what is in the snapshot, after each kind of event.
use Rattle.mk_laws.proofs.Vocabulary.{Among, Bool, Cell, Config, Drops, Flight, Ground, HasQuarantine, IsQuarantined}
use Rattle.mk_laws.proofs.Vocabulary.{KeepsSnapshot, LayoutStands, List, None, Object, Option, PlacedAllocation}
use Rattle.mk_laws.proofs.Vocabulary.{Placing, QuarantineStep, Seat, Some, Step, Used, World, ℕ, all_below}
use Rattle.mk_laws.proofs.Vocabulary.{all_below-at, and_parts, ap, arith, cases_Bool, cell_freed, cell_of_allocation}
use Rattle.mk_laws.proofs.Vocabulary.{changed_at, claims_placed, eqb-true, false, false_from_ne_true, fewer_bits}
use Rattle.mk_laws.proofs.Vocabulary.{flight_of, freed_cell, freed_leaves, freed_where_it_stands, granted}
use Rattle.mk_laws.proofs.Vocabulary.{granted_base_is, granted_object, ground_of, has_bit, has_bit_of, has_clean_page}
use Rattle.mk_laws.proofs.Vocabulary.{if◌then◌else◌, inl, inr, is_cycling, is_phase, is_undecided_new, is_used_once}
use Rattle.mk_laws.proofs.Vocabulary.{length, ltb-true, map, no_longer_fresh, none_freed, not, not-true, object_now}
use Rattle.mk_laws.proofs.Vocabulary.{object_placed, pages_some, phase_of, place_claim, placed_at, quarantine_step}
use Rattle.mk_laws.proofs.Vocabulary.{refl, released_leaves, set-get_or, slice_index, slice_set, stands_in, sym, true}
use Rattle.mk_laws.proofs.Vocabulary.{true≢false, with_released, [], ◌&&◌, ◌++◌, ◌/◌, ◌<◌, ◌==◌, ◌^◌, ◌∙◌}
use Rattle.mk_laws.proofs.{Vocabulary.{◌∷◌, ◌≡◌, ◌⊎◌}, Basics.{Before, LeavesCells, Meets, WorldBehind, all_stand}}
use Rattle.mk_laws.proofs.Basics.{apart_left, bit_cases, freeing_leaves, grants_new, holding_object, new_has_turn}
use Rattle.mk_laws.proofs.Basics.{placed_claim, reg_leaves_ground, releasing_leaves, tally_ground}
use Rattle.mk_laws.proofs.{CyclePhases.{phase_asked, phase_moves}, QuarantineByKind.{frees_here, frees_some, shown_at}}
use Rattle.mk_laws.proofs.{QuarantineChanges.{FreesHere, before_change, free_halves}, ForImages.numbers_apart}
use Rattle.mk_laws.proofs.{Granted.{pushed_any, pushed_at}, LayoutByKind.{fresh_cells, off_at}}
use Rattle.mk_laws.proofs.{QuarantineSteps.and_both, Released.{left_is, place_index}, Quarantine.HasSnapshot}
use Rattle.mk_core.specs.MarkingConditions.{may_begin}

-- What is fresh and what is in the snapshot, after a `quar`.

-- the snapshot's bit of an allocation whose freed bit isn't set
pub unset_in_snapshot : {c : Config} {releasing : Bool} {marks : List ℕ} {t : Ground} (p k : ℕ)
    → HasQuarantine c releasing marks t → has_bit (slice_index t.freed p) k ≡ false
    → has_bit (slice_index t.snapshot p) k ≡ false
unset_in_snapshot p k q out = false_from_ne_true _ (λ h. true≢false (sym (q.within p k h) ∙ out))

-- `quar` (c): no unreleased allocation's bit goes
dropped_bits : {c : Config} (w : World) {p f n : ℕ} (i : ℕ) → p < length w.now.words.snapshot
    → HasQuarantine c true w.now.words.marks (ground_of w) → Drops w.now.words p f n
    → (placed_at w.allocations i).released ≡ false → has_bit_of c (slice_set w.now.words.snapshot p n)
    (placed_at w.allocations i) ≡ has_bit_of c w.now.words.snapshot (placed_at w.allocations i)
dropped_bits {c} w {p = p} {n = n} i ls q d u = elim (bit_cases w.now.words.snapshot p n x.page x.index ls) [
  | inr other ↦ other.1
  | inl here ↦ here.1 ∙ same here.0 (cases_Bool _) (cases_Bool _)
]
  where
    x : Cell
    x = cell_of_allocation c (placed_at w.allocations i)

    same : (cell_of_allocation c (placed_at w.allocations i)).page ≡ p
        → (has_bit n (cell_of_allocation c (placed_at w.allocations i)).index ≡ true)
        ⊎ (has_bit n (cell_of_allocation c (placed_at w.allocations i)).index ≡ false)
        → (has_bit_of c w.now.words.snapshot (placed_at w.allocations i) ≡ true)
        ⊎ (has_bit_of c w.now.words.snapshot (placed_at w.allocations i) ≡ false)
        → has_bit n (cell_of_allocation c (placed_at w.allocations i)).index
        ≡ has_bit_of c w.now.words.snapshot (placed_at w.allocations i)
    same at h is = grind (arith, fewer_bits, and_both)

quar_none : (c : Config) (w : World) (f : Flight) (p n : ℕ) → p < length w.now.words.snapshot
    → cell_freed c.pages w.now.words f p n ≡ None → QuarantineStep c w.now f p n → IsQuarantined c w → KeepsSnapshot c w
    → HasSnapshot c (is_cycling (phase_of w.now.words)) (slice_set w.now.words.snapshot p (n / 2 ^ 32)) w.allocations
quar_none c w f p n ls none h q s = grind (arith, frees_some, eqb-true, dropped_bits)

quar_frees : {c : Config} {w : World} {cell : Cell} {n : ℕ} → FreesHere c w cell n
    → HasQuarantine c false w.now.words.marks (ground_of w) → KeepsSnapshot c w
    → HasSnapshot c (is_cycling (phase_of w.now.words)) (slice_set w.now.words.snapshot cell.page (n / 2 ^ 32))
    (map (freed_where_it_stands w.now.words (Some cell)) w.allocations)
quar_frees {c} {w} {cell} {n} x q s =
    let leaves : LeavesCells (freed_where_it_stands w.now.words (Some cell)) = freeing_leaves w.now.words (Some cell) in
    rw same (record {
      fresh = λ i f. fresh i _ refl f;
      quarantined = λ on i u.
          let b = before_change c w.allocations i leaves u in
          ap (λ (y : Cell). has_bit (slice_index w.now.words.snapshot y.page) y.index) b.cell
          ∙ bit on i b.was (stands_in w.now.words cell (placed_at w.allocations i)) refl ∙ sym (rw (at i));
    })
  where
    same : slice_set w.now.words.snapshot cell.page (n / 2 ^ 32) ≡ w.now.words.snapshot
    same = rw (free_halves x q).1 (set-get_or w.now.words.snapshot cell.page 0)

    at : (i : ℕ) → placed_at (map (freed_where_it_stands w.now.words (Some cell)) w.allocations) i
        ≡ freed_where_it_stands w.now.words (Some cell) (placed_at w.allocations i)
    at i = changed_at _ w.allocations i (freed_leaves w.now.words (Some cell)).none

    fresh_by : (b : Bool) (a : PlacedAllocation) → (b ≡ true → a.released ≡ false)
        → (a.fresh ≡ true → (a.freed ≡ true) × (a.released ≡ false))
        → (if b then record a { freed = true; fresh = true } else a).fresh ≡ true
        → ((if b then record a { freed = true; fresh = true } else a).freed ≡ true)
        × ((if b then record a { freed = true; fresh = true } else a).released ≡ false)
    fresh_by b a u was f = grind arith

    fresh : (i : ℕ) (b : Bool) → stands_in w.now.words cell (placed_at w.allocations i) ≡ b
        → (placed_at (map (freed_where_it_stands w.now.words (Some cell)) w.allocations) i).fresh ≡ true
        → ((placed_at (map (freed_where_it_stands w.now.words (Some cell)) w.allocations) i).freed ≡ true)
        × ((placed_at (map (freed_where_it_stands w.now.words (Some cell)) w.allocations) i).released ≡ false)
    fresh i b is f =
        let a : PlacedAllocation = placed_at w.allocations i in
        let r = fresh_by _ a (λ e. not-true a.released (and_parts _ _ e).0) (s.fresh i) (rw (← (at i)) f) in
        (rw (at i) r.0, rw (at i) r.1)

    bit : is_cycling (phase_of w.now.words) ≡ true → (i : ℕ) → (placed_at w.allocations i).released ≡ false → (b : Bool)
        → stands_in w.now.words cell (placed_at w.allocations i) ≡ b → has_bit_of c w.now.words.snapshot
        (placed_at w.allocations i) ≡ ((freed_where_it_stands w.now.words (Some cell) (placed_at w.allocations i)).freed
        && not (freed_where_it_stands w.now.words (Some cell) (placed_at w.allocations i)).fresh)
    bit on i u true is =
        ap (λ (y : Cell). has_bit (slice_index w.now.words.snapshot y.page) y.index) (x.others i u is)
        ∙ unset_in_snapshot cell.page cell.index q x.unset ∙ sym (rw is)
    bit on i u false is = s.quarantined on i u ∙ sym (rw is)

pub snapshot_of_quar : {c : Config} {w : World} (seat : Seat) (p n : ℕ) → Before c w
    → Meets c w.now seat (Step.Quar p n) → LayoutStands c w → IsQuarantined c w → KeepsSnapshot c w
    → HasSnapshot c (is_cycling (phase_of w.now.words)) (slice_set w.now.words.snapshot p (n / 2 ^ 32))
    (map (freed_where_it_stands w.now.words (cell_freed c.pages w.now.words (flight_of w.now seat) p n)) w.allocations)
snapshot_of_quar {c} {w} seat p n b h laid q s = by (cell_freed c.pages w.now.words (flight_of w.now seat) p n) refl
  where
    ls : p < length w.now.words.snapshot
    ls = let lt = ltb-true p c.pages h.range in let len = b.lengths.snapshot in omega arith

    by : (cell : Option Cell) → cell_freed c.pages w.now.words (flight_of w.now seat) p n ≡ cell
        → HasSnapshot c (is_cycling (phase_of w.now.words)) (slice_set w.now.words.snapshot p (n / 2 ^ 32))
        (map (freed_where_it_stands w.now.words cell) w.allocations)
    by None is = rw (none_freed w.now.words w.allocations)
        (quar_none c w (flight_of w.now seat) p n ls is (quarantine_step c w.now _ p n h.holder) q s)
    by (Some cell) is =
        let x = freed_cell c.pages w.now.words _ p n cell is in
        rw x.page (quar_frees (frees_here seat b h laid x) (rw x.phase at q) s)

-- Whether the phase is one of a cycle's, after each kind of event.

-- whether the phase is one of a cycle's after a step
abbrev pub is_cycling_behind : Step → Bool → Bool
is_cycling_behind Step.Begin b = true
is_cycling_behind Step.End b = false
is_cycling_behind _ b = b

pub cycle_kind : (c : Config) (w : World) (seat : Seat) (x : Step) → Meets c w.now seat x
    → is_cycling (phase_of (WorldBehind c w seat x).now.words) ≡ is_cycling_behind x (is_cycling (phase_of w.now.words))
cycle_kind c w seat x h = grind (arith, phase_moves, phase_asked)

-- `begin`: what is freed is in the snapshot, and nothing is fresh
begin_kind : {c : Config} {w : World} → Before c w → is_phase w.now.words 0 ≡ true
    → may_begin c.pages w.now.words ≡ true → LayoutStands c w → IsQuarantined c w
    → HasSnapshot c true w.now.words.snapshot (map no_longer_fresh w.allocations)
begin_kind {c} {w} b quiet own laid q = record {
  fresh = λ i f. absurd (true≢false (sym f ∙ rw (at i)));
  quarantined = λ on i u.
      let x = before_change c w.allocations i fresh_cells u in
      ap (λ (y : Cell). has_bit (slice_index w.now.words.snapshot y.page) y.index) x.cell
      ∙ bit i x.was (cases_Bool (placed_at w.allocations i).freed) ∙ sym (rw (at i));
}
  where
    at : (i : ℕ) → placed_at (map no_longer_fresh w.allocations) i ≡ no_longer_fresh (placed_at w.allocations i)
    at i = changed_at no_longer_fresh w.allocations i refl

    taken : (p : ℕ) → p < c.pages → slice_index w.now.words.freed p ≡ slice_index w.now.words.snapshot p
    taken p lt =
        let clean : Bool = (slice_index w.now.words.marks p == 0) && (slice_index w.now.words.blacks p == 0) in
        let all = (and_parts (all_below c.pages (has_clean_page w.now.words)) (w.now.words.fresh == 0) own).0 in
        eqb-true _ _ (and_parts clean (slice_index w.now.words.freed p == slice_index w.now.words.snapshot p)
        (all_below-at c.pages p (has_clean_page w.now.words) all lt)).1

    bit : (i : ℕ) → (placed_at w.allocations i).released ≡ false
        → ((placed_at w.allocations i).freed ≡ true) ⊎ ((placed_at w.allocations i).freed ≡ false)
        → has_bit_of c w.now.words.snapshot (placed_at w.allocations i) ≡ ((placed_at w.allocations i).freed && true)
    bit i u (inl f) = grind (arith, shown_at, pages_some, taken)
    bit i u (inr f) = grind (arith, false_from_ne_true, off_at, numbers_apart, apart_left)

-- `grant`: the new cell isn't in the snapshot
grant_kind : {c : Config} {w : World} (seat : Seat) → Before c w → Meets c w.now seat Step.Grant → LayoutStands c w
    → IsQuarantined c w → KeepsSnapshot c w → HasSnapshot c (is_cycling (phase_of w.now.words)) w.now.words.snapshot
    (w.allocations ++ granted c w.now (flight_of w.now seat) ∷ [])
grant_kind {c} {w} seat b h laid q s = record {
  fresh = grind (arith, pushed_any);
  quarantined = λ on i u. elim (pushed_at w.allocations a i u) [
    | inl old ↦ ap (λ (x : PlacedAllocation). has_bit_of c w.now.words.snapshot x) old.1 ∙ s.quarantined on i old.0
        ∙ sym (ap (λ (x : PlacedAllocation). x.freed && not x.fresh) old.1)
    | inr new ↦ ap (λ (x : PlacedAllocation). has_bit_of c w.now.words.snapshot x) new ∙ outside
        w.now.seats.holding.placing refl h.holder ∙ sym (ap (λ (x : PlacedAllocation). x.freed && not x.fresh) new)
  ];
}
  where
    a : PlacedAllocation
    a = granted c w.now (flight_of w.now seat)

    new : is_undecided_new (flight_of w.now seat) ≡ true
    new = grants_new c w.now seat h

    outside : (placing : Placing) → w.now.seats.holding.placing ≡ placing → is_used_once placing ≡ true
        → has_bit_of c w.now.words.snapshot (granted c w.now (flight_of w.now seat)) ≡ false
    outside (Used place) is k =
        let f : Flight = flight_of w.now seat in
        let o : Object = object_placed c a in
        let made = granted_object c w.now f new in
        let own : object_now c w.now ≡ o = holding_object c w.now seat b.known (new_has_turn c w.now seat h.seat new)
        ∙ sym made in
        let base = granted_base_is c f w.now.seats.holding.placing place is ∙ rw (← made) in
        let there : Among (place_claim o place) (claims_placed o w.now.seats.holding.placing) = rw is (inl refl) in
        let shown = (rw own at laid).scene.shown
        (place_claim o place) (placed_claim c o (ground_of w) (place_claim o place) there) in
        let cell = place_index c a place shown.sized base shown.known in
        rw cell.0 (rw cell.1 (unset_in_snapshot place.page place.index q (q.taken place is)))
    outside _ is k = cc

-- `release`: what is fresh isn't released
release_kind : {c : Config} {w : World} → Before c w → is_phase w.now.words 3 ≡ true → LayoutStands c w
    → KeepsSnapshot c w → HasSnapshot c (is_cycling (phase_of w.now.words)) w.now.words.snapshot
    (map (with_released c w.now.words) w.allocations)
release_kind {c} {w} b three laid s = record {
  fresh = λ i f.
      let g : PlacedAllocation = with_released c w.now.words (placed_at w.allocations i) in
      let was = s.fresh i (ap (λ (x : PlacedAllocation). x.fresh) (sym (at i)) ∙ f) in (
        rw (at i) was.0,
        rw (at i) (stays i was.0 was.1 (ap (λ (x : PlacedAllocation). x.fresh) (sym (at i)) ∙ f)),
      );
  quarantined = λ on i u. grind (arith, before_change, releasing_leaves);
}
  where
    at : (i : ℕ) → placed_at (map (with_released c w.now.words) w.allocations) i
        ≡ with_released c w.now.words (placed_at w.allocations i)
    at i = changed_at _ w.allocations i (released_leaves c w.now.words).none

    none_of : (f g : Bool) → f ≡ true → g ≡ true → (f && not g) ≡ false
    none_of f g ef eg = rw ef (ap not eg)

    stays : (i : ℕ) → (placed_at w.allocations i).freed ≡ true → (placed_at w.allocations i).released ≡ false
        → (placed_at w.allocations i).fresh ≡ true
        → (with_released c w.now.words (placed_at w.allocations i)).released ≡ false
    stays i f u fresh =
        let a : PlacedAllocation = placed_at w.allocations i in
        let x : Cell = cell_of_allocation c a in
        let off = rw (off_at w 3 three (λ e. absurd (omega arith))) at laid in
        let on : is_cycling (phase_of w.now.words) ≡ true = rw (eqb-true _ 3 three) in
        left_is b.limits (all_stand c _ false w b.lengths.pages off i u)
        ∙ rw (s.quarantined on i u ∙ none_of a.freed a.fresh f fresh)

-- each kind of event, whatever the seat
pub snapshot_by_kind : {c : Config} {w : World} (seat : Seat) (x : Step) → Before c w → Meets c w.now seat x
    → LayoutStands c w → IsQuarantined c w → KeepsSnapshot c w
    → HasSnapshot c (is_cycling_behind x (is_cycling (phase_of w.now.words)))
    (WorldBehind c w seat x).now.words.snapshot (WorldBehind c w seat x).allocations
snapshot_by_kind {c} {w} seat Step.Reg b h laid q s = rw (reg_leaves_ground c w seat).snapshot s
snapshot_by_kind seat x3 b h laid q s =
    grind (arith, tally_ground, snapshot_of_quar, begin_kind, grant_kind, release_kind)

pub snapshot_behind : {c : Config} {w : World} (seat : Seat) (x : Step) → Before c w → Meets c w.now seat x
    → LayoutStands c w → IsQuarantined c w → KeepsSnapshot c w → KeepsSnapshot c (WorldBehind c w seat x)
snapshot_behind {c} {w} seat x b h laid q s = rw (cycle_kind c w seat x h) (snapshot_by_kind seat x b h laid q s)
