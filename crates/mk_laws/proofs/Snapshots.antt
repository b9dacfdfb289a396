-- From a `begin` up to its `release` the snapshot bits are those of the allocations that were in quarantine then.
use Rattle.mk_laws.proofs.Vocabulary.{AreEnabledFrom, At, Bool, Cell, Config, Event, IsFreedCell, IsHistory}
use Rattle.mk_laws.proofs.Vocabulary.{KeepsTheInvariant, List, OfHistories, PlacedAllocation, Step, World, ℕ, and_from}
use Rattle.mk_laws.proofs.Vocabulary.{and_parts, ap, arith, cell_of_allocation, enabled_in_parts, false, has_bit_of}
use Rattle.mk_laws.proofs.Vocabulary.{is_begin, is_cycling, is_quarantined, is_release, le-leb, left, left_from}
use Rattle.mk_laws.proofs.Vocabulary.{left_in_parts, list_any, never_behind, not-true, or_parts, phase_of, placed_at}
use Rattle.mk_laws.proofs.Vocabulary.{refl, sym, true, [], ◌||◌, ◌∙◌, ◌∷◌, ◌≡◌, ◌≢◌}
use Rattle.mk_core.specs.{Cells.is_in_snapshot, Readings.SnapshotsTell, Readings.SnapshotTells}
use Rattle.mk_laws.proofs.CyclePhases.{IsUnreleased, begin_is, moves_phase, none_is_released, phase_behind}
use Rattle.mk_laws.proofs.InvariantHistories.{histories_keep_the_invariant}
use Rattle.mk_laws.proofs.ReadingsKeptPlaces.{StaysPut, keeps_cell, stays_put}
use Rattle.mk_laws.proofs.{Basics.known_world, Quarantines.snapshot_is_the_cycles, ReadingsStands.freed_cell}

-- the events from a `begin` on, as a part of the list

pub enabled_at : {c : Config} {es : List Event} {kind : Step → Bool} (at : At kind es) → IsHistory c es
    → AreEnabledFrom c (left c at.before) (at.event ∷ at.behind)
enabled_at at h = grind (arith, enabled_in_parts)

-- An unreleased phase is one of a cycle's.
pub unreleased_cycles : (p : ℕ) → IsUnreleased p → (is_cycling p ≡ true) × (p ≢ 4)
unreleased_cycles p u = grind (arith, and_from, le-leb)

either_kind : (es : List Event) → list_any (λ (e : Event). is_begin e.step || is_release e.step) es ≡ false
    → (list_any (λ (e : Event). is_begin e.step) es ≡ false) × (list_any (λ (e : Event). is_release e.step) es ≡ false)
either_kind [] none = (refl, refl)
either_kind (e ∷ es) none =
    let kinds = or_parts _ _ (or_parts _ _ none).0 in
    let rest = either_kind es (or_parts _ _ none).1 in (
      ap (λ b. b || list_any (λ (x : Event). is_begin x.step) es) kinds.0 ∙ rest.0,
      ap (λ b. b || list_any (λ (x : Event). is_release x.step) es) kinds.1 ∙ rest.1,
    )

module _ (c : Config) (es : List Event) (h : IsHistory c es) (begin : At is_begin es)
    (none : list_any (λ (e : Event). is_begin e.step || is_release e.step) begin.behind ≡ false) where
  -- the allocations at the `begin`, and the world now
  abbrev olds : List PlacedAllocation
  olds = (left c begin.before).allocations

  abbrev w : World
  w = left c es

  no_release : list_any (λ (e : Event). is_release e.step) begin.behind ≡ false
  no_release = (either_kind begin.behind none).1

  since : left c es ≡ left_from c (left c begin.before) (begin.event ∷ begin.behind)
  since = grind (arith, left_in_parts)

  phase : IsUnreleased (phase_of w.now.words)
  unfolding left_from
  phase =
      let on = enabled_at begin h in
      grind (arith, no_release, since, moves_phase, phase_behind, begin_is, none_is_released)

  all : KeepsTheInvariant c es
  all = histories_keep_the_invariant c es h

  snapshot_is : (i : ℕ) → (placed_at w.allocations i).released ≡ false
      → has_bit_of c w.now.words.snapshot (placed_at w.allocations i) ≡ is_quarantined (placed_at olds i)
  snapshot_is = snapshot_is_the_cycles c es h begin (either_kind begin.behind none).0 (unreleased_cycles _ phase).0

  put_quarantined : (i : ℕ) → is_quarantined (placed_at olds i) ≡ true
      → StaysPut (placed_at olds i) (placed_at w.allocations i)
  put_quarantined i q = grind (arith, olds, not-true, and_parts, begin_is, no_release, since, stays_put)

  same_cell : (i : ℕ) → is_quarantined (placed_at olds i) ≡ true
      → cell_of_allocation c (placed_at w.allocations i) ≡ cell_of_allocation c (placed_at olds i)
  same_cell i q = keeps_cell c _ _ (put_quarantined i q)

  is_of : (cell : Cell) → is_in_snapshot w.now.words cell ≡ true → IsFreedCell c w.allocations cell.page cell.index
      → (i : ℕ) × (is_quarantined (placed_at olds i) ≡ true) × (cell_of_allocation c (placed_at olds i) ≡ cell)
  is_of cell bit o = grind (arith, olds, snapshot_is, same_cell)

  pub told : SnapshotTells c begin
  told = record {
    has = λ i q. ap (λ (x : Cell). is_in_snapshot w.now.words x) (sym (same_cell i q))
        ∙ snapshot_is i (put_quarantined i q).unreleased ∙ q;
    is = λ cell bit.
        let known = known_world c es h.within_limits h.enabled in
        let quiet = (unreleased_cycles _ phase).1 in
        let freed = all.order.quarantined.within cell.page cell.index bit in
        is_of cell bit (freed_cell c w (never_behind c es) known all quiet cell freed);
  }

pub snapshots_tell : OfHistories SnapshotsTell
snapshots_tell c es h begin none = told c es h begin none
