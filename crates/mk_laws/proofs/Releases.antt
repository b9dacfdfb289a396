-- What a cycle's `release` releases.
use Rattle.mk_laws.proofs.Vocabulary.{AreEnabledFrom, At, Bool, Config, Event, IsHistory, List, NeverState, OfHistories}
use Rattle.mk_laws.proofs.Vocabulary.{PlacedAllocation, Releasing, Step, World, ℕ, and_from, and_parts, ap}
use Rattle.mk_laws.proofs.Vocabulary.{append_assoc, arith, before_release, calls_from, cell_of_allocation, changed_at}
use Rattle.mk_laws.proofs.Vocabulary.{earlier_part_is_history, enabled_in_parts, enabled_parts, false, flight_of}
use Rattle.mk_laws.proofs.Vocabulary.{has_bit_of, has_bit_without, is_begin, is_close, is_marked, is_quarantined}
use Rattle.mk_laws.proofs.Vocabulary.{is_release, left, left_from, left_in_parts, list_any, list_any-append, map}
use Rattle.mk_laws.proofs.Vocabulary.{never_behind, never_in_parts, not, not-true, phase_of, placed_at, released_leaves}
use Rattle.mk_laws.proofs.Vocabulary.{released_where_left, subst, sym, true, with_released, [], ◌&&◌, ◌++◌, ◌↔◌, ◌∙◌}
use Rattle.mk_laws.proofs.{Vocabulary.{◌∷◌, ◌≡◌}, CyclePhases.{AsksPhase, IsUnreleased, begin_is, close_is}}
use Rattle.mk_laws.proofs.CyclePhases.{marking_goes_on, moves_phase, none_is_released, phase_behind, release_is}
use Rattle.mk_laws.proofs.{InvariantHistories.{allocations_stand, reach_is_kept}, Quarantines.snapshot_is_the_cycles}
use Rattle.mk_laws.proofs.{ReadingsKeptPlaces.stays_put, Snapshots.{enabled_at, unreleased_cycles}}
use Rattle.mk_laws.{proofs.Stretches.{at_release, history_through}, specs.Releases.{allocation_behind}}
use Rattle.mk_never.specs.Laws.{IsReachable}
use Rattle.mk_core.specs.Allocations.{allocations_by}
use Rattle.mk_laws.specs.Releases.{NoOthersRelease, ReleasesAreExact, ReleasesNoneReached, allocation_before}

-- No other cycle begins between a `begin` and its `release`.
none_begins : (c : Config) (w : World) (b x : Event) (ys zs : List Event) → AreEnabledFrom c w (b ∷ (ys ++ x ∷ zs))
    → is_begin b.step ≡ true → list_any (λ (e : Event). is_close e.step) ys ≡ false → is_close x.step ≡ true → list_any
    (λ (e : Event). is_release e.step) zs ≡ false → list_any (λ (e : Event). is_begin e.step) (ys ++ x ∷ zs) ≡ false
none_begins c w b x ys zs on begins no_close closes no_release =
    let first = moves_phase c w b (ys ++ x ∷ zs) on in
    let one = first.1 ∙ ap (λ (s : Step). phase_behind s (phase_of w.now.words)) (begin_is b.step begins) in
    let parts = enabled_parts c _ ys (x ∷ zs) first.2 in
    grind (arith, marking_goes_on, moves_phase, phase_behind, close_is, list_any-append, none_is_released)

never_stays : (c : Config) (es : List Event) (e : Event) → is_release e.step ≡ true
    → never_behind c (es ++ e ∷ []) ≡ never_behind c es
unfolding calls_from
never_stays c es e is = grind (arith, release_is, never_in_parts)

module _ (c : Config) (es : List Event) (h : IsHistory c es) (r : Releasing es) where
  abbrev begin : At is_begin es
  begin = r.marking.begin

  abbrev close : At is_close begin.behind
  close = r.marking.close.at

  abbrev last : At is_release close.behind
  last = r.release.at

  abbrev front : List Event
  front = before_release r

  -- the world before the `release`
  abbrev w : World
  w = left c front

  whole : IsHistory c (front ++ last.event ∷ last.behind)
  whole = subst (IsHistory c) (at_release r) h

  before_is_history : IsHistory c front
  before_is_history = earlier_part_is_history c front (last.event ∷ last.behind) whole

  behind_is_history : IsHistory c (front ++ last.event ∷ [])
  behind_is_history = history_through c es front last.behind last.event h (at_release r)

  -- the `begin`, in the list up to the `release`
  abbrev begin_at : At is_begin front
  begin_at = record {
    before = begin.before;
    event = begin.event;
    behind = close.before ++ close.event ∷ last.before;
    is = append_assoc (begin.before ++ begin.event ∷ []) close.before (close.event ∷ last.before) ∙ append_assoc
        begin.before (begin.event ∷ []) (close.before ++ close.event ∷ last.before);
    of_kind = begin.of_kind;
  }

  no_other : list_any (λ (e : Event). is_begin e.step) begin_at.behind ≡ false
  no_other = none_begins c _ begin.event close.event close.before last.before (enabled_at begin_at before_is_history)
      begin.of_kind r.marking.close.none_before close.of_kind r.release.none_before

  releases : last.event.step ≡ Step.Release
  releases = release_is last.event.step last.of_kind

  stopped : phase_of w.now.words ≡ 3
  stopped =
      let on = ((enabled_in_parts c front (last.event ∷ last.behind)).0 whole.enabled).1 in
      subst (λ (x : Step). AsksPhase x (phase_of w.now.words)) releases (moves_phase c w last.event last.behind on).0

  snapshot_is : (i : ℕ) → (placed_at w.allocations i).released ≡ false → has_bit_of c w.now.words.snapshot
      (placed_at w.allocations i) ≡ is_quarantined (placed_at (left c begin.before).allocations i)
  snapshot_is =
      let at = stopped in
      let phase : IsUnreleased (phase_of w.now.words) = record { least = omega arith; most = omega arith } in
      snapshot_is_the_cycles c front before_is_history begin_at no_other (unreleased_cycles _ phase).0

  abbrev in_snapshot : ℕ → Bool
  in_snapshot i = is_quarantined (placed_at (left c begin.before).allocations i)

  abbrev marked : ℕ → Bool
  marked i = is_marked w.now.words (cell_of_allocation c (placed_at w.allocations i))

  -- What the `release` makes of an unreleased allocation.
  released_is : (i : ℕ) → (placed_at w.allocations i).released ≡ false
      → (allocation_behind c r i).released ≡ (in_snapshot i && not (marked i))
  unfolding left_from
  released_is i u =
      let a : PlacedAllocation = placed_at w.allocations i in
      let s = allocations_stand c front before_is_history i u in
      let by_kind : allocations_by c w.now (flight_of w.now last.event.seat) last.event.step w.allocations
      ≡ map (with_released c w.now.words) w.allocations =
      ap (λ (x : Step). allocations_by c w.now (flight_of w.now last.event.seat) x w.allocations) releases in
      let changed : (left c (front ++ last.event ∷ [])).allocations ≡ map (with_released c w.now.words) w.allocations =
      ap (λ (v : World). v.allocations) (left_in_parts c front (last.event ∷ [])) ∙ by_kind in
      grind (arith, changed_at, released_leaves, released_where_left, has_bit_without, marked, snapshot_is)

  pub exact : (i : ℕ) → (allocation_before c r i).released ≡ false
      → ((allocation_behind c r i).released ≡ true) ↔ ((in_snapshot i ≡ true) × (marked i ≡ false))
  exact i u = grind (arith, and_parts, in_snapshot, released_is, not-true, marked, and_from)

  pub none_reached : (number : ℕ) → IsReachable (never_behind c front) number
      → (allocation_behind c r number).released ≡ false
  none_reached number reached = reach_is_kept c _ behind_is_history number
      (subst (λ (n : NeverState). IsReachable n number) (sym (never_stays c front last.event last.of_kind)) reached)

pub releases_are_exact : OfHistories ReleasesAreExact
releases_are_exact c es h r = exact c es h r

pub releases_none_reached : OfHistories ReleasesNoneReached
releases_none_reached c es h r = none_reached c es h r

pub no_others_release : OfHistories NoOthersRelease
no_others_release c es h front rest e is other i u = grind (arith, left_in_parts, stays_put)

pub ruleset releases_are_exact_facts = (releases_are_exact, releases_none_reached, no_others_release)
