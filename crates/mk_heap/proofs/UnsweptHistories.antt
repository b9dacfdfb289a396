-- A history none of whose seats makes a sweeping mark has none, nor has a cycle of it.
use Rattle.mk_alloc.proofs.Below.Laws.Vocabulary.{Config, Event, List, Marker, Marking, Seat, World, ℕ, append_assoc}
use Rattle.mk_alloc.proofs.Below.Laws.Vocabulary.{arith, first_world, flight_of, left, seat_exists, subst, sym}
use Rattle.mk_alloc.proofs.Below.Laws.Vocabulary.{through, true, world_behind, [], ◌++◌, ◌∙◌, ◌∷◌, ◌≡◌}
use Rattle.mk_core.proofs.Conditions.{enabled_events_meet_all}
use Rattle.mk_core.specs.{Cycles.{NoneSweeps, NoneSweepsFrom}, History.{AreEnabledFrom, left_from}}
use Rattle.mk_alloc.specs.Below.Callers.Below.Laws.{Releases.CyclesArePrecise, Promises.KeepsAllPromises}
use Rattle.mk_heap.specs.Unswept.{IsUnswept}
use Rattle.mk_alloc.proofs.Below.Words.{Sweeping.other_steps_sweep, Seats.same_self}
use Rattle.mk_alloc.specs.Below.Words.Sweeping.{SweepsNothingFrom}

-- A marker makes none: its marks are of a kind of their own.

pub markers_sweep : (c : Config) (j : ℕ) (w : World) (es : List Event) → AreEnabledFrom c w es
    → SweepsNothingFrom c (Marker j) w es
unfolding SweepsNothingFrom AreEnabledFrom
markers_sweep c j w [] enabled = tt
markers_sweep c j w (e ∷ es) enabled =
    let meets = (enabled_events_meet_all c w.now e).0 enabled.0 in (
      λ same. other_steps_sweep c w.now (flight_of w.now e.seat) e.step (grind arith),
      markers_sweep c j (world_behind c w e) es enabled.1,
    )

-- What no seat does, nobody does.
pub none_sweeps : (c : Config) (w : World) (es : List Event) → AreEnabledFrom c w es
    → ((s : Seat) → seat_exists c s ≡ true → SweepsNothingFrom c s w es) → NoneSweepsFrom c w es
unfolding SweepsNothingFrom AreEnabledFrom NoneSweepsFrom
none_sweeps c w [] enabled each = tt
none_sweeps c w (e ∷ es) enabled each =
    let meets = (enabled_events_meet_all c w.now e).0 enabled.0 in (
      (each e.seat meets.seat).0 (same_self e.seat),
      none_sweeps c (world_behind c w e) es enabled.1 (λ s exists. (each s exists).1),
    )

-- parts of a list

none_first : (c : Config) (w : World) (xs ys : List Event) → NoneSweepsFrom c w (xs ++ ys) → NoneSweepsFrom c w xs
unfolding NoneSweepsFrom
none_first c w [] ys none = tt
none_first c w (e ∷ es) ys none = (none.0, none_first c (world_behind c w e) es ys none.1)

none_second : (c : Config) (w : World) (xs ys : List Event) → NoneSweepsFrom c w (xs ++ ys)
    → NoneSweepsFrom c (left_from c w xs) ys
unfolding NoneSweepsFrom left_from
none_second c w [] ys none = none
none_second c w (e ∷ es) ys none = none_second c (world_behind c w e) es ys none.1

pub cycle_is_unswept : (c : Config) {es : List Event} (k : Marking es) → IsUnswept c es → NoneSweeps c k
cycle_is_unswept c k none =
    let at = k.close.at in
    let whole : IsUnswept c (through k.begin ++ k.begin.behind) =
    rw (k.begin.is ∙ sym (append_assoc k.begin.before (k.begin.event ∷ []) k.begin.behind)) at none in
    let behind = none_second c (first_world c) (through k.begin) k.begin.behind whole in
    none_first c (left c (through k.begin)) at.before (at.event ∷ at.behind)
    (subst (λ (l : List Event). NoneSweepsFrom c (left c (through k.begin)) l) at.is behind)

pub unswept_is_precise : (c : Config) (es : List Event) → KeepsAllPromises c es → IsUnswept c es → CyclesArePrecise c es
unswept_is_precise c es kept none = record {
  releases = λ k. kept.precise k (cycle_is_unswept c k.marking none);
  frees = λ k. kept.freed k (cycle_is_unswept c k.releasing.marking none);
}
