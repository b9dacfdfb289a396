-- From a cycle's `close` to its `release` all that is marked is touched. The `release` releases the rest of the
-- snapshot.
use Rattle.mk_laws.proofs.Vocabulary.{At, Bool, Config, Event, IsHistory, List, OfHistories, PlacedAllocation}
use Rattle.mk_laws.proofs.Vocabulary.{Releasing, Seat, Step, World, ℕ, ap, append_assoc, arith, before_close}
use Rattle.mk_laws.proofs.Vocabulary.{before_release, cell_of_allocation, changed_at, earlier_part_is_history}
use Rattle.mk_laws.proofs.Vocabulary.{enabled_in_parts, eqb-true, false, has_bit_of, has_bit_without, is_begin}
use Rattle.mk_laws.proofs.Vocabulary.{is_close, is_cycling, is_left_unmarked, is_marked, is_release, left, list_any}
use Rattle.mk_laws.proofs.Vocabulary.{not, or_from, or_parts, phase_of, placed_at, refl, released_where_left, sym}
use Rattle.mk_laws.proofs.Vocabulary.{through, through_release, true, with_released, [], ◌&&◌, ◌++◌, ◌∙◌, ◌∷◌, ◌≡◌}
use Rattle.mk_laws.proofs.Basics.{Known, Meets, WorldBehind, is_grant, release_is, same_cell}
use Rattle.mk_laws.proofs.{Marking.{marked_at_close, one_more, told}, Stretches.{None_of, along_without, at_close}}
use Rattle.mk_laws.proofs.{Stretches.{at_release, history_through, none_joined}, Worlds.{headers, stands}}
use Rattle.mk_laws.proofs.{CyclePhases.none_is_released, GuardStopped.leaves_closed, PhaseSteps.stopped_waits}
use Rattle.mk_laws.proofs.{Precise.came_behind, ProtocolStepKinds.close_is, Quarantines.snapshot_is_the_cycles}
use Rattle.mk_core.specs.Cycles.{NoneSweeps, IsTouched}
use Rattle.mk_laws.specs.Releases.{KeepsOnlyTheTouched, ReleasesTheUntouched}

-- All that is marked is of the set.
abbrev pub IsMarkedOnly : Config → World → (ℕ → Type 0) → Type 0
IsMarkedOnly c w T = (b : ℕ) → (placed_at w.allocations b).released ≡ false → is_marked w.now.words
    (cell_of_allocation c (placed_at w.allocations b)) ≡ true → T b

-- what stands after the `close`, up to the `release`
record AtStop (c : Config) (T : ℕ → Type 0) (es : List Event) : Type 0 where
  phase : phase_of (left c es).now.words ≡ 3
  marked : IsMarkedOnly c (left c es) T

-- one event that isn't the `release`
stop_behind : {c : Config} (w : World) (seat : Seat) (x : Step) (T : ℕ → Type 0) → Known c w.now → phase_of w.now.words
    ≡ 3 → Meets c w.now seat x → is_release x ≡ false → IsMarkedOnly c w T → IsMarkedOnly c (WorldBehind c w seat x) T
stop_behind w seat x T known three h other marked b u is =
    grind (arith, came_behind, stopped_waits, leaves_closed, same_cell, is_grant)

stop_goes_on : (c : Config) (T : ℕ → Type 0) (es : List Event) (e : Event) → IsHistory c (es ++ e ∷ [])
    → is_release e.step ≡ false → AtStop c T es → AtStop c T (es ++ e ∷ [])
stop_goes_on c T es e h other at =
    let m = one_more c es e h in
    let w : World = left c es in
    let known = (told m.history).known.now in
    record {
      phase = rw m.left (stopped_waits c w.now e.seat e.step at.phase m.meets other).phase;
      marked = rw m.left (stop_behind w e.seat e.step T known at.phase m.meets other at.marked);
    }

-- after the `close`
stop_begins : {c : Config} (T : ℕ → Type 0) (front : List Event) (e : Event) → IsHistory c (front ++ e ∷ [])
    → is_close e.step ≡ true → IsMarkedOnly c (left c front) T → AtStop c T (front ++ e ∷ [])
stop_begins {c} T front e h kind marked =
    let m = one_more c front e h in
    grind (arith, close_is, eqb-true)

-- what stands before the `release`
pub record AtRelease (c : Config) {es : List Event} (k : Releasing es) : Type 0 where
  pub phase : phase_of (left c (before_release k)).now.words ≡ 3
  pub marked : IsMarkedOnly c (left c (before_release k)) (IsTouched c k.marking)
  pub begun : None_of is_begin (k.marking.close.at.before ++ k.marking.close.at.event ∷ k.release.at.before)
  pub released : None_of is_release (k.marking.close.at.before ++ k.marking.close.at.event ∷ k.release.at.before)

pub at_the_release : {c : Config} {es : List Event} (k : Releasing es) → IsHistory c es → NoneSweeps c k.marking
    → AtRelease c k
at_the_release {c} {es} k h unswept =
    let e : Event = k.marking.close.at.event in
    let front : List Event = before_close k.marking in
    let more : List Event = k.release.at.before in
    let T : ℕ → Type 0 = IsTouched c k.marking in
    let closing = history_through c es front k.marking.close.at.behind e h (at_close k.marking) in
    let marked = marked_at_close k.marking (earlier_part_is_history c front (e ∷ []) closing) unswept in
    let same : (front ++ e ∷ []) ++ more ≡ before_release k = append_assoc front (e ∷ []) more in
    let releasing = history_through c es _ k.release.at.behind k.release.at.event h (at_release k) in
    let whole : IsHistory c ((front ++ e ∷ []) ++ more) =
    rw same (earlier_part_is_history c _ (k.release.at.event ∷ []) releasing) in
    let first = stop_begins T front e closing k.marking.close.at.of_kind marked.at.precise.marked in
    let at : AtStop c T ((front ++ e ∷ []) ++ more) =
    along_without c is_release (AtStop c T) (front ++ e ∷ []) more (stop_goes_on c T) whole k.release.none_before first
    in
    let on = ((enabled_in_parts c (front ++ e ∷ []) more).0 whole.enabled).1 in
    let three = first.phase in
    let begun = (none_is_released c _ more on (record { least = omega arith; most = omega arith })
    k.release.none_before).none_begins in
    record {
      phase = rw same at at.phase;
      marked = rw same at at.marked;
      begun = none_joined is_begin k.marking.close.at.before (e ∷ more) marked.begun (or_from _ (list_any
          (λ (x : Event). is_begin x.step) more) (ap is_begin (close_is e.step k.marking.close.at.of_kind)) begun);
      released = none_joined is_release k.marking.close.at.before (e ∷ more) marked.released
          (or_from _ (list_any (λ (x : Event). is_release x.step) more)
          (ap is_release (close_is e.step k.marking.close.at.of_kind)) k.release.none_before);
    }

-- the last `begin` before the `release` is the cycle's
abbrev pub last_begin : {es : List Event} (k : Releasing es) → At is_begin (before_release k)
last_begin {es} k =
    let b : At is_begin es = k.marking.begin in
    let close : List Event = k.marking.close.at.before in
    let rest : List Event = k.marking.close.at.event ∷ k.release.at.before in
    record {
      before = b.before;
      event = b.event;
      behind = close ++ rest;
      is = append_assoc (through b) close rest ∙ append_assoc b.before (b.event ∷ []) (close ++ rest);
      of_kind = b.of_kind;
    }

-- An allocation of the snapshot that a `release` leaves unreleased is marked.
kept_is_marked : (c : Config) (w : World) (i : ℕ) → has_bit_of c w.now.words.snapshot (placed_at w.allocations i) ≡ true
    → is_left_unmarked w.now.words (cell_of_allocation c (placed_at w.allocations i)) ≡ false
    → is_marked w.now.words (cell_of_allocation c (placed_at w.allocations i)) ≡ true
kept_is_marked c w i taken kept =
    not_both _ _ (sym (has_bit_without _ _ (cell_of_allocation c (placed_at w.allocations i)).index) ∙ kept) taken
  where
    not_both : (a b : Bool) → (a && not b) ≡ false → a ≡ true → b ≡ true
    not_both a b h e = grind arith

pub keeps_only_the_touched : OfHistories KeepsOnlyTheTouched
keeps_only_the_touched c es h k unswept i quarantined unreleased =
    let w : World = left c (before_release k) in
    let e : Event = k.release.at.event in
    let a : PlacedAllocation = placed_at w.allocations i in
    let releasing = history_through c es (before_release k) k.release.at.behind e h (at_release k) in
    let m = one_more c (before_release k) e releasing in
    let at = at_the_release k h unswept in
    let left_is : left c (through_release k) ≡ WorldBehind c w e.seat Step.Release =
    m.left ∙ ap (λ (x : Step). WorldBehind c w e.seat x) (release_is e.step k.release.at.of_kind) in
    let now : (with_released c w.now.words a).released ≡ false =
    cc (changed_at (with_released c w.now.words) w.allocations i refl, left_is, unreleased) in
    let u : a.released ≡ false = (or_parts a.released _ now).0 in
    let t = told m.history in
    let taken : has_bit_of c w.now.words.snapshot a ≡ true =
    snapshot_is_the_cycles c _ m.history (last_begin k) at.begun (ap is_cycling at.phase) i u ∙ quarantined in
    let kept = sym (released_where_left c w.now.words a h.within_limits (stands c w _ t i u) (headers c w _ t i u))
    ∙ now in
    at.marked i u (kept_is_marked c w i taken kept)

-- What isn't touched is released.
pub releases_the_untouched : OfHistories ReleasesTheUntouched
releases_the_untouched c es h k unswept i quarantined untouched = grind (arith, keeps_only_the_touched)

pub ruleset untouched_is_released_facts = (keeps_only_the_touched, releases_the_untouched)
