-- Along the marking of a cycle without a sweeping mark, all that is marked or held is touched.
use Rattle.mk_laws.proofs.Vocabulary.{AreEnabledFrom, Config, Event, IsHistory, IsMarking, List, Marking, Step, World}
use Rattle.mk_laws.proofs.Vocabulary.{ℕ, ap, append-nil, append_assoc, arith, before_close, earlier_part_is_history}
use Rattle.mk_laws.proofs.Vocabulary.{enabled_in_parts, enabled_meets, eqb-true, false, flight_of, inl, is_begin}
use Rattle.mk_laws.proofs.Vocabulary.{is_close, is_release, left, left_more, list_any, never_behind, or_from, or_parts}
use Rattle.mk_laws.proofs.Vocabulary.{refl, subst, sym, through, world_behind, [], ◌++◌, ◌∙◌, ◌∷◌, ◌≡◌}
use Rattle.mk_laws.proofs.{Basics.{Meets, WorldBehind, begin_is, known_world}, OneStep.{precise_begun, precise_behind}}
use Rattle.mk_laws.proofs.{Precise.{IsClosedIn, IsPrecise, Steps}, InvariantHistories.histories_keep_the_invariant}
use Rattle.mk_laws.proofs.{PhaseSteps.marking_goes_on, Worlds.Told}
use Rattle.mk_core.specs.Cycles.{IsTouched, LeadsToMoment, by_global, by_register, by_word}
use Rattle.mk_core.specs.Cycles.{NoneSweepsFrom, sweeps}

-- what is known after a history
pub told : {c : Config} {es : List Event} → IsHistory c es → Told c (left c es) (never_behind c es)
told {c} {es} h =
    record { known = known_world c es h.within_limits h.enabled; all = histories_keep_the_invariant c es h }

-- one event more
pub record More (c : Config) (front : List Event) (e : Event) : Type 0 where
  pub history : IsHistory c front
  pub meets : Meets c (left c front).now e.seat e.step
  pub left : left c (front ++ e ∷ []) ≡ world_behind c (left c front) e

pub one_more : (c : Config) (front : List Event) (e : Event) → IsHistory c (front ++ e ∷ []) → More c front e
unfolding AreEnabledFrom
one_more c front e h = grind (arith, earlier_part_is_history, enabled_meets, enabled_in_parts, left_more)

-- what stands at a moment of the marking
pub record AtMoment (c : Config) (T : ℕ → Type 0) (front : List Event) : Type 0 where
  pub history : IsHistory c front
  pub early : IsMarking (left c front).now.words
  pub precise : IsPrecise c (left c front) T

-- At a moment of the cycle what is touched is closed.
closed_at : (c : Config) {es : List Event} {k : Marking es} {front : List Event} → LeadsToMoment k front
    → IsClosedIn c (left c front) (never_behind c front) (IsTouched c k)
closed_at c {front = front} at = record {
  registers = λ i b points. by_register front i b at points;
  globals = λ g b points. by_global front g b at points;
  words = λ a x touched inside b points. by_word front a x b at touched inside points;
}

-- one event of the marking
moment_behind : {c : Config} {es : List Event} {k : Marking es} {front : List Event} (e : Event)
    → IsHistory c (front ++ e ∷ []) → LeadsToMoment k front → LeadsToMoment k (front ++ e ∷ [])
    → is_close e.step ≡ false → sweeps c (left c front).now (flight_of (left c front).now e.seat) e.step ≡ false
    → AtMoment c (IsTouched c k) front → AtMoment c (IsTouched c k) (front ++ e ∷ [])
moment_behind {c} {es} {k} {front} e h here there other unswept at =
    let m = one_more c front e h in
    let w : World = left c front in
    let s : Steps c w (never_behind c front) e.seat e.step (never_behind c (front ++ e ∷ [])) (IsTouched c k) = record {
      before = told at.history;
      behind = rw m.left at (told h);
      meets = m.meets;
      early = at.early;
      unswept = unswept;
      here = closed_at c here;
      there = rw m.left at (closed_at c there);
    } in
    record {
      history = h;
      early = rw m.left (marking_goes_on c w.now e.seat e.step at.early m.meets other).early;
      precise = rw m.left (precise_behind c w (never_behind c front) e.seat e.step _ (IsTouched c k) s at.precise);
    }

-- what stands at the end of the marking, and that no `begin` and no `release` came since
pub record Marked (c : Config) {es : List Event} (k : Marking es) (rest : List Event) : Type 0 where
  pub at : AtMoment c (IsTouched c k) (before_close k)
  pub begun : list_any (λ (e : Event). is_begin e.step) rest ≡ false
  pub released : list_any (λ (e : Event). is_release e.step) rest ≡ false

along : (c : Config) {es : List Event} (k : Marking es) (done rest : List Event) → k.close.at.before ≡ done ++ rest
    → IsHistory c (through k.begin ++ (done ++ rest)) → list_any (λ (e : Event). is_close e.step) rest ≡ false
    → NoneSweepsFrom c (left c (through k.begin ++ done)) rest
    → AtMoment c (IsTouched c k) (through k.begin ++ done) → Marked c k rest
unfolding NoneSweepsFrom
along c k done [] is h none unswept at = grind (arith, append-nil)
along c {es = es} k done (e ∷ rest) is h none unswept at =
    let first : List Event = through k.begin in
    let front : List Event = first ++ done in
    let split : done ++ e ∷ rest ≡ (done ++ e ∷ []) ++ rest = sym (append_assoc done (e ∷ []) rest) in
    let longer : front ++ e ∷ [] ≡ first ++ (done ++ e ∷ []) = append_assoc first done (e ∷ []) in
    let whole : IsHistory c (first ++ ((done ++ e ∷ []) ++ rest)) = rw split at h in
    let next : IsHistory c (front ++ e ∷ []) = rw longer (earlier_part_is_history c (first ++ (done ++ e ∷ [])) rest
    (rw (append_assoc first (done ++ e ∷ []) rest) whole)) in
    let here : LeadsToMoment k front = record { done = done; to_come = e ∷ rest; of_the_cycle = is; is = refl } in
    let there : LeadsToMoment k (front ++ e ∷ []) =
    record { done = done ++ e ∷ []; to_come = rest; of_the_cycle = is ∙ split; is = longer } in
    let parts = or_parts _ (list_any (λ (x : Event). is_close x.step) rest) none in
    let m = one_more c front e next in
    let behind = moment_behind e next here there parts.0 unswept.0 at in
    let left_is : world_behind c (left c front) e ≡ left c (first ++ (done ++ e ∷ [])) = sym m.left ∙ rw longer in
    let end = along c k (done ++ e ∷ []) rest (is ∙ split) whole parts.1 (rw left_is at unswept.1)
    (rw longer at behind) in
    let on = marking_goes_on c _ e.seat e.step at.early m.meets parts.0 in
    record {
      at = end.at;
      begun = or_from _ (list_any (λ (x : Event). is_begin x.step) rest) on.begun end.begun;
      released = or_from _ (list_any (λ (x : Event). is_release x.step) rest) on.released end.released;
    }

-- after the `begin`
at_begin : {c : Config} {es : List Event} (k : Marking es) → IsHistory c (through k.begin)
    → AtMoment c (IsTouched c k) (through k.begin)
at_begin {c} k h =
    let e : Event = k.begin.event in
    let m = one_more c k.begin.before e h in
    let w : World = left c k.begin.before in
    let is = begin_is e.step k.begin.of_kind in
    let meets : Meets c w.now e.seat Step.Begin = subst (Meets c w.now e.seat) is m.meets in
    let left_is = ap (WorldBehind c w e.seat) (sym is) ∙ sym m.left in
    record {
      history = h;
      early = subst (λ (v : World). IsMarking v.now.words) left_is (inl (omega (arith, eqb-true _ 0 meets.phase)));
      precise = subst (λ (v : World). IsPrecise c v (IsTouched c k)) left_is (precise_begun c w e.seat (IsTouched c k)
          (known_world c k.begin.before m.history.within_limits m.history.enabled) meets);
    }

-- At the `close` all that is marked is touched.
pub marked_at_close : {c : Config} {es : List Event} (k : Marking es) → IsHistory c (before_close k)
    → NoneSweepsFrom c (left c (through k.begin)) k.close.at.before → Marked c k k.close.at.before
marked_at_close {c} {es} k h unswept =
    let first : List Event = through k.begin in
    let start : first ++ [] ≡ first = append-nil first in
    let began : IsHistory c first = earlier_part_is_history c first k.close.at.before h in
    along c k [] k.close.at.before refl h k.close.none_before (rw start unswept) (rw start (at_begin k began))
