-- Each `release` of a history is that of a cycle.
use Rattle.mk_laws.proofs.Vocabulary.{Config, Event, IsHistory, List, Marking, OfHistories, Releasing, Seat, Step, ℕ}
use Rattle.mk_laws.proofs.Vocabulary.{arith, before_release, earlier_part_is_history, enabled_in_parts, false}
use Rattle.mk_laws.proofs.Vocabulary.{first_world, inl, inr, is_release, left, left_from, left_more, list_any, phase_of}
use Rattle.mk_laws.proofs.{Vocabulary.{refl, subst, sym, [], ◌++◌, ◌∷◌, ◌≡◌}, Basics.{KeptByEvents, before_it}}
use Rattle.mk_laws.proofs.{Basics.holds_of_histories, CyclePhases.{AsksPhase, IsUnreleased, moves_phase, phase_asked}}
use Rattle.mk_laws.proofs.{CyclePhases.{phase_behind, phase_moves}, OwnCycles.{Marks, Releases, Stops, UnderWay}}
use Rattle.mk_laws.proofs.{OwnCycles.{closes, on_way, wants}, Longer.{at_end, longer_marking}, Stretches.at_close}
use Rattle.mk_laws.specs.Releases.{ReleasesAreOfCycles}

-- From a `begin` up to its `release` a cycle is under way.

pub record HasClosed (es : List Event) : Type 0 where
  pub marking : Marking es
  pub unreleased : list_any (λ (e : Event). is_release e.step) marking.close.at.behind ≡ false

pub record CycleSoFar (p : ℕ) (es : List Event) : Type 0 where
  pub closed : p ≡ 3 → HasClosed es

closed_in : {p : ℕ} {es : List Event} → p ≡ 3 → UnderWay es p → HasClosed es
closed_in three (Stops at k none) = record { marking = k; unreleased = none }
closed_in three (Marks (inl one) begin none) = absurd (omega arith)
closed_in three (Marks (inr two) begin none) = absurd (omega arith)
closed_in three (Releases at k none) = absurd (omega arith)

so_far : (seat : Seat) (x : Step) (p : ℕ) (es : List Event) → AsksPhase x p → (IsUnreleased p → UnderWay es p)
    → IsUnreleased (phase_behind x p) → UnderWay (es ++ record { seat = seat; step = x } ∷ []) (phase_behind x p)
so_far seat Step.Begin p es asks way u = Marks (inl refl) (at_end es (record { seat = seat; step = Step.Begin }) refl)
    refl
so_far seat Step.Want p es asks way u =
    wants es _ p 2 refl asks refl (way (record { least = omega arith; most = omega arith }))
so_far seat Step.Close p es asks way u =
    closes es _ p 3 refl asks refl (way (record { least = omega arith; most = omega arith }))
so_far seat Step.Release p es asks way u = absurd (omega (arith, u.most))
so_far seat Step.End p es asks way u = absurd (omega (arith, u.least))
so_far seat Step.Over p es asks way u = absurd (omega (arith, u.most))
so_far seat _ p es asks way u = on_way es _ p p (record { close = refl; release = refl; end = refl }) refl (way u)

abbrev IsUnderWay : Config → List Event → Type 0
IsUnderWay c es = IsUnreleased (phase_of (left c es).now.words) → UnderWay es (phase_of (left c es).now.words)

way_kept : KeptByEvents IsUnderWay
way_kept c es e h way =
    let here = before_it c (es ++ e ∷ []) es e [] h refl in
    rw (left_more c (first_world c) es e) (rw (phase_moves c (left c es).now e.seat e.step here.1)
    (so_far e.seat e.step _ es (phase_asked c (left c es).now e.seat e.step here.1) way))

way_first : (c : Config) → IsUnderWay c []
unfolding left_from
way_first c u = absurd (omega (arith, u.least))

pub cycle_so_far : (c : Config) (es : List Event) → IsHistory c es → CycleSoFar (phase_of (left c es).now.words) es
cycle_so_far c es h = record {
  closed = λ three. closed_in three (holds_of_histories IsUnderWay way_first way_kept c es h
      (record { least = omega arith; most = omega arith }));
}

pub releases_are_of_cycles : OfHistories ReleasesAreOfCycles
releases_are_of_cycles c es h front rest seat is =
    subst (λ (xs : List Event). (r : Releasing xs) × (before_release r ≡ front)) (sym is) (
      record {
        marking = longer_marking (e ∷ rest) k.marking;
        release = record {
          at = record { before = k.marking.close.at.behind; event = e; behind = rest; is = refl; of_kind = refl };
          none_before = k.unreleased;
        };
      },
      sym (at_close k.marking),
    )
  where
    e : Event
    e = record { seat = seat; step = Step.Release }

    whole : IsHistory c (front ++ e ∷ rest)
    whole = subst (λ (xs : List Event). IsHistory c xs) is h

    k : HasClosed front
    k = (cycle_so_far c front (earlier_part_is_history c front (e ∷ rest) whole)).closed
        (moves_phase c (left c front) e rest ((enabled_in_parts c front (e ∷ rest)).0 whole.enabled).1).0
