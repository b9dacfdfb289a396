-- Where the objects of all histories are granted, and when a New is full.
use Rattle.std.proofs.Common.{IsSome}
use Rattle.mk_laws.proofs.Vocabulary.{Caller, Config, Event, Holding, IsHistory, List, Moment, Object, OfHistories}
use Rattle.mk_laws.proofs.Vocabulary.{Option, OwnCycle, Page, Place, Placing, Seat, Some, Step, Unplaced, Used, World}
use Rattle.mk_laws.proofs.Vocabulary.{ℕ, ap, arith, eqb-true, false, flight_of, granted_base, is_none, is_phase}
use Rattle.mk_laws.proofs.Vocabulary.{is_undecided_new, is_used_once, left, may_answer_full, ne_eqb, phase_of}
use Rattle.mk_laws.proofs.Vocabulary.{place_on_pages, refl, subst, sym, true, ◌++◌, ◌<◌, ◌∙◌, ◌∷◌, ◌≡◌}
use Rattle.mk_core.specs.{Placement.FindsNoPlace, Placement.FullsFitNowhere, Placement.GrantsStandAtTheirPlaces}
use Rattle.mk_core.specs.{Placement.StandsAtItsPlace, Placement.object_at, declared.seats.OwnCycle.TheVariants.Ended}
use Rattle.mk_laws.proofs.Basics.{Meets, before_it, grants_new, held_place, new_holds}
use Rattle.mk_laws.proofs.{Actors.fills_new, InvariantHistories.first_fit_finds_the_place, OwnCycles.HasCycle}
use Rattle.mk_laws.proofs.{Tracked.HasPlace, Tracked.news_are_tracked, Tracked.unplaced_settles, Undecided.HasNew}

-- What holds if a caller with an undecided New makes a step of this kind holds if any seat makes it.
at_each : {c : Config} (x : Step) (claim : List Event → Seat → Type 0) → ((m : Moment) (seat : Seat) → Meets c m seat x
    → is_undecided_new (flight_of m seat) ≡ true) → ((es : List Event) (k : ℕ) → IsHistory c es → k < c.callers
    → HasNew (left c es) k → Meets c (left c es).now (Caller k) x → claim es (Caller k))
    → {es : List Event} (before : List Event) (e : Event) (behind : List Event) → IsHistory c es
    → es ≡ before ++ e ∷ behind → e.step ≡ x → claim before e.seat
at_each {c} x claim news there {es = es} before e behind h is kind =
    let here = before_it c es before e behind h is in
    grind (arith, new_holds)

-- `grant`

granted_there : (c : Config) (es : List Event) (k : ℕ) → IsHistory c es → k < c.callers → HasNew (left c es) k
    → Meets c (left c es).now (Caller k) Step.Grant → StandsAtItsPlace c es (Caller k)
granted_there c es k h lt new meets = by (left c es).now.seats.holding.placing refl meets.holder
  where
    o : Object
    o = object_at c es (Caller k)

    by : (p : Placing) → (left c es).now.seats.holding.placing ≡ p → is_used_once p ≡ true
        → StandsAtItsPlace c es (Caller k)
    by (Used place) at once =
        let t = news_are_tracked c es h k lt new in
        let served : HasPlace c (Caller k) t.turn o (Some place) =
        subst (λ (p : Placing). HasPlace c (Caller k) t.turn o (held_place p)) at t.placed in
        record {
          turn = t.turn;
          first = served.first;
          place = place;
          fits = served.fits;
          base = ap (λ (p : Placing). granted_base c (flight_of (left c es).now (Caller k)) p) at;
        }
    by _ at once = cc

pub grants_stand_at_their_places : OfHistories GrantsStandAtTheirPlaces
grants_stand_at_their_places c es h before e behind is =
    at_each Step.Grant (StandsAtItsPlace c) (grants_new c) (granted_there c) before e behind h is

-- `full`

full_is : (resident : ℕ) (pages : List Page) (o : Object) (placing : Placing) (cycle : OwnCycle)
    → may_answer_full resident pages o placing cycle ≡ true
    → (placing ≡ Unplaced) × (cycle ≡ Ended) × (is_none (place_on_pages resident pages o) ≡ true)
full_is resident pages o placing cycle h = grind arith

none_is_there : (found : Option Place) → is_none found ≡ true → IsSome found → ⊥
none_is_there found is some = grind arith

full_there : (c : Config) (es : List Event) (k : ℕ) → IsHistory c es → k < c.callers → HasNew (left c es) k
    → Meets c (left c es).now (Caller k) Step.Full → FindsNoPlace c es (Caller k)
full_there c es k h lt new meets =
    let w : World = left c es in
    let o : Object = object_at c es (Caller k) in
    let y : Holding = w.now.seats.holding in
    let parts = full_is c.resident w.now.words.pages o y.placing y.cycle meets.holder in
    let t = news_are_tracked c es h k lt new in
    let off : is_phase w.now.words 4 ≡ false = ne_eqb _ 4 (λ four. omega (arith, eqb-true _ 0 meets.phase)) in
    let same = first_fit_finds_the_place c es h o (unplaced_settles c es k h lt new off parts.0) in
    record {
      turn = t.turn;
      cycle = subst (λ (x : OwnCycle). HasCycle t.turn.behind x (phase_of w.now.words)) parts.1 t.cycle;
      no_fit = none_is_there _ (ap is_none (sym same) ∙ parts.2);
    }

pub fulls_fit_nowhere : OfHistories FullsFitNowhere
fulls_fit_nowhere c es h before e behind is =
    at_each Step.Full (FindsNoPlace c) (fills_new c) (full_there c) before e behind h is
