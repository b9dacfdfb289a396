-- What is said of a turn while its New is undecided, after every history.
use Rattle.mk_laws.proofs.Vocabulary.{Caller, Config, Event, Flight, Holding, IsHistory, IsSettled, List, None, Object}
use Rattle.mk_laws.proofs.Vocabulary.{OfHistories, Option, Place, Seat, Some, Step, TurnOf, Unplaced, World, ℕ}
use Rattle.mk_laws.proofs.Vocabulary.{and_parts, ap, arith, at_rest, eqb-true, false, false_from_ne_true, first_world}
use Rattle.mk_laws.proofs.Vocabulary.{get_or-set_same, is_phase, is_undecided_new, left, left_from, left_more}
use Rattle.mk_laws.proofs.Vocabulary.{object_made, phase_of, place_on_pages, refl, subst, sym, true, true≢false}
use Rattle.mk_laws.proofs.Vocabulary.{undecided_new, world_behind, [], ◌++◌, ◌<◌, ◌==◌, ◌∙◌, ◌∷◌, ◌≡◌}
use Rattle.mk_core.specs.Placement.{FirstServed, NoneServesFrom, before_served, event_serves, place_after}
use Rattle.mk_core.specs.{Allocations.place_among_allocations, Cycles.is_give}
use Rattle.mk_laws.proofs.Basics.{KeptByEvents, Known, Meets, WorldBehind, at_first, before_it, held_place}
use Rattle.mk_laws.proofs.Basics.{holds_of_histories, known_left, none_on_its_way}
use Rattle.mk_laws.proofs.Longer.{gives_turn, left_in_turn, longer_first, longer_turn, none_serves_more, taken}
use Rattle.mk_laws.proofs.OwnCycles.{HasCycle, cycle_more, cycle_step}
use Rattle.mk_laws.proofs.Undecided.{HasNew, IsTaken, NewCame, WasNew, new_came, new_holds_turn, new_object}
use Rattle.mk_laws.proofs.{InvariantHistories.first_fit_finds_the_place, Placings.PlacingStep, Placings.places_at}

-- A step of the turn has served its New first, if the place was this one.
pub record ServedFirst (c : Config) (s : Seat) {es : List Event} (t : TurnOf c s es) (o : Object) (place : Place)
    : Type 0 where
  pub first : FirstServed c t
  pub fits : place_after c (before_served t first) o ≡ Some place

-- what is said of the turn's steps by the place that its New holds, or by none
abbrev pub HasPlace : (c : Config) (s : Seat) {es : List Event} (t : TurnOf c s es) → Object → Option Place → Type 0
HasPlace c s t o None = NoneServesFrom c (left c (t.before ++ taken t ∷ [])) t.behind
HasPlace c s t o (Some place) = ServedFirst c s t o place

-- The turn of a caller after a list that leaves this world: where its New is, and how far a cycle of its own.
pub record Tracked (c : Config) (es : List Event) (w : World) (k : ℕ) : Type 0 where
  pub turn : TurnOf c (Caller k) es
  pub placed : HasPlace c (Caller k) turn (new_object c w k) (held_place w.now.seats.holding.placing)
  pub cycle : HasCycle turn.behind w.now.seats.holding.cycle (phase_of w.now.words)

abbrev pub NewsAreTracked : Config → List Event → Type 0
NewsAreTracked c es = (k : ℕ) → k < c.callers → HasNew (left c es) k → Tracked c es (left c es) k

-- The event gives no turn back of a caller whose New is undecided after it.
gives_off : {c : Config} (w : World) (seat : Seat) (x : Step) (k : ℕ) → Known c w.now → k < c.callers
    → HasNew (WorldBehind c w seat x) k → gives_turn (Caller k) (record { seat = seat; step = x }) ≡ false
gives_off {c} w (Caller j) x k known lt new = false_from_ne_true _
    (λ is. let both = and_parts (k == j) (is_give x) is in by j x (eqb-true k j both.0) both.1 new)
  where
    by : (j : ℕ) (x : Step) → k ≡ j → is_give x ≡ true → HasNew (WorldBehind c w (Caller j) x) k → ⊥
    by j Step.Give own is new =
        let rests = get_or-set_same w.now.seats.flights k at_rest at_rest (omega (arith, known.orderly.flights)) in
        grind arith
    by j _ own is new = cc
gives_off w _ x k known lt new = refl

-- While nothing is placed yet, nothing is on its way,
pub unplaced_settles : (c : Config) (es : List Event) (k : ℕ) → IsHistory c es → k < c.callers → HasNew (left c es) k
    → is_phase (left c es).now.words 4 ≡ false → (left c es).now.seats.holding.placing ≡ Unplaced
    → IsSettled (left c es)
unplaced_settles c es k h lt new off at = grind (arith, none_on_its_way, known_left, new_holds_turn, undecided_new)

-- and first fit over the words is the place among the allocations.
abbrev FitsHere : Config → List Event → Object → Type 0
FitsHere c es o =
    (place : Place) → is_phase (left c es).now.words 4 ≡ false → (left c es).now.seats.holding.placing ≡ Unplaced
    → place_on_pages c.resident (left c es).now.words.pages o ≡ Some place → place_after c es o ≡ Some place

fits_here : {c : Config} {es : List Event} (k : ℕ) (o : Object) → IsHistory c es → k < c.callers → HasNew (left c es) k
    → FitsHere c es o
fits_here {c} {es} k o h lt new place off at found =
    sym (first_fit_finds_the_place c es h o (unplaced_settles c es k h lt new off at)) ∙ found

-- So what is said of the turn's steps is told with one more.
module _ (c : Config) (es : List Event) (e : Event) (k : ℕ) (o : Object) (t : TurnOf c (Caller k) es)
    (on : gives_turn (Caller k) e ≡ false) where
  to_place : (now place : Option Place) → now ≡ place → HasPlace c (Caller k) (longer_turn t e on) o place
      → HasPlace c (Caller k) (longer_turn t e on) o now
  to_place now place is has = subst (HasPlace c (Caller k) (longer_turn t e on) o) (sym is) has

  goes_on : (place : Place) → ServedFirst c (Caller k) t o place → ServedFirst c (Caller k) (longer_turn t e on) o place
  goes_on place served = record { first = longer_first t e on served.first; fits = served.fits }

  fixes : (place : Place) → event_serves c (left c es) e ≡ true → place_after c es o ≡ Some place
      → HasPlace c (Caller k) t o None → ServedFirst c (Caller k) (longer_turn t e on) o place
  fixes place is fits none =
      let here : left c (t.before ++ taken t ∷ t.behind) ≡ left c es = ap (left c) (sym t.is) in
      record {
        first = grind arith;
        fits = ap (λ (w : World). place_among_allocations c o.words o.leaf w.allocations) here ∙ fits;
      }

  place_more : {was now : Option Place} → PlacingStep c (left c es).now o (event_serves c (left c es) e) was now
      → FitsHere c es o → HasPlace c (Caller k) t o was → HasPlace c (Caller k) (longer_turn t e on) o now
  place_more h fit has = grind (arith, to_place, left_in_turn, none_serves_more, goes_on, fixes)

-- One event: the `take` of the New, or one after it.

abbrev TrackedBehind : Config → List Event → Seat → Step → ℕ → Type 0
TrackedBehind c es seat x k =
    Tracked c (es ++ record { seat = seat; step = x } ∷ []) (WorldBehind c (left c es) seat x) k

tracked_behind : {c : Config} {es : List Event} {seat : Seat} {x : Step} {k : ℕ} → NewCame c (left c es) seat x k
    → NewsAreTracked c es → IsHistory c es → Meets c (left c es).now seat x → k < c.callers
    → HasNew (WorldBehind c (left c es) seat x) k → TrackedBehind c es seat x k
unfolding NoneServesFrom
tracked_behind {c} {es} {seat} {x} {k} (IsTaken o own take free begun) all h meets lt new =
    let v : World = WorldBehind c (left c es) seat x in
    record {
      turn = turn;
      placed =
          subst (λ (y : Holding). HasPlace c (Caller k) turn (new_object c v k) (held_place y.placing)) (sym begun) tt;
      cycle = subst (λ (y : Holding). HasCycle [] y.cycle (phase_of v.now.words)) (sym begun) tt;
    }
  where
    turn : TurnOf c (Caller k) (es ++ record { seat = seat; step = x } ∷ [])
    turn = record { before = es; op = Some o; behind = []; is = cc (own, take); took = free; goes_on = refl }
tracked_behind {c} {es} {seat} {x} {k} (WasNew same) all h meets lt new =
    let was : HasNew (left c es) k = ap is_undecided_new (sym same) ∙ new in
    let w : World = left c es in
    let o : Object = new_object c (left c es) k in
    let t : Tracked c es (left c es) k = all k lt was in
    record {
      turn = longer_turn t.turn e on;
      placed = subst (λ (y : Object). HasPlace c (Caller k) (longer_turn t.turn e on) y (held_place (WorldBehind c (left
          c es) seat x).now.seats.holding.placing)) (ap (λ (f : Flight). object_made c f.op) (sym same)) (place_more c
          es e k o _ on (places_at w seat x k known meets lt was new) (fits_here k o h lt was) t.placed);
      cycle = cycle_more t.turn.behind e _ _ (cycle_step c w seat x meets) t.cycle;
    }
  where
    e : Event
    e = record { seat = seat; step = x }

    known : Known c (left c es).now
    known = known_left c es h.within_limits h.enabled

    on : gives_turn (Caller k) (record { seat = seat; step = x }) ≡ false
    on = gives_off (left c es) seat x k known lt new

one_more : KeptByEvents NewsAreTracked
one_more c es e h all k lt new =
    let here = before_it c (es ++ e ∷ []) es e [] h refl in
    let more : left c (es ++ e ∷ []) ≡ world_behind c (left c es) e = left_more c (first_world c) es e in
    let behind : HasNew (world_behind c (left c es) e) k = subst (λ (w : World). HasNew w k) more new in
    let known = known_left c es here.0.within_limits here.0.enabled in
    let came = new_came (left c es) e.seat e.step k known here.1 behind in
    subst (λ (w : World). Tracked c (es ++ e ∷ []) w k) (sym more) (tracked_behind came all here.0 here.1 lt behind)

at_the_first : (c : Config) → NewsAreTracked c []
unfolding left_from
at_the_first c k lt new = absurd (true≢false (sym new ∙ ap is_undecided_new (at_first c.callers k at_rest)))

pub news_are_tracked : OfHistories NewsAreTracked
news_are_tracked = holds_of_histories NewsAreTracked at_the_first one_more
