-- What each event makes of the place that a New holds.
use Rattle.std.proofs.Math.Bool.{and-false}
use Rattle.mk_laws.proofs.Vocabulary.{AsChosen, AsUsed, Bool, ByFit, Caller, Chosen, Config, Flight, Holding, Host}
use Rattle.mk_laws.proofs.Vocabulary.{IsPlaced, Marker, Moment, None, Object, Option, Place, Placing, RunPages, Seat}
use Rattle.mk_laws.proofs.Vocabulary.{Some, Step, Unplaced, Used, World, ℕ, and_parts, ap, arith, at_rest, carves}
use Rattle.mk_laws.proofs.Vocabulary.{cases_eq, chosen, eqb-true, false, false_from_ne_true, flight_of, found}
use Rattle.mk_laws.proofs.Vocabulary.{get_or-set_same, if◌then◌else◌, inl, inr, is_phase, is_undecided_new}
use Rattle.mk_laws.proofs.Vocabulary.{is_used_once, marks_is, marks_place, ne_eqb, not, object_made, or_cases, phase_of}
use Rattle.mk_laws.proofs.Vocabulary.{place_now, place_on_pages, placed_now, progress, refl, subst, sym, taken}
use Rattle.mk_laws.proofs.Vocabulary.{takes_cell, true, true≢false, undecided_new, unmaps, ◌&&◌, ◌<◌, ◌==◌, ◌||◌, ◌∙◌}
use Rattle.mk_laws.proofs.{Vocabulary.{◌≡◌, ◌≢◌}, Basics.{HoldsTurn, Known, Meets, WorldBehind, at_no_take, held_place}}
use Rattle.mk_laws.proofs.Basics.{new_has_turn, none_on_its_way, same_holder, turn_of, view_of}
use Rattle.mk_laws.proofs.{Undecided.{HasNew, new_holds_turn, new_object}, NewPlace.give_no_new, NextSteps.at_take}
use Rattle.mk_laws.proofs.{OthersMoves.others_move, TurnFrame.holding_out}
use Rattle.mk_core.{proofs.ServingSteps.{carves_is, takes_is}, specs.Placement.{serves}}

-- the tests of a step that serves, if the place of now is this one

abbrev carves_at : Config → Moment → Flight → ℕ → ℕ → Option Place → Bool
carves_at c m f p n place = carves m.words (object_made c f.op) place p n

abbrev takes_at : Config → Moment → Flight → ℕ → ℕ → Option Place → Bool
takes_at c m f p n place = takes_cell m.words (object_made c f.op) place p n

abbrev marks_at : Config → Moment → Flight → ℕ → ℕ → Option Place → Bool
marks_at c m f p n place = marks_place m.words (object_made c f.op) place p n

-- A seat that has no undecided New serves none.
none_to_serve : (c : Config) (m : Moment) (f : Flight) (x : Step) → is_undecided_new f ≡ false → serves c m f x ≡ false
none_to_serve c m f x out = grind (arith, carves_at, and-false, takes_at, marks_at)

-- A seat that doesn't hold the turn leaves what its holder has done.
-- What an event makes of the place: it serves none and leaves it, or fixes the first fit, or goes on with the place.
pub data PlacingStep (c : Config) (m : Moment) (o : Object) (served : Bool) (was now : Option Place) : Type 0 where
  Stays : served ≡ false → now ≡ was → PlacingStep c m o served was now
  Fixes : (place : Place) → served ≡ true → is_phase m.words 4 ≡ false → m.seats.holding.placing ≡ Unplaced
      → place_on_pages c.resident m.words.pages o ≡ Some place → was ≡ None → now ≡ Some place
      → PlacingStep c m o served was now
  GoesOn : (place : Place) → was ≡ Some place → now ≡ Some place → PlacingStep c m o served was now

abbrev Placed : Config → Moment → Flight → Step → Placing → Type 0
Placed c m f x p =
    PlacingStep c m (object_made c f.op) (serves c m f x) (held_place m.seats.holding.placing) (held_place p)

-- A change of the placing, which holds the place that the step has.
record HoldsIt (change : Placing → Option Place → Placing) (place : Place) : Type 0 where
  first : held_place (change Unplaced (Some place)) ≡ Some place
  chosen : held_place (change (Chosen place) (Some place)) ≡ Some place
  used : held_place (change (Used place) (Some place)) ≡ Some place

-- a step that serves, at the place of now
fixes : (c : Config) (m : Moment) (f : Flight) (x : Step) (place : Place) (change : Placing → Option Place → Placing)
    → serves c m f x ≡ true → is_phase m.words 4 ≡ false → place_now c m f ≡ Some place → HoldsIt change place
    → Placed c m f x (change m.seats.holding.placing (place_now c m f))
fixes c m f x place change is off now holds =
    subst (λ (found : Option Place). Placed c m f x (change m.seats.holding.placing found)) (sym now)
    (by m.seats.holding.placing refl (placed_now c m f place now).placed)
  where
    by : (p : Placing) → m.seats.holding.placing ≡ p → IsPlaced c.resident m.words.pages (object_made c f.op) place p
        → PlacingStep c m (object_made c f.op) (serves c m f x) (held_place p) (held_place (change p (Some place)))
    by p at (ByFit fits) = Fixes place is off at fits refl holds.first
    by p at AsChosen = GoesOn place refl holds.chosen
    by p at AsUsed = GoesOn place refl holds.used

chosen_holds : (place : Place) → HoldsIt chosen place
chosen_holds place = record { first = refl; chosen = refl; used = refl }

taken_holds : (place : Place) → HoldsIt taken place
taken_holds place = record { first = refl; chosen = refl; used = refl }

-- `head`, `used` and `mark`

head_places : (c : Config) (m : Moment) (f : Flight) (p n : ℕ) (b other : Bool) → is_phase m.words 4 ≡ b
    → m.seats.holding.freed ≡ None
    → (if b then other else carves_at c m f p n (place_now c m f) || unmaps m.words m.seats.holding.freed p n) ≡ true
    → Placed c m f (Step.Head p n)
    (if b then m.seats.holding.placing else chosen m.seats.holding.placing (place_now c m f))
head_places c m f p n true other at none h = Stays (ap (λ b. not b && carves_at c m f p n (place_now c m f)) at) refl
head_places c m f p n false other at none h = elim (or_cases _ _ h) [
  | inl is ↦
      let x = carves_is m.words _ _ p n is in
      let serving = ap (λ b. not b && carves_at c m f p n (place_now c m f)) at ∙ is in
      fixes c m f (Step.Head p n) x.place chosen serving at x.there (chosen_holds x.place)
  | inr is ↦ absurd (true≢false (sym is ∙ ap (λ (run : Option RunPages). unmaps m.words run p n) none))
]

used_places : (c : Config) (m : Moment) (f : Flight) (p n : ℕ) (b other : Bool) → is_phase m.words 4 ≡ b
    → (if b then other else not (is_used_once m.seats.holding.placing) && takes_at c m f p n (place_now c m f)) ≡ true
    → Placed c m f (Step.Used p n)
    (if b then m.seats.holding.placing else taken m.seats.holding.placing (place_now c m f))
used_places c m f p n true other at h = Stays (ap (λ b. not b && takes_at c m f p n (place_now c m f)) at) refl
used_places c m f p n false other at h =
    let x = takes_is m.words _ _ p n (and_parts _ _ h).1 in
    let serving = ap (λ b. not b && takes_at c m f p n (place_now c m f)) at ∙ (and_parts _ _ h).1 in
    fixes c m f (Step.Used p n) x.place taken serving at x.there (taken_holds x.place)

not_four : (n : ℕ) → (n == 1) ≡ true → (n == 4) ≡ false
not_four n one = let e = eqb-true n 1 one in ne_eqb n 4 (λ four. omega arith)

mark_places : (c : Config) (m : Moment) (f : Flight) (p n : ℕ) (b : Bool) → marks_at c m f p n (place_now c m f) ≡ b
    → Placed c m f (Step.Mark p n)
    (if b then chosen m.seats.holding.placing (place_now c m f) else m.seats.holding.placing)
mark_places c m f p n false is = Stays is refl
mark_places c m f p n true is =
    let x = marks_is m.words (object_made c f.op) (place_now c m f) p n is in
    let off = not_four (phase_of m.words) x.marked.phase in
    fixes c m f (Step.Mark p n) x.place chosen is off x.there (chosen_holds x.place)

-- each kind of step of a caller whose New is undecided, and stays so

abbrev flight_behind : Config → World → ℕ → Step → Flight
flight_behind c w k x =
    (progress c w.now (flight_of w.now (Caller k)) (found c w.now (record { seat = Caller k; step = x })) x).flight

own_places : {c : Config} (w : World) (k : ℕ) (x : Step) → Known c w.now → Meets c w.now (Caller k) x → HasNew w k
    → is_undecided_new (flight_behind c w k x) ≡ true
    → Placed c w.now (flight_of w.now (Caller k)) x (WorldBehind c w (Caller k) x).now.seats.holding.placing
own_places w k (Step.Take (Some o)) known h new stays = grind (arith, at_take, undecided_new)
own_places w k (Step.Take None) known h new stays =
    absurd (at_no_take (flight_of w.now (Caller k)).stage (flight_of w.now (Caller k)).op h.order)
own_places w k Step.Give known h new stays = cc
own_places w k Step.Grant known h new stays = absurd (give_no_new (flight_of w.now (Caller k)).op stays)
own_places {c} w k (Step.Head p n) known h new stays =
    let f : Flight = flight_of w.now (Caller k) in
    let holds = new_has_turn c w.now (Caller k) h.seat new in
    let none = none_on_its_way c w.now (Caller k) known holds (undecided_new f new).stage in
    head_places c w.now f p n (is_phase w.now.words 4) _ refl none h.holder
own_places {c} w k (Step.Used p n) known h new stays =
    used_places c w.now (flight_of w.now (Caller k)) p n (is_phase w.now.words 4) _ refl h.holder
own_places {c} w k (Step.Mark p n) known h new stays =
    let f : Flight = flight_of w.now (Caller k) in
    mark_places c w.now f p n (marks_at c w.now f p n (place_now c w.now f)) refl
own_places w k _ known h new stays = Stays refl refl

-- And each event, whatever the seat, while a caller has an undecided New.
abbrev pub PlacesAt : Config → World → Seat → Step → ℕ → Type 0
PlacesAt c w seat x k = PlacingStep c w.now (new_object c w k) (serves c w.now (flight_of w.now seat) x)
    (held_place w.now.seats.holding.placing) (held_place (WorldBehind c w seat x).now.seats.holding.placing)

others_places : {c : Config} (w : World) (seat : Seat) (x : Step) (k : ℕ) → Known c w.now → Meets c w.now seat x
    → HoldsTurn c (view_of w.now) (Caller k) → (seat ≡ Caller k → ⊥) → PlacesAt c w seat x k
others_places {c} w seat x k known h holds other =
    Stays (none_to_serve c w.now (flight_of w.now seat) x none) (ap (λ (y : Holding). held_place y.placing)
    (holding_out (others_move c w seat x known held out h)))
  where
    out : HoldsTurn c (view_of w.now) seat → ⊥
    out t = other (same_holder c (view_of w.now) seat (Caller k) known.orderly t holds)

    held : w.now.words.turn ≢ 0
    held = let turn = turn_of c (view_of w.now) (Caller k) known.orderly holds in λ z. omega arith

    none : is_undecided_new (flight_of w.now seat) ≡ false
    none =
        false_from_ne_true (is_undecided_new (flight_of w.now seat)) (λ new. out (new_has_turn c w.now seat h.seat new))

pub places_at : {c : Config} (w : World) (seat : Seat) (x : Step) (k : ℕ) → Known c w.now → Meets c w.now seat x
    → k < c.callers → HasNew w k → HasNew (WorldBehind c w seat x) k → PlacesAt c w seat x k
places_at {c} w seat x k known h lt was new = by seat h new
  where
    holds : HoldsTurn c (view_of w.now) (Caller k)
    holds = new_holds_turn c w k lt was

    own : Meets c w.now (Caller k) x → HasNew (WorldBehind c w (Caller k) x) k → PlacesAt c w (Caller k) x k
    own h new =
        let set = get_or-set_same w.now.seats.flights k _ at_rest (omega (arith, known.orderly.flights)) in
        own_places w k x known h was (ap is_undecided_new (sym set) ∙ new)

    by : (seat : Seat) → Meets c w.now seat x → HasNew (WorldBehind c w seat x) k → PlacesAt c w seat x k
    by (Marker j) h new = others_places w (Marker j) x k known h holds (λ e. cc)
    by Host h new = others_places w Host x k known h holds (λ e. cc)
    by (Caller j) h new = elim (cases_eq k j) [
      | inl same ↦ subst (λ i. Meets c w.now (Caller i) x → HasNew (WorldBehind c w (Caller i) x) k → PlacesAt c w
          (Caller i) x k) same own h new
      | inr ne ↦ others_places w (Caller j) x k known h holds (λ (e : Caller j ≡ Caller k). ne cc)
    ]
