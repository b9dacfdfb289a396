-- The place of an undecided New lies in the heap.
use Rattle.std.proofs.Common.{leb-false}
use Rattle.mk_laws.proofs.Vocabulary.{Caller, Chosen, Config, Flight, Ground, Holding, List, Moment, None, Op, Option}
use Rattle.mk_laws.proofs.Vocabulary.{Page, Place, Placing, Seat, Some, Stage, Step, Used, World, ℕ, ap, arith, at_rest}
use Rattle.mk_laws.proofs.Vocabulary.{chosen, false, flight_of, holder_number, inl, inr, is_new_at, is_small_object}
use Rattle.mk_laws.proofs.Vocabulary.{is_undecided_new, length, ltb-true, none-some, object_made, place_by_placing}
use Rattle.mk_laws.proofs.Vocabulary.{place_now, refl, run_pages_of, set_by, slice_index_or, slice_set, sym, taken}
use Rattle.mk_laws.proofs.{Vocabulary.{true, ◌+◌, ◌<◌, ◌∙◌, ◌≡◌, ◌≤◌, ◌⊎◌}, Ground.{Carves, Gives, Grants, GroundStep}}
use Rattle.mk_laws.proofs.{Ground.{Places, Starts, TakesCell, Unmaps, ground_step}, Standings.{InCall, UnderTurn}}
use Rattle.mk_laws.proofs.{Standings.standing, Views.{View, flight_at, flight_in, flights_with, view_of}, Actors.Meets}
use Rattle.mk_laws.proofs.{Known.Known, Orderly.same_holder, OrderlyLists.event_moves, OthersMoves.WorldBehind}
use Rattle.mk_laws.proofs.{Services.Service, Stages.new_stands}
use Rattle.mk_geom.proofs.FirstFit.{run_place_is}
use Rattle.mk_laws.proofs.ProtocolMoves.{Enters, Gives as GivesTurn, GoesOn, Leaves, Move, Takes, Works}

abbrev pub held_place : Placing → Option Place
held_place (Chosen place) = Some place
held_place (Used place) = Some place
held_place _ = None

-- A large object has all its pages in the heap.
abbrev pub PlaceFits : Config → Op → Place → Type 0
PlaceFits c o place = is_small_object (object_made c o) ≡ false
    → place.page + run_pages_of (object_made c o).words ≤ c.pages

abbrev pub PlacesFit : Config → Moment → Type 0
PlacesFit c m = (k : ℕ) → k < c.callers → is_undecided_new (flight_of m (Caller k)) ≡ true → (place : Place)
    → held_place m.seats.holding.placing ≡ Some place → PlaceFits c (flight_of m (Caller k)).op place

-- the place of first fit does, and so that of the step

in_fits : (c : Config) (pages : List Page) (o : Op) (placing : Placing) (place : Place) → length pages ≡ c.pages
    → ((y : Place) → held_place placing ≡ Some y → PlaceFits c o y)
    → place_by_placing c.resident pages (object_made c o) placing ≡ Some place → PlaceFits c o place
in_fits c pages o x3 place count held is = grind (arith, run_place_is, leb-false)

-- a place that is held was held, or is that of the step

chosen_held : (p : Placing) (place : Option Place) (x : Place) → held_place (chosen p place) ≡ Some x
    → (held_place p ≡ Some x) ⊎ (place ≡ Some x)
chosen_held x0 place x h = grind arith

ground_place : {c : Config} {w : World} {f : Flight} {g : Ground} (x : Place) → GroundStep c w f g
    → held_place g.placing ≡ Some x → (held_place w.now.seats.holding.placing ≡ Some x) ⊎ (place_now c w.now f ≡ Some x)
ground_place x (Starts z idle) h = cc
ground_place x (Gives own at) h = cc
ground_place {w} x (Carves p n own at) h = chosen_held w.now.seats.holding.placing _ x h
ground_place {w} x (Unmaps p n own at) h = chosen_held w.now.seats.holding.placing _ x h
ground_place {w} x (TakesCell p n once own at) h = grind arith
ground_place {w} x (Places p n own) h = chosen_held w.now.seats.holding.placing _ x h
ground_place x (Grants new once) h = cc
ground_place x _ h = inl h

-- an undecided New is one that was there, or there is no place

pub set_new : (fs : List Flight) (k j : ℕ) (f : Flight) → (is_undecided_new f ≡ true → f ≡ slice_index_or fs k at_rest)
    → is_undecided_new (slice_index_or (slice_set fs k f) j at_rest) ≡ true
    → slice_index_or (slice_set fs k f) j at_rest ≡ slice_index_or fs j at_rest
set_new fs k j f same =
    set_by (λ (g : Flight). is_undecided_new g ≡ true → g ≡ slice_index_or fs j at_rest) fs k j f at_rest
    (λ e new. same new ∙ ap (λ i. slice_index_or fs i at_rest) (sym e)) (λ new. refl)

pub call_no_new : (f : Flight) → standing f ≡ InCall → is_undecided_new f ≡ true → ⊥
call_no_new f is new = let e : InCall ≡ UnderTurn = sym is ∙ new_stands f.stage f.op new in absurd (cc)

pub give_no_new : (o : Op) → is_new_at Stage.Give o ≡ true → ⊥
give_no_new o h = cc

pub service_new : {f : Flight} {h : Holding} {g : Flight} {i : Holding} → Service f h g i → is_undecided_new g ≡ true
    → g ≡ f
service_new x0 new = grind (arith, give_no_new)

-- the call of a seat is set, if it has one
set_call : (fs : List Flight) (s : Seat) (j : ℕ) (f : Flight) → (is_undecided_new f ≡ true → f ≡ flight_at fs s)
    → is_undecided_new (slice_index_or (flights_with fs s f) j at_rest) ≡ true
    → slice_index_or (flights_with fs s f) j at_rest ≡ slice_index_or fs j at_rest
set_call fs (Caller k) j f same new = set_new fs k j f same new
set_call fs _ j f same new = refl

-- it was so, or the turn was free and is taken
pub new_from : {c : Config} {v : View} {seat : Seat} {n : View} (j : ℕ) → Move c v seat n
    → is_undecided_new (flight_in n j) ≡ true → (flight_in n j ≡ flight_in v j)
    ⊎ ((v.turn ≡ 0) × (n.turn ≡ 1 + holder_number c seat) × (held_place n.holding.placing ≡ None))
new_from {v} j (Enters {k} f lt z was is) new = inl (set_new v.flights k j f (λ x. absurd (call_no_new f is x)) new)
new_from {v} j (GoesOn {k} f lt was is) new = inl (set_new v.flights k j f (λ x. absurd (call_no_new f is x)) new)
new_from {v} j (Leaves {k} lt was) new = inl (set_new v.flights k j at_rest (λ x. cc) new)
new_from j (Takes f z may) new = inr (z, refl, refl)
new_from {v} {seat} j (GivesTurn t none at) new = inl (set_call v.flights seat j at_rest (λ x. cc) new)
new_from {v} {seat} j (Works f i t s) new = inl (set_call v.flights seat j f (service_new s) new)
new_from j _ new = inl refl

pub new_was : {c : Config} {v : View} {seat : Seat} {n : View} (j : ℕ) → Move c v seat n
    → is_undecided_new (flight_in n j) ≡ true → (flight_in n j ≡ flight_in v j) ⊎ (held_place n.holding.placing ≡ None)
new_was {c} {v} {seat} {n} j move new = elim (new_from j move new) [ inl same ↦ inl same | inr taken ↦ inr taken.2 ]

-- the seat of an undecided New holds the turn
pub new_holds : (c : Config) (m : Moment) (seat : Seat) (x : Step) → Meets c m seat x
    → is_undecided_new (flight_of m seat) ≡ true → (k : ℕ) × (k < c.callers) × (seat ≡ Caller k)
new_holds c m (Caller k) x h new = (k, ltb-true k c.callers h.seat, refl)
new_holds c m _ x h new = cc

-- the place of a step
now_is : (c : Config) (m : Moment) (f : Flight) (place : Place) → place_now c m f ≡ Some place → (is_undecided_new f
    ≡ true) × (place_by_placing c.resident m.words.pages (object_made c f.op) m.seats.holding.placing ≡ Some place)
now_is c m f place e = grind arith

pub place_fits_now : (c : Config) (m : Moment) (seat : Seat) (x : Step) (place : Place) → length m.words.pages ≡ c.pages
    → PlacesFit c m → Meets c m seat x → place_now c m (flight_of m seat) ≡ Some place
    → PlaceFits c (flight_of m seat).op place
place_fits_now c m seat x place count fits h now =
    let is = now_is c m (flight_of m seat) place now in
    let own = new_holds c m seat x h is.0 in
    in_fits c _ _ _ place count (λ y old. rw own.2 (fits own.0 own.1 (rw own.2 at is.0) y old)) is.1

pub places_behind : {c : Config} (w : World) (seat : Seat) (x : Step) → Known c w.now → length w.now.words.pages
    ≡ c.pages → PlacesFit c w.now → Meets c w.now seat x → PlacesFit c (WorldBehind c w seat x).now
places_behind {c} w seat x known count fits h k lt new place held =
    elim (new_was k (event_moves c w.now seat x known.orderly h) new) [
      | inr none ↦ let e : None ≡ Some place = sym none ∙ held in absurd (none-some _ e)
      | inl same ↦
          let was : is_undecided_new (flight_of w.now (Caller k)) ≡ true = rw (← same) new in
          rw same (before was (ground_place place (ground_step c w seat x h) held))
    ]
  where
    before : is_undecided_new (flight_of w.now (Caller k)) ≡ true
        → (held_place w.now.seats.holding.placing ≡ Some place)
        ⊎ (place_now c w.now (flight_of w.now seat) ≡ Some place) → PlaceFits c (flight_of w.now (Caller k)).op place
    before was (inl old) = fits k lt was place old
    before was (inr now) =
        let is = now_is c w.now (flight_of w.now seat) place now in
        let own = new_holds c w.now seat x h is.0 in
        let own_new : is_undecided_new (flight_of w.now (Caller own.0)) ≡ true = rw own.2 at is.0 in
        let that : seat ≡ Caller k = own.2 ∙ same_holder c (view_of w.now) (Caller own.0) (Caller k) known.orderly
        (own.1, (new_stands (flight_of w.now (Caller own.0)).stage (flight_of w.now (Caller own.0)).op own_new))
        (lt, (new_stands (flight_of w.now (Caller k)).stage (flight_of w.now (Caller k)).op was)) in
        rw that at (place_fits_now c w.now seat x place count fits h now)
