-- Where the objects of a history are granted: the place of a New is the first fit before the first step that serves it.
use Rattle.std.specs.Prelude.{◌≡◌, Bool, true, false, ◌&&◌, not, List, [], ◌∷◌, ◌++◌, ⊤, Option, Some}
use Rattle.mk_geom.specs.declared.pages.Place.{Place}
use Rattle.mk_core.specs.declared.{config.Config.Config, events.{Seat.Seat, Step.Step}}
use Rattle.mk_core.specs.declared.{events.Event.Event, seats.{Flight.Flight, Object.Object}}
use Rattle.mk_core.specs.{Moments.{Moment, flight_of, is_phase}, NewPlaces.{object_made, base_made}}
use Rattle.mk_core.specs.{TurnConditions.{place_now, carves, takes_cell}, MarkingConditions.marks_place}
use Rattle.mk_core.specs.{Accesses.granted_base, Allocations.{place_among_allocations, FitsAmongAllocations}}
use Rattle.mk_core.specs.{History.{World, world_behind, left}, Cycles.{TurnOf, BeginsAndEndsIn}}

-- The step serves the object of an undecided New: it marks or carves pages of its place, or takes its cell.
abbrev pub serves : Config → Moment → Flight → Step → Bool
serves c m f (Step.Head p v) = not (is_phase m.words 4) && carves m.words (object_made c f.op) (place_now c m f) p v
serves c m f (Step.Used p v) = not (is_phase m.words 4) && takes_cell m.words (object_made c f.op) (place_now c m f) p v
serves c m f (Step.Mark p v) = marks_place m.words (object_made c f.op) (place_now c m f) p v
serves c m f _ = false

-- the event is a step that fixes a New's place
abbrev pub event_serves : Config → World → Event → Bool
event_serves c w e = serves c w.now (flight_of w.now e.seat) e.step

-- None of the events serves a New, from this world on.
unfoldable pub NoneServesFrom : Config → World → List Event → Type 0
NoneServesFrom c w [] = ⊤
NoneServesFrom c w (e ∷ es) = (event_serves c w e ≡ false) × NoneServesFrom c (world_behind c w e) es

-- The first event of a turn that serves its New: what stands before it.
pub record FirstServed (c : Config) {s : Seat} {es : List Event} (t : TurnOf c s es) : Type 0 where
  pub before : List Event
  pub event : Event
  pub behind : List Event
  pub is : t.behind ≡ before ++ event ∷ behind
  pub none_before : NoneServesFrom c (left c (t.before ++ record { seat = s; step = Step.Take t.op } ∷ [])) before
  pub serves : event_serves c (left c (t.before ++ record { seat = s; step = Step.Take t.op } ∷ before)) event ≡ true

-- the list up to there, from the first event of all on
abbrev pub before_served : {c : Config} {s : Seat} {es : List Event} (t : TurnOf c s es) → FirstServed c t → List Event
before_served {s = s} t first = t.before ++ record { seat = s; step = Step.Take t.op } ∷ first.before

-- the object of the New that a seat is in the middle of
abbrev pub object_at : Config → List Event → Seat → Object
object_at c es s = object_made c (flight_of (left c es).now s).op

-- the first-fit place of an object beside the allocations of these events
abbrev pub place_after : Config → List Event → Object → Option Place
place_after c es o = place_among_allocations c o.words o.leaf (left c es).allocations

-- A `grant` after the list stands at the place of its object before the call's first step that serves it.
pub record StandsAtItsPlace (c : Config) (es : List Event) (s : Seat) : Type 0 where
  pub turn : TurnOf c s es
  pub first : FirstServed c turn
  pub place : Place
  pub fits : place_after c (before_served turn first) (object_at c es s) ≡ Some place
  pub base : granted_base c (flight_of (left c es).now s) (left c es).now.seats.holding.placing
      ≡ base_made (object_at c es s) place

-- Each object is granted at its first-fit place.
abbrev pub GrantsStandAtTheirPlaces : Config → List Event → Type 0
GrantsStandAtTheirPlaces c es =
    (before : List Event) (e : Event) (behind : List Event) → es ≡ before ++ e ∷ behind → e.step ≡ Step.Grant
    → StandsAtItsPlace c before e.seat

-- A Full comes only if nothing fits, after a cycle that was begun and ended in its call.
pub record FindsNoPlace (c : Config) (es : List Event) (s : Seat) : Type 0 where
  pub turn : TurnOf c s es
  pub cycle : BeginsAndEndsIn turn
  pub no_fit : FitsAmongAllocations c (object_at c es s).words (object_at c es s).leaf (left c es).allocations → ⊥

-- Each Full has its cause.
abbrev pub FullsFitNowhere : Config → List Event → Type 0
FullsFitNowhere c es =
    (before : List Event) (e : Event) (behind : List Event) → es ≡ before ++ e ∷ behind → e.step ≡ Step.Full
    → FindsNoPlace c before e.seat
