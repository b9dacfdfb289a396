-- What the guard asks of the layout and of zero words before each event, and what is proved of it.
use Rattle.std.specs.Prelude.{⊤, ◌≡◌, ◌⊎◌, ℕ, ◌+◌, ◌*◌, ◌/◌, ◌<◌, ◌≤◌, true, false, List, [], ◌∷◌, slice_index, Some}
use Rattle.mk_geom.specs.declared.{headers.Header.TheVariants.Run, pages.Place.Place}
use Rattle.mk_core.specs.declared.{config.Config.Config, events.{Event.Event, Seat.Seat}}
use Rattle.mk_core.specs.{declared.seats.{RunPages.RunPages, Object.Object}, Moments.IsWithinLimits}
use Rattle.mk_core.specs.{Words.{Words, header_at, phase_of}, Cells.{header_in, head_page}, Moments.{Moment, flight_of}}
use Rattle.mk_core.specs.NewPlaces.{object_made, is_small_object, pages_made, header_made}
use Rattle.mk_core.specs.{Allocations.{IsSized, IsHeaderOf}, TurnConditions.place_now}
use Rattle.mk_core.specs.Allocations.{PlacedAllocation, placed_at, is_mapped}
use Rattle.mk_core.specs.Allocations.{object_placed, StandsOnHeap}
use Rattle.mk_core.specs.{Cycles.{MarksAreClosed, MarkingIsGuarded}, History.{World, world_behind, first_world}}
use Rattle.mk_core.specs.History.{left, AreEnabled, IsEnabledBehind}
use Rattle.mk_laws.proofs.Guard.{IsMarking, MarksStand}
use Rattle.mk_core.specs.declared.events.Step.TheVariants as step

-- The place of a New that isn't decided: each page has its header or none, and while the first has none, all words are
-- 0.
pub record PlaceIsBare (w : Words) (o : Object) (place : Place) : Type 0 where
  pub headers : (distance : ℕ) → distance < pages_made o
      → (header_at w (place.page + distance) ≡ 0) ⊎ (header_at w (place.page + distance) ≡ header_made o distance)
  pub words : header_at w place.page ≡ 0 → (i : ℕ) → i < 64 * pages_made o
      → slice_index w.heap (64 * place.page + i) ≡ 0

-- The pages of a run that a call frees have the headers of a large object, each mapped or unmapped.
pub record RunHasObject (w : Words) (run : RunPages) : Type 0 where
  pub object : Object
  pub sized : IsSized object
  pub large : is_small_object object ≡ false
  pub count : pages_made object ≡ run.count
  pub headers : (distance : ℕ) → distance < run.count → IsHeaderOf object distance (header_at w (run.page + distance))

-- A later page of a mapped run leads to its head, or its words are 0: a place may get its pages one by one.
abbrev pub LaterPagesAreKnown : Words → Type 0
LaterPagesAreKnown w =
    (p count distance : ℕ) → header_in w p ≡ Some (Run count true) → 1 ≤ distance → distance < count
    → (head_page w (p + distance) ≡ p) ⊎ ((i : ℕ) → i < 64 → slice_index w.heap (64 * (p + distance) + i) ≡ 0)

-- The pages of a mapped allocation have the headers that its object makes.
pub record StandsMapped (c : Config) (w : Words) (a : PlacedAllocation) : Type 0 where
  pub stands : StandsOnHeap c a
  pub headers : (distance : ℕ) → distance < pages_made (object_placed c a)
      → header_at w (a.base / 64 + distance) ≡ header_made (object_placed c a) distance

-- What the layout and the zero words say of one world.
pub record GuardPremises (c : Config) (w : World) : Type 0 where
  -- while a cycle marks
  pub place : IsMarking w.now.words → (seat : Seat) (place : Place)
      → place_now c w.now (flight_of w.now seat) ≡ Some place
      → PlaceIsBare w.now.words (object_made c (flight_of w.now seat).op) place
  pub freed : IsMarking w.now.words → (run : RunPages) → w.now.seats.holding.freed ≡ Some run
      → RunHasObject w.now.words run
  pub later : IsMarking w.now.words → LaterPagesAreKnown w.now.words
  -- A mapped allocation stands on its pages, and they show it.
  pub mapped : (i : ℕ) → is_mapped c (placed_at w.allocations i) ≡ true
      → StandsMapped c w.now.words (placed_at w.allocations i)

-- They say so before each event, from this world on.
unfoldable pub GuardPremisesFrom : Config → World → List Event → Type 0
GuardPremisesFrom c w [] = ⊤
GuardPremisesFrom c w (e ∷ es) = GuardPremises c w × GuardPremisesFrom c (world_behind c w e) es

-- Of the first world they do.
abbrev pub GuardPremisesAtFirst : Type 0
GuardPremisesAtFirst = (c : Config) → GuardPremises c (first_world c)

-- So it stands after every enabled list.
abbrev pub MarksStandBehindLists : Type 0
MarksStandBehindLists =
    (c : Config) (es : List Event) → IsWithinLimits c → AreEnabled c es → GuardPremisesFrom c (first_world c) es
    → MarksStand c (left c es).now

-- A `close` finds the marks closed.
abbrev pub CloseFindsMarksClosed : Type 0
CloseFindsMarksClosed =
    (c : Config) (es : List Event) (seat : Seat) → IsWithinLimits c → AreEnabled c es
    → IsEnabledBehind c es (record { seat = seat; step = step.Close }) → GuardPremises c (left c es)
    → MarksStand c (left c es).now
    → MarksAreClosed c (left c es)

-- They stay so up to the `release`.
abbrev pub StoppedMarksAreClosed : Type 0
StoppedMarksAreClosed =
    (c : Config) (w : World) → IsWithinLimits c → GuardPremises c w → MarksStand c w.now → phase_of w.now.words ≡ 3
    → MarksAreClosed c w

-- While the cycle marks, each word of a black cell is guarded.
abbrev pub MarkingGuards : Type 0
MarkingGuards = (c : Config) (m : Moment) → MarksStand c m → MarkingIsGuarded c m
