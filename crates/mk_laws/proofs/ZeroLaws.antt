-- The words of the heap that may not hold values are 0 after each event.
use Rattle.std.specs.Prelude.{◌≡◌, Bool, true, false, List, [], ◌∷◌, ⊤, Some}
use Rattle.mk_geom.specs.declared.addresses.Cell.{Cell}
use Rattle.mk_core.specs.declared.{config.Config.Config, events.{Step.Step, Event.Event}}
use Rattle.mk_core.specs.{Calls.word_met, Moments.flight_of, NewPlaces.target}
use Rattle.mk_core.specs.History.{World, world_behind}
use Rattle.mk_laws.proofs.{Terrain.{IsCellOf, LayoutStands}}
use Rattle.mk_laws.specs.WordLaws.{IsWordOfMapped}
use Rattle.mk_core.specs.declared.events.Step.TheVariants as step

-- the step of a caller that stores to the heap
abbrev pub is_heap_store : Step → Bool
is_heap_store step.Write = true
is_heap_store step.Cas = true
is_heap_store _ = false

-- what other groups say of a world and of the event that comes
pub record ZeroPremises (c : Config) (w : World) (e : Event) : Type 0 where
  pub laid_out : LayoutStands c w
  -- The target of an admitted Free is the cell of an unreleased allocation.
  pub target : (cell : Cell) → target c.pages w.now.words (flight_of w.now e.seat) ≡ Some cell
      → IsCellOf c w.allocations cell
  -- An admitted store is to a word of a mapped allocation.
  pub stored : is_heap_store e.step ≡ true → IsWordOfMapped c w.allocations (word_met (flight_of w.now e.seat))

-- The other groups say so before each event.
unfoldable pub ZeroPremisesFrom : Config → World → List Event → Type 0
ZeroPremisesFrom c w [] = ⊤
ZeroPremisesFrom c w (e ∷ es) = ZeroPremises c w e × ZeroPremisesFrom c (world_behind c w e) es
