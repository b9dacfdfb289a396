-- What the images tell the layout, the quarantine and the zero words, in one world.
use Rattle.std.specs.Prelude.{◌≡◌, ◌⊎◌, ℕ, true, false, Some}
use Rattle.mk_never.specs.{NeverHeap.NeverState, Admitted.AreAdmitted}
use Rattle.mk_geom.specs.{declared.addresses.Cell.Cell, Storages.IsWordOf}
use Rattle.mk_core.specs.declared.{config.Config.Config, events.Seat.Seat}
use Rattle.mk_core.specs.declared.events.{Seat.TheVariants.Caller, Step.Step}
use Rattle.mk_core.specs.{declared.seats.RunPages.RunPages, Words.phase_of, Calls.word_met, Cells.is_marked}
use Rattle.mk_core.specs.{Moments.flight_of, NewPlaces.target, Enabled.IsEnabled, Calls.asked}
use Rattle.mk_core.specs.Allocations.{placed_at, is_mapped, storage_of, cell_of_allocation}
use Rattle.mk_core.specs.History.{World, call_decided}
use Rattle.mk_core.specs.declared.events.Step.TheVariants as step

-- The cell is that of an unreleased allocation.
pub record IsCellOfUnreleased (c : Config) (w : World) (x : Cell) : Type 0 where
  pub number : ℕ
  pub unreleased : (placed_at w.allocations number).released ≡ false
  pub cell : cell_of_allocation c (placed_at w.allocations number) ≡ x

-- The word is one of a mapped allocation.
pub record IsMappedWord (c : Config) (w : World) (n : ℕ) : Type 0 where
  pub number : ℕ
  pub mapped : is_mapped c (placed_at w.allocations number) ≡ true
  pub word : IsWordOf (storage_of c (placed_at w.allocations number)) n

-- The caller stores to the heap, and may: that is enabled and admitted.
pub record StoresNow (c : Config) (w : World) (n : NeverState) (k : ℕ) (x : Step) : Type 0 where
  pub step : (x ≡ step.Write) ⊎ (x ≡ step.Cas)
  pub enabled : IsEnabled c w.now (record { seat = Caller k; step = x })
  pub admitted : AreAdmitted c.globals n (asked (call_decided c w.now (record { seat = Caller k; step = x })))

-- What the images tell the other groups.
pub record ImagesSay (c : Config) (w : World) (n : NeverState) : Type 0 where
  -- What a Free's register points into is the cell of an unreleased allocation.
  pub target : (seat : Seat) (cell : Cell) → target c.pages w.now.words (flight_of w.now seat) ≡ Some cell
      → IsCellOfUnreleased c w cell
  -- At the end of a stop the run that a Free unmaps is marked.
  pub marked : phase_of w.now.words ≡ 3 → (run : RunPages) → w.now.seats.holding.freed ≡ Some run
      → is_marked w.now.words (record { page = run.page; index = 0 }) ≡ true
  -- Callers store to words of mapped allocations.
  pub stored : (k : ℕ) (x : Step) → StoresNow c w n k x → IsMappedWord c w (word_met (flight_of w.now (Caller k)))
