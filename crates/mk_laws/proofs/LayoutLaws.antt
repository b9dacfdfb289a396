-- What stands on the pages stays laid out after each event, and the quarantine with it.
use Rattle.std.specs.Prelude.{List, Some, [], slice_index, true, ⊤, ◌∷◌, ◌≡◌, ◌≤◌}
use Rattle.mk_geom.specs.{PageUses.{resident_pages, uses_of_pages}, declared.addresses.Cell.Cell}
use Rattle.mk_core.specs.{Words.has_bit, Moments.IsWithinLimits, History.{AreEnabled, World}}
use Rattle.mk_core.specs.{History.{first_world, left, world_behind}, Moments.{flight_of, is_phase}, NewPlaces.target}
use Rattle.mk_core.specs.declared.{config.Config.Config, events.{Event.Event, Seat.Seat}}
use Rattle.mk_core.specs.declared.seats.RunPages.{RunPages}
use Rattle.mk_laws.proofs.{Quarantine.{FreedCellsAreKnown, IsQuarantined, KeepsSnapshot}, Room.HasHeaderWords}
use Rattle.mk_laws.proofs.Room.{HasRoom}
use Rattle.mk_laws.proofs.{Terrain.{IsCellOf, LayoutStands}, LaterPages.RunsAreWhole}

-- what other groups say of a world, as far as a step asks for it
pub record LayoutPremises (c : Config) (w : World) : Type 0 where
  -- The target of an admitted Free is the cell of an unreleased allocation.
  pub target : (seat : Seat) (cell : Cell) → target c.pages w.now.words (flight_of w.now seat) ≡ Some cell
      → IsCellOf c w.allocations cell
  -- At the end of the stop, the run that the call freed is marked.
  pub marked :
      is_phase w.now.words 3 ≡ true → (run : RunPages) → w.now.seats.holding.freed ≡ Some run
      → has_bit (slice_index w.now.words.marks run.page) 0 ≡ true

-- The layout, the quarantine, and that freed cells are known.
pub record StandsInOrder (c : Config) (w : World) : Type 0 where
  pub laid : LayoutStands c w
  pub quarantined : IsQuarantined c w
  pub known : FreedCellsAreKnown w
  pub snapshot : KeepsSnapshot c w
  pub words : HasHeaderWords w
  pub room : HasRoom c w
  pub runs : RunsAreWhole c w

-- The other groups say so before each event.
unfoldable pub LayoutPremisesFrom : Config → World → List Event → Type 0
LayoutPremisesFrom c w [] = ⊤
LayoutPremisesFrom c w (e ∷ es) = LayoutPremises c w × LayoutPremisesFrom c (world_behind c w e) es

-- Then all is in order after every list of enabled events.
abbrev pub HistoriesAreLaidOut : Type 0
HistoriesAreLaidOut =
    (c : Config) (es : List Event) → IsWithinLimits c → AreEnabled c es → LayoutPremisesFrom c (first_world c) es
    → StandsInOrder c (left c es)

-- So each page has a header word, and at most this many pages are resident.
abbrev pub LayoutHasHeaderWords : Type 0
LayoutHasHeaderWords =
    (c : Config) (es : List Event) → IsWithinLimits c → AreEnabled c es → LayoutPremisesFrom c (first_world c) es
    → HasHeaderWords (left c es)

-- At most as many pages are resident as may be.
abbrev pub LayoutHasFewResidentPages : Type 0
LayoutHasFewResidentPages =
    (c : Config) (es : List Event) → IsWithinLimits c → AreEnabled c es → LayoutPremisesFrom c (first_world c) es
    → resident_pages (uses_of_pages (left c es).now.words.pages) ≤ c.resident
