-- What a laid out world says of its allocations and pages.
use Rattle.std.specs.Prelude.{◌≡◌, ℕ, false, List}
use Rattle.mk_geom.specs.Storages.{PagesStandFor}
use Rattle.mk_core.specs.declared.{config.Config.Config, events.Event.Event, seats.Object.Object}
use Rattle.mk_core.specs.{Moments.IsWithinLimits, NewPlaces.place_on_pages, Allocations.placed_at}
use Rattle.mk_core.specs.{Allocations.{cell_of_allocation, unreleased_storage, place_among_allocations}, History.left}
use Rattle.mk_laws.proofs.Terrain.{LayoutStands}
use Rattle.mk_laws.specs.Theorems.{StandsUsed, IsSettled}

-- Each unreleased allocation of a world that is laid out stands on the heap, with its headers and its used bit,
abbrev pub UnreleasedStand : Type 0
UnreleasedStand =
    (c : Config) (es : List Event) → IsWithinLimits c → LayoutStands c (left c es)
    → (i : ℕ) → (placed_at (left c es).allocations i).released ≡ false
    → StandsUsed c (left c es) (placed_at (left c es).allocations i)

-- and no two are of one cell.
abbrev pub UnreleasedAreApart : Type 0
UnreleasedAreApart =
    (c : Config) (es : List Event) → LayoutStands c (left c es)
    → (i j : ℕ) → (placed_at (left c es).allocations i).released ≡ false
    → (placed_at (left c es).allocations j).released ≡ false
    → cell_of_allocation c (placed_at (left c es).allocations i)
    ≡ cell_of_allocation c (placed_at (left c es).allocations j) → i ≡ j

-- While nothing is on its way, the headers and used bits are those of the unreleased storage,
abbrev pub HeadersStand : Type 0
HeadersStand =
    (c : Config) (es : List Event) → IsWithinLimits c → LayoutStands c (left c es) → IsSettled (left c es)
    → PagesStandFor (left c es).now.words.pages (unreleased_storage c (left c es).allocations)

-- and first fit over the words finds the place among the allocations.
abbrev pub FirstFitIsThePlace : Type 0
FirstFitIsThePlace =
    (c : Config) (es : List Event) (o : Object) → IsWithinLimits c → LayoutStands c (left c es) → IsSettled (left c es)
    → place_on_pages c.resident (left c es).now.words.pages o
    ≡ place_among_allocations c o.words o.leaf (left c es).allocations
