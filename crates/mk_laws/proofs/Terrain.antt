-- The scene of a world: what the allocations, the place of a New and the run of a Free claim.
use Rattle.std.specs.Prelude.{◌≡◌, ℕ, ◌-◌, ◌/◌, ◌<◌, Bool, true, false, ◌&&◌, not, ◌==◌, List, [], ◌∷◌, ◌++◌, length}
use Rattle.std.specs.Prelude.{Option, Some, None, if◌then◌else◌}
use Rattle.mk_geom.specs.declared.{addresses.Cell.Cell, pages.Place.Place}
use Rattle.mk_core.specs.declared.{config.Config.Config, events.Seat.TheVariants.Caller}
use Rattle.mk_core.specs.declared.seats.{Object.Object, Placing.Placing}
use Rattle.mk_core.specs.declared.seats.{Placing.TheVariants.{Chosen, Used}, RunPages.RunPages}
use Rattle.mk_core.specs.{Moments.{Moment, flight_of, is_phase}, NewPlaces.{object_made, is_small_object, pages_made}}
use Rattle.mk_core.specs.Allocations.{PlacedAllocation, placed_at, cell_of_allocation}
use Rattle.mk_core.specs.{Allocations.{object_placed, BeginsAtCell}, History.World}
use Rattle.mk_laws.proofs.{Grounds.{Ground, ground_of}, LayoutScene.{Mode, Mapped, Unmapping, Unmapped, Claim, Among}}
use Rattle.mk_laws.proofs.LayoutScene.{Plot, NoPlot, Plotted, LayoutScene, IsLaidOn}

-- The call under way freed the run with its head there.
abbrev pub is_unmapping : Option RunPages → ℕ → Bool
is_unmapping None p = false
is_unmapping (Some run) p = run.page == p

-- by whether it is a freed large object's, and whether the call under way freed it
abbrev pub mode_of : Bool → Bool → Mode
mode_of false going = Mapped
mode_of true true = Unmapping
mode_of true false = Unmapped

-- the claim of an unreleased allocation
abbrev pub claim_of : Config → Option RunPages → PlacedAllocation → Claim
claim_of c run a =
    record {
      page = a.base / 64;
      index = (cell_of_allocation c a).index;
      object = object_placed c a;
      mode = mode_of (a.freed && not (is_small_object (object_placed c a))) (is_unmapping run (a.base / 64));
    }

-- the claims of the unreleased allocations
abbrev pub claims_of : Config → Option RunPages → List PlacedAllocation → List Claim
claims_of c run [] = []
claims_of c run (a ∷ xs) = if a.released then claims_of c run xs else claim_of c run a ∷ claims_of c run xs

-- the claim of a New's place, from the step on that takes its cell
abbrev pub place_claim : Object → Place → Claim
place_claim o place = record { page = place.page; index = place.index; object = o; mode = Mapped }

-- the claim of a New whose cell is used already
abbrev pub claims_placed : Object → Placing → List Claim
claims_placed o (Used place) = place_claim o place ∷ []
claims_placed o _ = []

-- the pages of a New whose place is chosen
abbrev pub plot_of : Object → Placing → Plot
plot_of o (Chosen place) = Plotted place.page o
plot_of o _ = NoPlot

-- the claims of a ground, if the object of the turn's holder is this one
abbrev pub claims_on : Config → Object → Ground → List Claim
claims_on c o t = claims_of c t.run t.allocations ++ claims_placed o t.placing

-- what the layout reads
abbrev pub layout_scene_of : Config → Object → Bool → List ℕ → Ground → LayoutScene
layout_scene_of c o releasing marks t =
    record {
      pages = t.pages;
      claims = claims_on c o t;
      plot = plot_of o t.placing;
      releasing = releasing;
      snapshot = t.snapshot;
      marks = marks;
    }

-- The run that a call freed is that of an unreleased allocation.
pub record IsClaimedRun (claims : List Claim) (run : RunPages) : Type 0 where
  pub claim : Claim
  pub among : Among claim claims
  pub page : claim.page ≡ run.page
  pub count : pages_made claim.object ≡ run.count
  pub large : is_small_object claim.object ≡ false
  pub mode : claim.mode ≡ Unmapping

-- The run that a Free unmaps is a claim's.
abbrev pub RunStands : List Claim → Option RunPages → Type 0
RunStands claims None = Unit {0}
RunStands claims (Some run) = IsClaimedRun claims run

-- An allocation has a type that there is, and begins at a cell.
pub record IsAtCell (c : Config) (a : PlacedAllocation) : Type 0 where
  pub typed : a.ty < length c.types
  pub begins : BeginsAtCell (object_placed c a) a.base

-- The cell is that of an unreleased allocation.
pub record IsCellOf (c : Config) (xs : List PlacedAllocation) (cell : Cell) : Type 0 where
  pub number : ℕ
  pub unreleased : (placed_at xs number).released ≡ false
  pub is : cell_of_allocation c (placed_at xs number) ≡ cell

-- A place that is chosen is cell 0 of its first page.
abbrev pub IsFirst : Placing → Type 0
IsFirst (Chosen place) = place.index ≡ 0
IsFirst _ = Unit {0}

-- The claims are laid out on these pages.
pub record HasLayout (c : Config) (o : Object) (releasing : Bool) (marks : List ℕ) (t : Ground) : Type 0 where
  pub scene : IsLaidOn (layout_scene_of c o releasing marks t)
  pub gone : RunStands (claims_of c t.run t.allocations) t.run
  pub first : IsFirst t.placing
  pub cells : (i : ℕ) → (placed_at t.allocations i).released ≡ false → IsAtCell c (placed_at t.allocations i)

-- the object of the turn's holder, which has a place while its New is undecided
abbrev pub object_now : Config → Moment → Object
object_now c m = object_made c (flight_of m (Caller (m.words.turn - 1))).op

-- So they are in this world.
abbrev pub LayoutStands : Config → World → Type 0
LayoutStands c w = HasLayout c (object_now c w.now) (is_phase w.now.words 4) w.now.words.marks (ground_of w)
