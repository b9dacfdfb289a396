-- The pages of a run: its head, and the later pages after it.
use Rattle.std.specs.Prelude.{◌≡◌, ◌⊎◌, ℕ, ◌+◌, ◌<◌, ◌≤◌, Bool, true, List, length, Some}
use Rattle.mk_geom.specs.declared.{pages.Page.Page, headers.Header.TheVariants.Later}
use Rattle.mk_core.specs.{declared.config.Config.Config, Cells.heads_run, Moments.is_phase, History.World}
use Rattle.mk_laws.proofs.LayoutScene.{Plot, InPlot, header_on, used_on, shows_on}
use Rattle.mk_laws.specs.Theorems.{run_count}
use Rattle.mk_laws.proofs.Terrain.{plot_of, object_now}

-- The page so far after the head is a later one of the run. Before a New has used it, and while the phase is releasing,
-- it may be free, if no cell of the run is used.
abbrev pub HasLaterPage : List Page → Bool → Plot → ℕ → ℕ → Type 0
HasLaterPage pages releasing plot p distance =
    ((mapped : Bool) × (shows_on pages (p + distance) ≡ Some (Later distance mapped)))
    ⊎ ((header_on pages (p + distance) ≡ 0) × (used_on pages p ≡ 0) × ((releasing ≡ true) ⊎ InPlot plot p))

-- The run whose first page this is has all its later pages.
pub record RunIsWhole (pages : List Page) (releasing : Bool) (plot : Plot) (p : ℕ) : Type 0 where
  pub within : p + run_count (shows_on pages p) ≤ length pages
  pub later : (distance : ℕ) → 1 ≤ distance → distance < run_count (shows_on pages p)
      → HasLaterPage pages releasing plot p distance

-- All runs are whole.
abbrev pub HaveWholeRuns : List Page → Bool → Plot → Type 0
HaveWholeRuns pages releasing plot = (p : ℕ) → heads_run (shows_on pages p) ≡ true → RunIsWhole pages releasing plot p

-- So they are in this world.
abbrev pub RunsAreWhole : Config → World → Type 0
RunsAreWhole c w = HaveWholeRuns w.now.words.pages (is_phase w.now.words 4)
    (plot_of (object_now c w.now) w.now.seats.holding.placing)
