-- What the turn's steps change of a world, but for the phase and the marks.
use Rattle.std.specs.Prelude.{ℕ, List, Option}
use Rattle.mk_geom.specs.declared.pages.Page.{Page}
use Rattle.mk_core.specs.{declared.seats.Placing.Placing, declared.seats.RunPages.RunPages}
use Rattle.mk_core.specs.{Allocations.PlacedAllocation, History.World}

-- The pages and the quarantine words, how far the turn's holder is, and the allocations.
pub record Ground : Type 0 where
  pub pages : List Page
  pub freed : List ℕ
  pub snapshot : List ℕ
  pub placing : Placing
  pub run : Option RunPages
  pub allocations : List PlacedAllocation

-- what the layout and the quarantine read of a world
abbrev pub ground_of : World → Ground
ground_of w =
    record {
      pages = w.now.words.pages;
      freed = w.now.words.freed;
      snapshot = w.now.words.snapshot;
      placing = w.now.seats.holding.placing;
      run = w.now.seats.holding.freed;
      allocations = w.allocations;
    }
