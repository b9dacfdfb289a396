-- What stays still in the stop, after the inner engine's marks. `Why` cites `view_of`, `IsToldBefore` and
-- `IsClosedBefore`; only private functions cite the other words.
use Rattle.std.specs.Prelude.{ℕ, ◌*◌, ◌==◌, min, if◌then◌else◌, ◌≡◌, List, []}
use Rattle.mk_core.specs.{Allocations.{PlacedAllocation, placed_at}, History.World, Moments.nothing_done}
use Rattle.mk_core.specs.{Readings.NoneAttends, Words.Words, declared.config.Config.Config}
use Rattle.mk_sweep.specs.Below.Words.{States.{PassState, TurnState, now_of, world_of}, TurnSteps.IsStopped, Steps.Does}
use Rattle.mk_sweep.specs.Below.Cycles.{EngineLaw.{IsAtPhase, IsFreeForCycle}, TurnKeeps.{LeavesTurn, but_phase}}
use Rattle.mk_sweep.specs.Below.Cycles.TurnKeeps.{is_look}

-- The number of pages of the inner engine if tables of this many words fit it, otherwise 0.
abbrev pub pages_for : ℕ → ℕ → ℕ
pages_for inner size = if size == 64 * min inner 4096 then inner else 0

-- the words but the phase, and the allocations
pub record View : Type 0 where
  pub words : Words
  pub allocations : List PlacedAllocation

-- what the search reads of a world
abbrev pub view_of : World → View
view_of w = record { words = record w.now.words { phase = 0 }; allocations = w.allocations }

-- what it reads of what the pass has seen
abbrev pub view_by : PassState → View
view_by p = view_of (world_of p)

-- a world with this view, of whose seats nothing is said
abbrev pub world_in : View → World
world_in v =
    record {
      now = record {
        words = v.words;
        seats = record { flights = []; holding = nothing_done; markers = [] };
        fresh_words = 0;
      };
      allocations = v.allocations;
    }

-- the heap word at which an allocation begins
abbrev pub base_at : View → ℕ → ℕ
base_at v b = (placed_at v.allocations b).base

-- The close is wanted while the gates of all others are held, no marker attends, and the turn is free for a cycle.
pub record IsStill (p : PassState) : Type 0 where
  pub free : IsFreeForCycle p
  pub gates : IsStopped p
  pub wanted : IsAtPhase p 2
  pub none : NoneAttends (now_of p)

-- The holder of the turn has looked, and all is still.
pub record LooksWhileStill (t u : TurnState) : Type 0 where
  pub table : u.pass.table ≡ t.pass.table
  pub does : Does is_look t.pass u.pass
  pub keeps : LeavesTurn but_phase t.pass u.pass
  pub view : view_by u.pass ≡ view_by t.pass
  pub still : IsStill u.pass

-- It was told of a world with this view, after which the holder looked.
pub record IsToldBefore (tells : Config → World → Type 0) (c : Config) (w : World) : Type 0 where
  pub before : World
  pub told : tells c before
  pub view : view_of w ≡ view_of before

-- The inner engine closed the marks so, and then the holder looked while all was still.
pub record IsClosedBefore (closes : PassState → PassState → Type 0) (p q : PassState) : Type 0 where
  pub inner : PassState
  pub part : closes p inner
  pub looks : Does is_look inner q
  pub view : view_by q ≡ view_by inner
