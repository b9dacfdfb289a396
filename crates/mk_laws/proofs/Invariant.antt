-- The invariant: all groups of facts that each event keeps together.
use Rattle.mk_never.specs.NeverHeap.{NeverState}
use Rattle.mk_core.specs.{declared.config.Config.Config, History.World}
use Rattle.mk_laws.proofs.{LayoutLaws.StandsInOrder, Mirrors.Mirrors, Guard.MarksStand, Zeros.HasZeros}
use Rattle.mk_laws.proofs.HeldRunGates.{HoldsRunGates}

-- All groups of facts, which every enabled event keeps.
pub record Invariant (c : Config) (w : World) (n : NeverState) : Type 0 where
  -- The pages show what stands on them, and the quarantine is that of the freed allocations.
  pub order : StandsInOrder c w
  -- Heap words that hold no value are 0.
  pub zeros : HasZeros c w
  -- While a run is being unmapped, the gates of all others are held.
  pub run_gates : HoldsRunGates c w
  -- Words are images of the values of the heap that never reuses storage.
  pub mirrors : Mirrors c w n
  -- While a cycle marks, black cells are guarded; from its `close` to its `release` the marks are closed.
  pub marks : MarksStand c w.now
