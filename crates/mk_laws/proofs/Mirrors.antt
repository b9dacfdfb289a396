-- A world mirrors the heap that never reuses storage: the group of facts that each admitted event keeps.
use Rattle.std.specs.Prelude.{◌≡◌, ℕ, ◌*◌, true, length, Some}
use Rattle.mk_never.specs.{declared.values.Value.TheVariants.Ptr, NeverHeap.{NeverState, register_at}, Admitted.IsTyped}
use Rattle.mk_core.specs.declared.{config.Config.Config, events.Seat.TheVariants.Caller}
use Rattle.mk_core.specs.{declared.seats.RunPages.RunPages, Calls.p_of, Moments.flight_of, Allocations.placed_at}
use Rattle.mk_core.specs.History.{World}
use Rattle.mk_laws.proofs.{Protocol.is_decided_free, Images.{image_scene_of, AreImages, AreTwins}}
use Rattle.mk_laws.proofs.SafeSets.{HasSafeSet}

-- The register points into the allocation of the run.
pub record PointsAtRun (w : World) (n : NeverState) (k r : ℕ) (run : RunPages) : Type 0 where
  pub number : ℕ
  pub ty : ℕ
  pub offset : ℕ
  pub is : register_at n k r ≡ Ptr number ty offset
  pub base : (placed_at w.allocations number).base ≡ 64 * run.page

-- A Free's register points into the run that the call unmaps.
abbrev pub OwnsFreedRun : World → NeverState → Type 0
OwnsFreedRun w n =
    (run : RunPages) → w.now.seats.holding.freed ≡ Some run → (k : ℕ)
    → is_decided_free (flight_of w.now (Caller k)) ≡ true
    → PointsAtRun w n k (p_of (flight_of w.now (Caller k)).op) run

-- The heap that never reuses storage is that of the world: registers, globals and words are the images.
pub record Mirrors (c : Config) (w : World) (n : NeverState) : Type 0 where
  -- That heap has the types, the callers' registers and the globals of the configuration, and its values are typed.
  pub types : n.types ≡ c.types
  pub register_count : length n.registers ≡ 8 * c.callers
  pub global_count : length n.globals ≡ 64
  pub typed : IsTyped c.globals n
  -- Its allocations are those of the world,
  pub twins : AreTwins w.allocations n
  -- whose words are the images of its values.
  pub images : AreImages (image_scene_of w) n
  -- A call keeps the pointer to the run that it unmaps.
  pub freed_run : OwnsFreedRun w n
  -- What a program can get to isn't released.
  pub safe : HasSafeSet w.allocations n
