-- The snapshot's bits are those of the cycle's snapshot: the allocations that were freed and unreleased before its
-- `begin`.
use Rattle.std.specs.{Prelude.{◌≡◌, ℕ, true, false, List}, List.list_any}
use Rattle.mk_core.specs.{declared.{config.Config.Config, events.Event.Event}, Moments.IsWithinLimits}
use Rattle.mk_core.specs.{Words.phase_of, Allocations.placed_at, Cycles.{At, is_begin, is_quarantined}}
use Rattle.mk_core.specs.History.{first_world, left, AreEnabled}
use Rattle.mk_laws.proofs.{Quarantine.{is_cycling, has_bit_of}, LayoutLaws.LayoutPremisesFrom}

-- So it is up to the cycle's `end`, for each allocation that isn't released yet.
abbrev pub SnapshotsAreOfCycles : Type 0
SnapshotsAreOfCycles =
    (c : Config) (es : List Event) → IsWithinLimits c → AreEnabled c es → LayoutPremisesFrom c (first_world c) es
    → (begin : At is_begin es) → list_any (λ (e : Event). is_begin e.step) begin.behind ≡ false
    → is_cycling (phase_of (left c es).now.words) ≡ true → (i : ℕ)
    → (placed_at (left c es).allocations i).released ≡ false
    → has_bit_of c (left c es).now.words.snapshot (placed_at (left c es).allocations i)
    ≡ is_quarantined (placed_at (left c begin.before).allocations i)
