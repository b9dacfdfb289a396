-- The quarantine: what the freed cells of the pages and their snapshot say of the allocations.
use Rattle.std.specs.Prelude.{Bool, List, false, nat_le, not, slice_index, true, ℕ, ◌&&◌, ◌<◌, ◌^◌, ◌≡◌, ◌⊎◌}
use Rattle.mk_geom.specs.declared.pages.Place.{Place}
use Rattle.mk_core.specs.{Allocations.{PlacedAllocation, cell_of_allocation, placed_at}, Words.has_bit}
use Rattle.mk_core.specs.{Cells.{cells_under, header_in}, History.World, Moments.is_phase, Words.phase_of}
use Rattle.mk_core.specs.declared.{config.Config.Config, seats.Placing.TheVariants.Used}
use Rattle.mk_laws.proofs.{LayoutScene.is_released_in, Grounds.{Ground, ground_of}}

-- The cell is that of an unreleased allocation that is freed.
pub record IsFreedCell (c : Config) (xs : List PlacedAllocation) (p k : ℕ) : Type 0 where
  pub number : ℕ
  pub unreleased : (placed_at xs number).released ≡ false
  pub freed : (placed_at xs number).freed ≡ true
  pub cell : cell_of_allocation c (placed_at xs number) ≡ record { page = p; index = k }

-- the bit of the allocation's cell
abbrev pub has_bit_of : Config → List ℕ → PlacedAllocation → Bool
has_bit_of c words a = has_bit (slice_index words (cell_of_allocation c a).page) (cell_of_allocation c a).index

-- The quarantine bits are those of the freed allocations.
pub record HasQuarantine (c : Config) (releasing : Bool) (marks : List ℕ) (t : Ground) : Type 0 where
  -- Both halves of a quarantine word fit it.
  pub small : (p : ℕ) → (slice_index t.freed p < 2 ^ 32) × (slice_index t.snapshot p < 2 ^ 32)
  -- The snapshot's bits are freed bits,
  pub within : (p k : ℕ) → has_bit (slice_index t.snapshot p) k ≡ true → has_bit (slice_index t.freed p) k ≡ true
  -- each of which is that of a freed allocation's cell or of a released one.
  pub owned : (p k : ℕ) → has_bit (slice_index t.freed p) k ≡ true
      → IsFreedCell c t.allocations p k ⊎ (is_released_in releasing t.snapshot marks p k ≡ true)
  -- A freed allocation has its freed bit.
  pub shown : (i : ℕ) → (placed_at t.allocations i).released ≡ false → (placed_at t.allocations i).freed ≡ true
      → has_bit_of c t.freed (placed_at t.allocations i) ≡ true
  -- A cell that is taken and not granted has none.
  pub taken : (place : Place) → t.placing ≡ Used place → has_bit (slice_index t.freed place.page) place.index ≡ false
  -- No unreleased allocation's cell is released.
  pub kept : releasing ≡ true → (i : ℕ) → (placed_at t.allocations i).released ≡ false
      → is_released_in true t.snapshot marks (cell_of_allocation c (placed_at t.allocations i)).page
      (cell_of_allocation c (placed_at t.allocations i)).index
      ≡ false

-- So it is in this world.
abbrev pub IsQuarantined : Config → World → Type 0
IsQuarantined c w = HasQuarantine c (is_phase w.now.words 4) w.now.words.marks (ground_of w)

-- Each freed bit is that of a cell of its page.
abbrev pub FreedCellsAreKnown : World → Type 0
FreedCellsAreKnown w = (p k : ℕ) → has_bit (slice_index w.now.words.freed p) k ≡ true
    → k < cells_under (header_in w.now.words p)

-- The phase is one of a cycle's, from its `begin` to its `end`.
abbrev pub is_cycling : ℕ → Bool
is_cycling phase = nat_le 1 phase && nat_le phase 4

-- What is freed after the last `begin` is fresh, and what was freed before it is the cycle's snapshot.
pub record HasSnapshot (c : Config) (cycling : Bool) (snapshot : List ℕ) (xs : List PlacedAllocation) : Type 0 where
  -- A fresh allocation is freed, and not released.
  pub fresh : (i : ℕ) → (placed_at xs i).fresh ≡ true
      → ((placed_at xs i).freed ≡ true) × ((placed_at xs i).released ≡ false)
  -- In a cycle, an unreleased allocation's cell is in the snapshot exactly if it is freed and not fresh.
  pub quarantined : cycling ≡ true → (i : ℕ) → (placed_at xs i).released ≡ false
      → has_bit_of c snapshot (placed_at xs i) ≡ ((placed_at xs i).freed && not (placed_at xs i).fresh)

-- While a cycle is on, the snapshot bits are those of what was freed when it began.
abbrev pub KeepsSnapshot : Config → World → Type 0
KeepsSnapshot c w = HasSnapshot c (is_cycling (phase_of w.now.words)) w.now.words.snapshot w.allocations
