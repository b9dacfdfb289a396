-- Sets of allocations that have all that a program can get to, and none that is released.
use Rattle.std.specs.Prelude.{◌≡◌, ℕ, Bool, true, false, List, slice_index_or}
use Rattle.mk_never.specs.{declared.values.Value.Value, declared.values.Value.TheVariants.{Null, Num, Ptr}}
use Rattle.mk_never.specs.NeverHeap.{NeverState, global_at, allocation_at, word_at, is_unmapped}
use Rattle.mk_core.specs.Allocations.{PlacedAllocation, placed_at}

-- a pointer into an allocation of the set, or none
abbrev pub IsSafe : (ℕ → Bool) → Value → Type 0
IsSafe safe Null = Unit {0}
IsSafe safe (Num m) = Unit {0}
IsSafe safe (Ptr number ty offset) = safe number ≡ true

-- Of the set is all that registers and globals point to, and all that words of its mapped allocations point to. None of
-- it is released.
pub record IsSafeSet (safe : ℕ → Bool) (xs : List PlacedAllocation) (n : NeverState) : Type 0 where
  pub registers : (k : ℕ) → IsSafe safe (slice_index_or n.registers k Null)
  pub globals : (g : ℕ) → IsSafe safe (global_at n g)
  pub closed : (a i : ℕ) → safe a ≡ true → is_unmapped (allocation_at n a) ≡ false → IsSafe safe (word_at n a i)
  pub unreleased : (a : ℕ) → safe a ≡ true → (placed_at xs a).released ≡ false

-- There is a set of allocations that has all that is reached and nothing that is released.
abbrev pub HasSafeSet : List PlacedAllocation → NeverState → Type 0
HasSafeSet xs n = (safe : ℕ → Bool) × IsSafeSet safe xs n
