-- Chains: how words lead from a root to an allocation, at the close of the marks. What they lead to is swept as well.
use Rattle.std.specs.Prelude.{◌≡◌, ℕ, ◌<◌, ◌≤◌, Bool, true, ◌&&◌, List, [], ◌∷◌, length, map, slice_index, Option, Some}
use Rattle.std.specs.{Prelude.None, List.{Contains, Sorted.IsStrictlyIncreasing}}
use Rattle.mk_geom.specs.{Addresses.address_of, Storages.IsWordOf}
use Rattle.mk_core.specs.{declared.config.Config.Config, Allocations.{placed_at, storage_of, storage_words}}
use Rattle.mk_core.specs.{Cycles.{is_marked_allocation, is_scanned_allocation, PointsIntoAllocation}, History.World}
use Rattle.mk_core.specs.Words.{Words, register_word}
use Rattle.mk_sweep.specs.{Below.Cycles.FinishCycle.is_in_snapshot_of_cycle, Sweeps.IsSwept}
use Rattle.mk_why.specs.declared.kept.{Kept.Kept, Root.Root}
use Rattle.mk_why.specs.declared.kept.Root.TheVariants.{Register, Global}

-- A root is a register of a caller that there is, or a global.
abbrev pub IsRoot : Config → Root → Type 0
IsRoot c (Register caller register) = (caller < c.callers) × (register < 8)
IsRoot c (Global global) = global < 64

-- what the register or global holds
abbrev pub word_of_root : Words → Root → ℕ
word_of_root w (Register caller register) = register_word w caller register
word_of_root w (Global global) = slice_index w.globals global

-- A link is the address of a word of the one allocation, which is mapped and not leaf. The word points into the other.
pub record IsLink (c : Config) (w : World) (a link b : ℕ) : Type 0 where
  pub word : ℕ
  pub address : link ≡ address_of word
  pub scanned : is_scanned_allocation c (placed_at w.allocations a) ≡ true
  pub of_the_one : IsWordOf (storage_of c (placed_at w.allocations a)) word
  pub to_the_other : PointsIntoAllocation c w (slice_index w.now.words.heap word) b

-- Links lead from one allocation to another, each through one more.
abbrev pub LinksLead : Config → World → ℕ → List ℕ → ℕ → Type 0
LinksLead c w a [] b = a ≡ b
LinksLead c w a (link ∷ links) b = (next : ℕ) × IsLink c w a link next × LinksLead c w next links b

-- The root's word points into a first allocation, from which the links lead to this one.
pub record IsChain (c : Config) (w : World) (root : Root) (links : List ℕ) (b : ℕ) : Type 0 where
  pub first : ℕ
  pub there : IsRoot c root
  pub points : PointsIntoAllocation c w (word_of_root w.now.words root) first
  pub leads : LinksLead c w first links b

-- Why the allocation is kept: a shortest chain, or that there is none.
abbrev pub IsWhy : Config → World → ℕ → Option Root → List ℕ → Type 0
IsWhy c w b (Some root) links =
    IsChain c w root links b
    × ((other : Root) (others : List ℕ) → IsChain c w other others b → length links ≤ length others)
IsWhy c w b None links = (links ≡ []) × ((root : Root) (others : List ℕ) → IsChain c w root others b → ⊥)

-- The allocation is of the cycle's snapshot, and its cell is marked.
abbrev pub is_kept : Config → World → ℕ → Bool
is_kept c w b =
    is_in_snapshot_of_cycle (placed_at w.allocations b)
    && is_marked_allocation c w.now.words (placed_at w.allocations b)

-- The entry is that of this allocation.
pub record IsEntryOf (c : Config) (w : World) (entry : Kept) (b : ℕ) : Type 0 where
  pub kept : is_kept c w b ≡ true
  pub address : entry.address ≡ address_of (placed_at w.allocations b).base
  pub words : entry.words ≡ storage_words c (placed_at w.allocations b)
  pub why : IsWhy c w b entry.root entry.links.items

-- These are the entries of the allocations that are kept: one of each, by ascending address.
pub record AreKept (c : Config) (w : World) (entries : List Kept) : Type 0 where
  pub ascending : IsStrictlyIncreasing (map (λ (entry : Kept). entry.address) entries)
  pub of_one : (entry : Kept) → Contains entries entry → (b : ℕ) × IsEntryOf c w entry b
  pub each : (b : ℕ) → is_kept c w b ≡ true → (entry : Kept) × Contains entries entry × IsEntryOf c w entry b

-- What a chain leads to is swept.
abbrev pub ChainsAreSwept : Type 0
ChainsAreSwept =
    (c : Config) (w : World) (root : Root) (links : List ℕ) (b : ℕ) → IsChain c w root links b → IsSwept c w b
