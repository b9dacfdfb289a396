-- What a cycle's `release` releases, and precision: it releases whatever the cycle doesn't reach by pointers.
use Rattle.std.specs.Prelude.{◌≡◌, ◌↔◌, ℕ, true, false, List, [], ◌∷◌, ◌++◌, ◌+◌, ◌*◌, Contains}
use Rattle.mk_never.specs.Laws.{IsReachable}
use Rattle.mk_geom.specs.{PageUses.Nothing, Storages.{Storage, is_small, is_cell_taken, stands_on, use_of_storages}}
use Rattle.mk_geom.specs.Storages.{IsWordOf}
use Rattle.mk_core.specs.declared.{config.Config.Config, events.{Event.Event, Seat.Seat}}
use Rattle.mk_core.specs.{Cells.is_marked, Allocations.{PlacedAllocation, placed_at, cell_of_allocation, storage_of}}
use Rattle.mk_core.specs.{Allocations.unreleased_storage, Cycles.{Releasing, IsInSnapshot, before_release, is_release}}
use Rattle.mk_core.specs.{Cycles.{Cycle, NoneSweeps, before_end, IsTouched}, History.{left, never_behind}}
use Rattle.mk_core.specs.declared.events.Step.{Step}

-- an allocation before a cycle's `release`, and after it

-- an allocation before the `release`
abbrev pub allocation_before : Config → {es : List Event} → Releasing es → ℕ → PlacedAllocation
allocation_before c r i = placed_at (left c (before_release r)).allocations i

-- the same allocation after it
abbrev pub allocation_behind : Config → {es : List Event} → Releasing es → ℕ → PlacedAllocation
allocation_behind c r i = placed_at (left c (before_release r ++ r.release.at.event ∷ [])).allocations i

-- Of the unreleased allocations those are released that are in the cycle's snapshot and have no mark,
abbrev pub ReleasesAreExact : Config → List Event → Type 0
ReleasesAreExact c es =
    (r : Releasing es) (i : ℕ) → (allocation_before c r i).released ≡ false
    → ((allocation_behind c r i).released ≡ true)
    ↔ (IsInSnapshot c r.marking i
    × (is_marked (left c (before_release r)).now.words (cell_of_allocation c (allocation_before c r i)) ≡ false))

-- and none that a program can get to.
abbrev pub ReleasesNoneReached : Config → List Event → Type 0
ReleasesNoneReached c es =
    (r : Releasing es) (number : ℕ) → IsReachable (never_behind c (before_release r)) number
    → (allocation_behind c r number).released ≡ false

-- No other kind of event releases any.
abbrev pub NoOthersRelease : Config → List Event → Type 0
NoOthersRelease c es =
    (front rest : List Event) (e : Event) → es ≡ front ++ e ∷ rest → is_release e.step ≡ false
    → (i : ℕ) → (placed_at (left c front).allocations i).released ≡ false
    → (placed_at (left c (front ++ e ∷ [])).allocations i).released ≡ false

-- Each `release` is that of a cycle.
abbrev pub ReleasesAreOfCycles : Config → List Event → Type 0
ReleasesAreOfCycles c es =
    (front rest : List Event) (seat : Seat) → es ≡ front ++ record { seat = seat; step = Step.Release } ∷ rest
    → (r : Releasing es) × (before_release r ≡ front)

-- the events through a cycle's `release`, and through its `end`, from the first of all on
abbrev pub through_release : {es : List Event} → Releasing es → List Event
through_release k = before_release k ++ k.release.at.event ∷ []

-- the events up to a cycle's `end`
abbrev pub through_end : {es : List Event} → Cycle es → List Event
through_end k = before_end k ++ k.end.at.event ∷ []

-- What a cycle's `release` keeps of its snapshot is touched:
abbrev pub KeepsOnlyTheTouched : Config → List Event → Type 0
KeepsOnlyTheTouched c es =
    (k : Releasing es) → NoneSweeps c k.marking → (i : ℕ) → IsInSnapshot c k.marking i
    → (placed_at (left c (through_release k)).allocations i).released ≡ false → IsTouched c k.marking i

-- This cycle releases each allocation of its snapshot that it didn't touch.
abbrev pub ReleasesUntouched : Config → {es : List Event} → Releasing es → Type 0
ReleasesUntouched c k =
    (i : ℕ) → IsInSnapshot c k.marking i → (IsTouched c k.marking i → ⊥)
    → (placed_at (left c (through_release k)).allocations i).released ≡ true

-- So does each cycle without a sweeping mark.
abbrev pub ReleasesTheUntouched : Config → List Event → Type 0
ReleasesTheUntouched c es = (k : Releasing es) → NoneSweeps c k.marking → ReleasesUntouched c k

-- A storage counts as free among these.
pub record CountsAsFree (storages : List Storage) (s : Storage) : Type 0 where
  -- None of them has a word of it.
  pub apart : (t : Storage) → Contains storages t → (n : ℕ) → IsWordOf s n → IsWordOf t n → ⊥
  -- So place and fits, which read only these storages, find that no cell that begins where it does is taken,
  pub cell : (page words k : ℕ) → s.first ≡ 64 * page + k * words → is_cell_taken storages page words k ≡ false
  -- and that nothing stands on the pages of a large one.
  pub pages : is_small s ≡ false → (page : ℕ) → stands_on page s ≡ true → use_of_storages storages page ≡ Nothing

-- After this cycle's `end` what it didn't touch of its snapshot counts as free.
abbrev pub FreesUntouched : Config → {es : List Event} → Cycle es → Type 0
FreesUntouched c k =
    (i : ℕ) → IsInSnapshot c k.releasing.marking i → (IsTouched c k.releasing.marking i → ⊥)
    → CountsAsFree (unreleased_storage c (left c (through_end k)).allocations)
    (storage_of c (placed_at (left c (through_end k)).allocations i))

-- So it does after each cycle without a sweeping mark.
abbrev pub FreesTheUntouched : Config → List Event → Type 0
FreesTheUntouched c es = (k : Cycle es) → NoneSweeps c k.releasing.marking → FreesUntouched c k

-- Each cycle of the history releases what it doesn't touch of its snapshot, and frees it.
pub record CyclesArePrecise (c : Config) (es : List Event) : Type 0 where
  pub releases : (k : Releasing es) → ReleasesUntouched c k
  pub frees : (k : Cycle es) → FreesUntouched c k
