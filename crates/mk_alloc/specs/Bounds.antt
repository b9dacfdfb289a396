-- How much memory quarantine takes, at each moment at which nobody holds the turn: what the last cycle kept, and more.
use Rattle.std.specs.Prelude.{◌≡◌, ◌⊎◌, ℕ, true, false, ◌&&◌, not, List, filter, sum_by, ◌+◌, ◌*◌, ◌<◌, ◌≤◌, Bool, []}
use Rattle.std.specs.Prelude.{◌∷◌, ◌++◌}
use Rattle.mk_geom.specs.Storages.{IsWordOf}
use Rattle.mk_core.specs.Allocations.{PlacedAllocation, is_mapped, placed_at, storage_words, fresh_words_of}
use Rattle.mk_core.specs.{Allocations.{held_by_allocations, storage_of, with_released}, Cycles.{Cycle, IsInSnapshot}}
use Rattle.mk_core.specs.Cycles.{NoneSweeps, is_end, is_quarantined, IsTouched, At, is_begin, is_give, is_release}
use Rattle.mk_core.specs.{History.{left, AreOfOthers, IsHistory, World, first_world, world_behind}, Words.phase_of}
use Rattle.mk_core.specs.declared.{config.Config.Config, events.Event.Event}
use Rattle.mk_core.specs.declared.events.{Seat.TheVariants.{Caller, Host}, Step.Step}
use Rattle.mk_alloc.specs.TurnCycles.{has_step, TurnsOfAreExact}
use Rattle.mk_caller.specs.Below.Laws.{WordLaws.is_resident_in, Promises.AtEachMoment}

-- The allocation was in the snapshot of the last cycle that ended, and is unreleased.
pub record IsKeptByLastCycle (c : Config) (es : List Event) (number : ℕ) : Type 0 where
  pub cycle : Cycle es
  pub last : has_step is_end cycle.end.at.behind ≡ false
  pub snapshot : IsInSnapshot c cycle.releasing.marking number
  pub unreleased : (placed_at (left c es).allocations number).released ≡ false

-- Where no cycle is on, since there is none or all is over, each allocation that is freed and unreleased was freed
-- after the last `begin`, or was kept by the last cycle,
abbrev pub QuarantineIsFreshOrKept : Config → List Event → Type 0
QuarantineIsFreshOrKept c es =
    (phase_of (left c es).now.words ≡ 0) ⊎ (phase_of (left c es).now.words ≡ 5)
    → (number : ℕ) → is_quarantined (placed_at (left c es).allocations number) ≡ true
    → ((placed_at (left c es).allocations number).fresh ≡ true) ⊎ IsKeptByLastCycle c es number

-- which kept it because pointers led to it, where it has no sweeping mark.
abbrev pub KeptAreTouched : Config → List Event → Type 0
KeptAreTouched c es =
    (number : ℕ) (k : IsKeptByLastCycle c es number) → NoneSweeps c k.cycle.releasing.marking
    → IsTouched c k.cycle.releasing.marking number

-- the words of mapped storage that is freed and not released
abbrev pub quarantined_mapped : Config → List PlacedAllocation → ℕ
quarantined_mapped c xs = sum_by (storage_words c) (filter (λ a. is_mapped c a && a.freed) xs)

-- those of it that were freed before the last `begin`: if no cycle is on, these are kept
abbrev pub kept_mapped : Config → List PlacedAllocation → ℕ
kept_mapped c xs = sum_by (storage_words c) (filter (λ a. is_mapped c a && a.freed && not a.fresh) xs)

-- the storage words that a `release` here gives back
abbrev pub words_given_back : Config → World → ℕ
words_given_back c w =
    sum_by (storage_words c) (filter (λ a. is_mapped c a && (with_released c w.now.words a).released) w.allocations)

-- The words that were given back since the last `begin`: after a step, where they were n before it.
abbrev pub given_back_behind : Config → World → Step → ℕ → ℕ
given_back_behind c w Step.Begin n = 0
given_back_behind c w Step.Release n = n + words_given_back c w
given_back_behind c w _ n = n

-- the words given back, counted on from n
unfoldable pub given_back_from : Config → World → ℕ → List Event → ℕ
given_back_from c w n [] = n
given_back_from c w n (e ∷ es) = given_back_from c (world_behind c w e) (given_back_behind c w e.step n) es

-- those of a history
abbrev pub given_back : Config → List Event → ℕ
given_back c es = given_back_from c (first_world c) 0 es

-- the words held after these events
abbrev pub held_after : Config → List Event → ℕ
held_after c es = held_by_allocations c (left c es).allocations

-- the words freed since the last `begin` after these events
abbrev pub fresh_after : Config → List Event → ℕ
fresh_after c es = fresh_words_of c (left c es).allocations

-- It holds after each front of the list that leaves the turn to nobody.
abbrev pub WhereTurnIsFree : (Config → List Event → Type 0) → Config → List Event → Type 0
WhereTurnIsFree claim c es =
    (front more : List Event) → es ≡ front ++ more → (left c front).now.words.turn ≡ 0 → claim c front

-- What was freed since the last `begin` is at most a quarter of what is held and was given back since,
abbrev pub FreshIsQuarterWithGivenBack : Config → List Event → Type 0
FreshIsQuarterWithGivenBack c es = 4 * fresh_after c es ≤ held_after c es + given_back c es

-- and of what is held alone
abbrev pub FreshIsQuarterOfHeld : Config → List Event → Type 0
FreshIsQuarterOfHeld c es = 4 * fresh_after c es ≤ held_after c es

-- where each `release` since the last `begin` stands in the turn of that `begin`: no turn is given back between them.
abbrev pub ReleasesInTurnOfBegin : List Event → Type 0
ReleasesInTurnOfBegin es =
    (b : At is_begin es) → has_step is_begin b.behind ≡ false → (r : At is_release b.behind)
    → has_step is_give r.before ≡ false

-- So all that quarantine holds in memory is at most a quarter of the same, and what was freed before the last `begin`.
abbrev pub QuarantineIsQuarterAndKept : Config → List Event → Type 0
QuarantineIsQuarterAndKept c es =
    4 * quarantined_mapped c (left c es).allocations
    ≤ held_after c es + given_back c es + 4 * kept_mapped c (left c es).allocations

-- No page of a freed large allocation is resident.
abbrev pub FreedRunsTakeNoMemory : Config → List Event → Type 0
FreedRunsTakeNoMemory c es =
    (number page : ℕ) → (placed_at (left c es).allocations number).released ≡ false
    → is_mapped c (placed_at (left c es).allocations number) ≡ false
    → IsWordOf (storage_of c (placed_at (left c es).allocations number)) (64 * page)
    → is_resident_in (left c es) page ≡ false

-- What quarantine costs in a history; `on` says whether cycles go on after the calls that begin them.
pub record QuarantineIsBounded (on : Bool) (c : Config) (es : List Event) : Type 0 where
  -- A quarter: of what is held and was given back, and of what is held alone where no `release` came in a later turn
  -- than its `begin`; so always where calls end the cycles that they begin.
  pub with_given_back : WhereTurnIsFree FreshIsQuarterWithGivenBack c es
  pub released_in_turn : WhereTurnIsFree (λ c es. ReleasesInTurnOfBegin es → FreshIsQuarterOfHeld c es) c es
  pub of_held : on ≡ false → WhereTurnIsFree FreshIsQuarterOfHeld c es
  -- In quarantine: what was freed since the last `begin`, and what the last cycle kept, since pointers led to it.
  pub quarantined : AtEachMoment QuarantineIsFreshOrKept c es
  pub kept : AtEachMoment KeptAreTouched c es
  pub in_memory : WhereTurnIsFree QuarantineIsQuarterAndKept c es
  -- Large ones hold no memory.
  pub large : WhereTurnIsFree FreedRunsTakeNoMemory c es

-- No caller steps after a `begin` of the host.
abbrev pub HostBeginsLast : Config → List Event → Type 0
HostBeginsLast c es =
    (before : List Event) (e : Event) (behind : List Event) → es ≡ before ++ e ∷ behind → is_begin e.step ≡ true
    → e.seat ≡ Host → (k : ℕ) → k < c.callers → AreOfOthers (Caller k ∷ []) behind

-- So it is in each history in which the turns of callers are exact, and the host begins no cycle before their end.
abbrev pub QuarantinesAreBounded : Type 0
QuarantinesAreBounded =
    (on : Bool) (c : Config) (es : List Event) → IsHistory c es
    → ((k : ℕ) → k < c.callers → TurnsOfAreExact on c (Caller k) es) → HostBeginsLast c es
    → QuarantineIsBounded on c es
