-- What happens to the storage of a heap, in deeds of seven kinds: what quarantine costs, and why a New is full.
use Rattle.std.specs.Prelude.{◌≡◌, ℕ, ◌+◌, ◌*◌, ◌≤◌, Bool, true, false, ◌&&◌, not, ◌==◌, if◌then◌else◌, List, [], ◌∷◌}
use Rattle.std.specs.{Prelude.{◌++◌, map, filter, sum_by, Option, Some, None}, List.list_any}
use Rattle.mk_never.specs.{declared.operations.Op.TheVariants.New, NeverHeap.Call, Types.kinds_of}
use Rattle.mk_geom.specs.declared.addresses.Cell.{Cell}
use Rattle.mk_core.specs.Allocations.{FitsAmongAllocations, PlacedAllocation, fresh_words_of, held_by_allocations}
use Rattle.mk_core.specs.{Allocations.{is_mapped, storage_words, type_made, with_released}, NewPlaces.object_of}
use Rattle.mk_core.specs.declared.{config.Config.Config, events.{Event.Event, Step.Step}}
use Rattle.mk_core.specs.{declared.seats.Flight.Flight, Accesses.granted_base, Cells.first_word, Calls.asked}
use Rattle.mk_core.specs.{Moments.flight_of, History.{IsHistory, World, call_decided, first_world, left, world_behind}}
use Rattle.mk_core.specs.{Words.Words, TurnConditions.cell_freed}
use Rattle.mk_alloc.specs.Bounds.{QuarantineIsBounded, given_back}

-- An allocation is named by the heap word at which it begins: among those that aren't released no other begins there.
pub data Deed : Type 0 where
  -- A call is decided. The flag of a New says whether it was full.
  Asked : Call → Deed
  -- An object of this type is granted,
  Grants : (base ty : ℕ) → Deed
  -- the allocation here is freed,
  Frees : (base : ℕ) → Deed
  -- and these are released: their storage may be used again.
  Releases : (bases : List ℕ) → Deed
  -- A cycle begins, and ends, and somebody's turn ends.
  Begins Ends TurnEnds : Deed

-- an unreleased allocation that begins at this heap word
abbrev pub begins_at : ℕ → PlacedAllocation → Bool
begins_at base a = not a.released && (a.base == base)

-- one that begins at one of these
abbrev pub begins_at_one : List ℕ → PlacedAllocation → Bool
begins_at_one bases a = not a.released && list_any (λ base. a.base == base) bases

-- the allocations after a deed, where they were these before it
abbrev pub after_deed : Deed → List PlacedAllocation → List PlacedAllocation
after_deed (Deed.Grants base ty) xs =
    xs ++ record { base = base; ty = ty; freed = false; fresh = false; released = false } ∷ []
after_deed (Deed.Frees base) xs =
    map (λ (a : PlacedAllocation). if begins_at base a then record a { freed = true; fresh = true } else a) xs
after_deed (Deed.Releases bases) xs =
    map (λ (a : PlacedAllocation). if begins_at_one bases a then record a { released = true } else a) xs
after_deed Deed.Begins xs = map (λ (a : PlacedAllocation). record a { fresh = false }) xs
after_deed _ xs = xs

-- the allocations after deeds, where they were these before the first
unfoldable pub storage_from : List PlacedAllocation → List Deed → List PlacedAllocation
storage_from xs [] = xs
storage_from xs (d ∷ ds) = storage_from (after_deed d xs) ds

-- The allocations that deeds leave.
abbrev pub storage_after : List Deed → List PlacedAllocation
storage_after ds = storage_from [] ds

-- the storage words that releases gave back since the last cycle began: after a deed, where they were n before it
abbrev pub back_after : Config → List PlacedAllocation → ℕ → Deed → ℕ
back_after c xs n Deed.Begins = 0
back_after c xs n (Deed.Releases bases) =
    n + sum_by (storage_words c) (filter (λ a. is_mapped c a && begins_at_one bases a) xs)
back_after c xs n _ = n

-- what was given back after deeds, where it was so much before the first
unfoldable pub back_from : Config → List PlacedAllocation → ℕ → List Deed → ℕ
back_from c xs n [] = n
back_from c xs n (d ∷ ds) = back_from c (after_deed d xs) (back_after c xs n d) ds

-- it ends a turn
abbrev pub ends_turn : Deed → Bool
ends_turn Deed.TurnEnds = true
ends_turn _ = false

-- it begins a cycle
abbrev pub begins_cycle : Deed → Bool
begins_cycle Deed.Begins = true
begins_cycle _ = false

-- It holds of what was done before, whenever a turn ends.
abbrev pub AtTurnEnds : (List Deed → Type 0) → List Deed → Type 0
AtTurnEnds claim ds = (front more : List Deed) → ds ≡ front ++ Deed.TurnEnds ∷ more → claim front

-- Four times what was freed since the last cycle began is at most what is held and was given back since,
abbrev pub QuarterWithGivenBack : Config → List Deed → Type 0
QuarterWithGivenBack c ds =
    4 * fresh_words_of c (storage_after ds) ≤ held_by_allocations c (storage_after ds) + back_from c [] 0 ds

-- and at most what is held alone,
abbrev pub QuarterOfHeld : Config → List Deed → Type 0
QuarterOfHeld c ds = 4 * fresh_words_of c (storage_after ds) ≤ held_by_allocations c (storage_after ds)

-- where no turn ended between the begin of the last cycle and what it released.
abbrev pub ReleasesInTurnOfBegin : List Deed → Type 0
ReleasesInTurnOfBegin ds =
    (before since marking rest : List Deed) (bases : List ℕ) → ds ≡ before ++ Deed.Begins ∷ since
    → list_any begins_cycle since ≡ false → since ≡ marking ++ Deed.Releases bases ∷ rest
    → list_any ends_turn marking ≡ false

-- In the turn that these deeds end in, a cycle began, released and ended.
pub record HasWholeCycle (ds : List Deed) : Type 0 where
  pub before : List Deed
  pub marking : List Deed
  pub bases : List ℕ
  pub freeing : List Deed
  pub behind : List Deed
  pub is : ds ≡ before ++ Deed.Begins ∷ (marking ++ Deed.Releases bases ∷ (freeing ++ Deed.Ends ∷ behind))
  pub in_one_turn : list_any ends_turn (marking ++ (freeing ++ behind)) ≡ false

-- Each New that is full came after a whole cycle of its own turn, and its object fits nowhere.
abbrev pub FullsHaveCauses : Config → List Deed → Type 0
FullsHaveCauses c ds =
    (front more : List Deed) (k d ty : ℕ)
    → ds ≡ front ++ Deed.Asked (record { caller = k; op = New d ty true }) ∷ more → HasWholeCycle front
    × (FitsAmongAllocations c (object_of (kinds_of c.types ty)).words (object_of (kinds_of c.types ty)).leaf
    (storage_after front) → ⊥)

-- The allocation of a cell is freed, if there is a cell.
abbrev pub frees_at : Words → Option Cell → List Deed
frees_at w (Some cell) = Deed.Frees (first_word w cell) ∷ []
frees_at w None = []

-- where the allocations begin that a `release` here releases
abbrev pub bases_released : Config → World → List ℕ
bases_released c w = map (λ (a : PlacedAllocation). a.base)
    (filter (λ a. not a.released && (with_released c w.now.words a).released) w.allocations)

-- what a step of a seat whose call is f does to the storage
abbrev pub done_by : Config → World → Flight → Step → List Deed
done_by c w f Step.Grant = Deed.Grants (granted_base c f w.now.seats.holding.placing) (type_made f.op) ∷ []
done_by c w f (Step.Quar p v) = frees_at w.now.words (cell_freed c.pages w.now.words f p v)
done_by c w f Step.Release = Deed.Releases (bases_released c w) ∷ []
done_by c w f Step.Begin = Deed.Begins ∷ []
done_by c w f Step.End = Deed.Ends ∷ []
done_by c w f Step.Give = Deed.TurnEnds ∷ []
done_by c w f _ = []

-- the deeds of an event: the call that it decides, and what it does
abbrev pub deeds_by : Config → World → Event → List Deed
deeds_by c w e = map Deed.Asked (asked (call_decided c w.now e)) ++ done_by c w (flight_of w.now e.seat) e.step

-- the deeds of events that come after this world
unfoldable pub deeds_from : Config → World → List Event → List Deed
deeds_from c w [] = []
deeds_from c w (e ∷ es) = deeds_by c w e ++ deeds_from c (world_behind c w e) es

-- Each history has its deeds,
abbrev pub deeds_of : Config → List Event → List Deed
deeds_of c es = deeds_from c (first_world c) es

-- which leave its allocations,
abbrev pub DeedsLeaveTheStorage : Type 0
DeedsLeaveTheStorage = (c : Config) (es : List Event) → storage_after (deeds_of c es) ≡ (left c es).allocations

-- and as many words are given back.
abbrev pub DeedsGiveBack : Type 0
DeedsGiveBack = (c : Config) (es : List Event) → back_from c [] 0 (deeds_of c es) ≡ given_back c es

-- What quarantine costs, whenever a turn ends; `on` says whether cycles go on after the calls that begin them.
pub record DeedsBoundQuarantine (on : Bool) (c : Config) (ds : List Deed) : Type 0 where
  pub quarter : AtTurnEnds (QuarterWithGivenBack c) ds
  pub in_turn : AtTurnEnds (λ (front : List Deed). ReleasesInTurnOfBegin front → QuarterOfHeld c front) ds
  pub of_held : on ≡ false → AtTurnEnds (QuarterOfHeld c) ds

-- Where quarantine is bounded over the events of a history, it is over its deeds.
abbrev pub BoundsAreOverDeeds : Type 0
BoundsAreOverDeeds = (on : Bool) (c : Config) (es : List Event) → IsHistory c es → QuarantineIsBounded on c es
    → DeedsBoundQuarantine on c (deeds_of c es)

-- The deeds of each history say why a New is full.
abbrev pub DeedsSayWhyFull : Type 0
DeedsSayWhyFull = (c : Config) (es : List Event) → IsHistory c es → FullsHaveCauses c (deeds_of c es)
