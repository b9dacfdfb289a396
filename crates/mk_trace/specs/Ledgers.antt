-- What is kept of freed objects while a trace is played: which are freed, and how many words were quarantined at most.
use Rattle.std.specs.Prelude.{◌≡◌, ℕ, ◌+◌, Bool, ◌==◌, List, [], ◌∷◌, if◌then◌else◌, ◌<◌, ◌≤◌, max, true, false, ◌++◌}
use Rattle.std.specs.Prelude.{length, Option, Some, None, ◌&&◌, ◌≢◌, not, map, filter, fold, sum_by, slice_index}
use Rattle.std.specs.{List.list_any, Option.{option_map_or, option_to_list}}
use Rattle.mk_never.specs.{declared.operations.Op.Op, declared.operations.Op.TheVariants.Free}
use Rattle.mk_never.specs.{declared.values.Value.Value, declared.values.Value.TheVariants.{Null, Num, Ptr}}
use Rattle.mk_never.specs.NeverHeap.{NeverState, after_calls, allocation_at, global_at, register_at}
use Rattle.mk_never.specs.Types.{kinds_of, is_large}
use Rattle.mk_geom.specs.declared.addresses.Cell.{Cell}
use Rattle.mk_core.specs.{declared.config.Config.Config, declared.events.Event.Event}
use Rattle.mk_core.specs.Allocations.{PlacedAllocation, placed_at, storage_words, cell_of_allocation}
use Rattle.mk_core.specs.{History.{left, never_behind}, Words.has_bit, Counts.{ends, in_a_word}, Cycles.is_quarantined}
use Rattle.mk_trace.specs.{declared.trace.TraceEvent.TraceEvent, Peaks.{greatest, quarantined_words, reserved_words}}
use Rattle.mk_trace.specs.{Peaks.{age_of, counted, found_by_ends, with_one}, Playing.{calls_of_caller, ops_of}}
use Rattle.mk_trace.specs.{Grammar.slot_of, declared.ledger.Freed.Freed, declared.ledger.FreedObject.FreedObject}
use Rattle.mk_trace.specs.declared.ledger.Peak.{Peak}

-- 1 if it is so, otherwise 0
abbrev pub one_if : Bool → ℕ
one_if b = if b then 1 else 0

-- how often the number stands there
abbrev pub times : ℕ → List ℕ → ℕ
times i [] = 0
times i (number ∷ numbers) = one_if (number == i) + times i numbers

-- The numbers that pass stand there once, and no others.
abbrev pub AreThose : (ℕ → Bool) → List ℕ → Type 0
AreThose test numbers = (i : ℕ) → times i numbers ≡ one_if (test i)

-- What an operation of the caller frees, and how many words were quarantined and reserved at most. Private functions
-- alone cite these words.

-- the allocation that the value points to, if it isn't freed yet
abbrev pub unfreed : NeverState → Value → Option ℕ
unfreed n Null = None
unfreed n (Num m) = None
unfreed n (Ptr number ty offset) = if (allocation_at n number).freed then None else Some number

-- the allocation that an operation of the caller frees, if it frees one
abbrev pub number_freed : NeverState → Op → Option ℕ
number_freed n (Free p) = unfreed n (register_at n 0 p)
number_freed n _ = None

-- A Free's register points to what the global points to.
abbrev pub FreesSlot : NeverState → ℕ → Op → Type 0
FreesSlot n slot o = (p : ℕ) → o ≡ Free p → register_at n 0 p ≡ global_at n slot

-- So it does wherever one comes among the operations of the event.
abbrev pub FreesItsSlot : NeverState → TraceEvent → Type 0
FreesItsSlot n event =
    (full : Bool) (before : List Op) (o : Op) (rest : List Op) → ops_of full event ≡ before ++ o ∷ rest
    → FreesSlot (after_calls n (calls_of_caller before)) (slot_of event) o

-- that of a large allocation, whose addresses are reserved
abbrev pub large_words : Config → PlacedAllocation → ℕ
large_words c a = if is_large (kinds_of c.types a.ty) then storage_words c a else 0

-- what this operation frees, by this measure
abbrev pub freed_words : Config → (PlacedAllocation → ℕ) → List Event → Op → ℕ
freed_words c words es o = option_map_or (λ (number : ℕ). words (placed_at (left c es).allocations number))
    (number_freed (never_behind c es) o) 0

-- The most meanwhile was before, or where the operation had freed its allocation.
abbrev pub IsMostWhereFreed : Config → (List PlacedAllocation → ℕ) → (PlacedAllocation → ℕ) → List Event → Op
    → List Event → Type 0
IsMostWhereFreed c measure words es o fs =
    greatest c measure fs ≡ max (greatest c measure es) (measure (left c es).allocations + freed_words c words es o)

-- Most is in quarantine right after the object is freed.
pub record QuarantinesMostWhereFreed (c : Config) (es : List Event) (o : Op) (fs : List Event) : Type 0 where
  pub quarantined : IsMostWhereFreed c (quarantined_words c) (storage_words c) es o fs
  pub reserved : IsMostWhereFreed c (reserved_words c) (large_words c) es o fs

-- Allocations after a call. They stay at their places, and what is released stays released.
pub record AreLater (xs ys : List PlacedAllocation) : Type 0 where
  pub count : length xs ≤ length ys
  pub base : (i : ℕ) → i < length xs → (placed_at ys i).base ≡ (placed_at xs i).base
  pub ty : (i : ℕ) → i < length xs → (placed_at ys i).ty ≡ (placed_at xs i).ty
  pub released : (i : ℕ) → i < length xs → (placed_at xs i).released ≡ true → (placed_at ys i).released ≡ true

-- one that the call freed
pub record FreesFlag (xs ys : List PlacedAllocation) (i : ℕ) : Type 0 where
  pub exists : i < length xs
  pub unreleased : (placed_at xs i).released ≡ false
  pub before : (placed_at xs i).freed ≡ false
  pub behind : (placed_at ys i).freed ≡ true

-- As many are freed as before, but for the one that the call frees.
pub record FlagsBehind (xs ys : List PlacedAllocation) (x : Option ℕ) : Type 0 where
  pub later : AreLater xs ys
  pub kept : (i : ℕ) → (x ≡ Some i → ⊥) → (placed_at ys i).freed ≡ (placed_at xs i).freed
  pub frees : (i : ℕ) → x ≡ Some i → FreesFlag xs ys i

-- Which allocations are freed and released after the call.
abbrev pub FlagsBehindCall : Config → List Event → Op → List Event → Type 0
FlagsBehindCall c es o fs =
    FlagsBehind (left c es).allocations (left c fs).allocations (number_freed (never_behind c es) o)

-- the object of an allocation, as it is freed
abbrev pub freed_object_of : Config → List PlacedAllocation → ℕ → FreedObject
freed_object_of c xs number =
    record {
      cell = cell_of_allocation c (placed_at xs number);
      storage = storage_words c (placed_at xs number);
      reserved = large_words c (placed_at xs number);
      age = 0;
    }

-- the age of an allocation, at most 2^64 - 1
abbrev pub age_in_a_word : List (List PlacedAllocation) → ℕ → ℕ
age_in_a_word found number = in_a_word (age_of number found)

-- what is noted of it once ends have found these allocations, with its age
abbrev pub aged_object : Config → List (List PlacedAllocation) → List PlacedAllocation → ℕ → FreedObject
aged_object c found xs number = record (freed_object_of c xs number) { age = age_in_a_word found number }

-- after one end more
abbrev pub aged : FreedObject → FreedObject
aged x = record x { age = in_a_word (x.age + 1) }

-- the freed objects that aren't released
abbrev pub objects_kept : Freed → List FreedObject
objects_kept f = f.quarantine.items

-- The objects are those of the allocations whose numbers pass, each once.
pub record AreObjectsOf (c : Config) (found : List (List PlacedAllocation)) (xs : List PlacedAllocation)
    (test : ℕ → Bool) (objects : List FreedObject) : Type 0 where
  pub numbers : List ℕ
  pub are : objects ≡ map (aged_object c found xs) numbers
  pub those : AreThose test numbers

-- It was freed, and is released. (What is no allocation counts as released.)
abbrev pub is_gone : PlacedAllocation → Bool
is_gone a = a.freed && a.released

-- The pairs count the ages of the released allocations, each once.
pub record AreAgesOf (found : List (List PlacedAllocation)) (xs : List PlacedAllocation) (pairs : List (ℕ × ℕ))
    : Type 0 where
  pub numbers : List ℕ
  pub are : pairs ≡ counted (map (age_in_a_word found) numbers)
  pub those : AreThose (λ (i : ℕ). is_gone (placed_at xs i)) numbers

-- whether an end found it released
abbrev pub is_found_gone : List (List PlacedAllocation) → ℕ → Bool
is_found_gone found number = list_any (λ (xs : List PlacedAllocation). is_gone (placed_at xs number)) found

-- Ends have found those released that are, and none freed that isn't.
pub record AreFound (found : List (List PlacedAllocation)) (xs : List PlacedAllocation) : Type 0 where
  pub gone : (i : ℕ) → is_found_gone found i ≡ is_gone (placed_at xs i)
  pub unfreed : (i : ℕ) → (placed_at xs i).freed ≡ false → age_of i found ≡ 0

-- a measure as it is, and as it was at most
pub record IsPeakOf (c : Config) (measure : List PlacedAllocation → ℕ) (es : List Event) (peak : Peak) : Type 0 where
  pub now : peak.now ≡ in_a_word (measure (left c es).allocations)
  pub most : peak.most ≡ in_a_word (greatest c measure es)

-- All is kept that a history says of freed objects.
pub record Keeps (c : Config) (es : List Event) (f : Freed) : Type 0 where
  pub quarantined : IsPeakOf c (quarantined_words c) es f.quarantined
  pub reserved : IsPeakOf c (reserved_words c) es f.reserved
  pub objects : AreObjectsOf c (found_by_ends c es) (left c es).allocations
      (λ (i : ℕ). is_quarantined (placed_at (left c es).allocations i)) (objects_kept f)
  pub ages : AreAgesOf (found_by_ends c es) (left c es).allocations f.ages.items
  pub found : AreFound (found_by_ends c es) (left c es).allocations
  pub ends : f.ends ≡ in_a_word (ends es)

-- with more words
abbrev pub risen : Peak → ℕ → Peak
risen peak words =
    record { now = in_a_word (peak.now + words); most = max peak.most (in_a_word (peak.now + words)) }

-- An object was freed, or none.
pub record Notes (old : Freed) (object : Option FreedObject) (new : Freed) : Type 0 where
  pub quarantined : new.quarantined ≡ risen old.quarantined (option_map_or (λ (x : FreedObject). x.storage) object 0)
  pub reserved : new.reserved ≡ risen old.reserved (option_map_or (λ (x : FreedObject). x.reserved) object 0)
  pub objects : objects_kept new ≡ objects_kept old ++ option_to_list object
  pub ages : new.ages.items ≡ old.ages.items
  pub ends : new.ends ≡ old.ends

-- the words of these objects, where they were as many at most as before
abbrev pub weighed_anew : (FreedObject → ℕ) → List FreedObject → Peak → Peak
weighed_anew words objects peak = record { now = in_a_word (sum_by words objects); most = peak.most }

-- The cell's bit is among the freed bits of the pages.
abbrev pub is_freed_among : List ℕ → Cell → Bool
is_freed_among freed cell = has_bit (slice_index freed cell.page) cell.index

-- Those are kept whose cells are freed yet.
abbrev pub still_kept : List ℕ → List FreedObject → List FreedObject
still_kept freed objects = filter (λ (x : FreedObject). is_freed_among freed x.cell) objects

-- the ages of the others
abbrev pub ages_let_go : List ℕ → List FreedObject → List ℕ
ages_let_go freed objects =
    map (λ (x : FreedObject). x.age) (filter (λ (x : FreedObject). not (is_freed_among freed x.cell)) objects)

-- What is still freed after one end more is kept, and the ages of the others are counted.
pub record LetsGo (freed : List ℕ) (old new : Freed) : Type 0 where
  pub objects : objects_kept new ≡ still_kept freed (map aged (objects_kept old))
  pub quarantined : new.quarantined ≡ weighed_anew (λ (x : FreedObject). x.storage) (objects_kept new) old.quarantined
  pub reserved : new.reserved ≡ weighed_anew (λ (x : FreedObject). x.reserved) (objects_kept new) old.reserved
  pub ages : new.ages.items ≡ fold with_one old.ages.items (ages_let_go freed (map aged (objects_kept old)))

-- What was released is let go, where this many cycles have ended and one was after the last look.
pub record SettlesFreed (freed : List ℕ) (count : ℕ) (old new : Freed) : Type 0 where
  pub ends : new.ends ≡ count
  pub same : count ≡ old.ends → new ≡ old
  pub others : count ≢ old.ends → LetsGo freed old new
