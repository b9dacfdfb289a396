-- What the ledger keeps: before any event, over a call, and at the end.
use Rattle.mk_trace.proofs.Vocabulary.{AreAgesOf, Config, Contents, EndsNone, EndsOne, EndsTell, Event, FlagsBehindCall}
use Rattle.mk_trace.proofs.Vocabulary.{Freed, FreedObject, HoldsMostAtEnd, HostOnlyLooks, IsBetweenCycles, IsHistory}
use Rattle.mk_trace.proofs.Vocabulary.{Keeps, LeavesAllocations, Op, PlacedAllocation, QuarantinesMostWhereFreed}
use Rattle.mk_trace.proofs.Vocabulary.{SettlesFreed, config_of, ends, freed_object_of, freed_words, greatest, in_a_word}
use Rattle.mk_trace.proofs.Vocabulary.{is_under_turn, left, most_held, never_behind, number_freed, objects_kept}
use Rattle.mk_trace.proofs.{Vocabulary.{option_map, peaks_of, quarantined_words, reserved_words}, KeptPeaks.keeps_on}
use Rattle.mk_trace.proofs.{PeakParts.last_below, ReleasedAreFreed.ages_counted}
use Rattle.mk_heap.proofs.Below.Laws.Vocabulary.{List, Option, ℕ, ap, arith, false, refl, subst, sym, [], ◌+◌, ◌<◌, ◌∙◌}
use Rattle.mk_heap.proofs.Below.Laws.Vocabulary.{◌≡◌, ◌≤◌}
use Rattle.mk_heap.proofs.Below.Laws.Vocabulary.{◌⊎◌}
use Rattle.mk_core.specs.{Allocations.unreleased_storage, History.left_from}
use Rattle.mk_trace.specs.{Peaks.{found_by_ends, found_by_ends_from, greatest_from}, Ledgers.Notes}

-- The ledger before any event, and what it comes to at the end.

pub first_held : (c : Config) (es : List Event) → es ≡ [] → most_held c es ≡ 0
unfolding greatest_from unreleased_storage
first_held c es empty = ap (most_held c) empty

pub first_idle : (c : Config) (es : List Event) → es ≡ [] → IsBetweenCycles c es
unfolding left_from
first_idle c es empty = subst (IsBetweenCycles c) (sym empty) refl

pub first_keeps : (c : Config) (es : List Event) (f : Freed) → es ≡ [] → f.quarantined ≡ record { now = 0; most = 0 }
    → f.reserved ≡ record { now = 0; most = 0 } → objects_kept f ≡ [] → f.ages.items ≡ [] → f.ends ≡ 0 → Keeps c es f
unfolding greatest_from left_from found_by_ends_from
first_keeps c es f empty quarantined reserved objects ages ends = grind arith

-- The most of a measure, where a word holds it.
pub most_of : (trace : Contents) (c : Config) (measure : Config → List PlacedAllocation → ℕ) (es fs : List Event)
    (most : ℕ) → fs ≡ es → c ≡ config_of trace → most ≡ in_a_word (greatest c (measure c) es)
    → most ≡ in_a_word (greatest (config_of trace) (measure (config_of trace)) fs)
most_of trace c measure es fs most same config is = cc

pub ages_of : (trace : Contents) (c : Config) (es : List Event) {fs : List Event} {pairs : List (ℕ × ℕ)} → fs ≡ es
    → c ≡ config_of trace → IsHistory (config_of trace) fs
    → AreAgesOf (found_by_ends c es) (left c es).allocations pairs → pairs ≡ (peaks_of (config_of trace) fs).ages
ages_of trace c es {pairs} same config history h =
    ages_counted history
    (rw (← same) at (rw config at h))

-- What the ledger keeps over a call, with the looks before it and after it.

-- What leaves the allocations and the cycles leaves what is kept.

keeps_left : {c : Config} {es fs : List Event} {f : Freed} → LeavesAllocations c es fs
    → greatest c (quarantined_words c) fs ≡ greatest c (quarantined_words c) es
    → greatest c (reserved_words c) fs ≡ greatest c (reserved_words c) es → Keeps c es f → Keeps c fs f
keeps_left {c} {es} {fs} {f} leaves quarantined reserved h = grind arith

-- So does a look.
keeps_looked : {c : Config} {es fs : List Event} {f : Freed} → HostOnlyLooks c es fs → Keeps c es f → Keeps c fs f
keeps_looked {c} looks h = keeps_left looks.leaves (looks.most (quarantined_words c)) (looks.most (reserved_words c)) h

-- So does a call that isn't under the turn.

frees_nothing : (c : Config) (words : PlacedAllocation → ℕ) (es : List Event) (o : Op) → is_under_turn o ≡ false
    → freed_words c words es o ≡ 0
frees_nothing c words es o beside = grind arith

pub keeps_beside : {c : Config} {es : List Event} {o : Op} {fs : List Event} {f : Freed} → is_under_turn o ≡ false
    → LeavesAllocations c es fs → QuarantinesMostWhereFreed c es o fs → Keeps c es f → Keeps c fs f
keeps_beside {c} {es} {o} {fs} beside leaves most h = grind (arith, keeps_left, frees_nothing, last_below)

-- What was held at most stays too.
pub held_beside : {c : Config} {es fs : List Event} (held : ℕ) → LeavesAllocations c es fs → HoldsMostAtEnd c es fs
    → held ≡ most_held c es → held ≡ most_held c fs
held_beside {c} {es} held leaves most is = grind (arith, last_below)

-- Looks before a call and after it

pub idle_looked : {c : Config} {es fs : List Event} → HostOnlyLooks c es fs → IsBetweenCycles c es
    → IsBetweenCycles c fs
idle_looked looks idle = looks.leaves.phase ∙ idle

-- One call
module _ {c : Config} {es0 es1 es2 es3 es4 : List Event} {o : Op} {first second third : Freed}
    {x : Option FreedObject} (before : HostOnlyLooks c es0 es1) (at_first : IsHistory c es1) (at_last : IsHistory c es2)
    (few : ends es0 < 18446744073709551615) (idle : IsBetweenCycles c es0) (tells : EndsTell c es1 es2)
    (most : QuarantinesMostWhereFreed c es1 o es2)
    (flags : FlagsBehindCall c es1 o es2) (looks : HostOnlyLooks c es2 es3) (more : HostOnlyLooks c es3 es4)
    (is : x ≡ option_map (freed_object_of c (left c es0).allocations) (number_freed (never_behind c es0) o))
    (keeps : Keeps c es0 first) (notes : Notes first x second)
    (settles : SettlesFreed (left c es3).now.words.freed (in_a_word (ends es3)) second third) where
  told : IsBetweenCycles c es2 × (EndsNone c es1 es2 ⊎ EndsOne c es1 es2)
  told = tells (idle_looked before idle)

  is_now : x ≡ option_map (freed_object_of c (left c es1).allocations) (number_freed (never_behind c es1) o)
  is_now = grind arith

  pub keeps_behind : Keeps c es4 third
  keeps_behind =
      keeps_looked more
      (keeps_looked looks (keeps_on c es1 es2 o at_first at_last (omega (arith, few, before.leaves.count)) told.0 told.1
      flags most first second third x is_now (keeps_looked before keeps) notes (grind arith)))

-- At most one cycle ends.
pub ends_over : {c : Config} {es0 es1 es2 es3 es4 : List Event} → HostOnlyLooks c es0 es1 → IsBetweenCycles c es0
    → EndsTell c es1 es2 → HostOnlyLooks c es2 es3 → HostOnlyLooks c es3 es4 → ends es4 ≤ ends es0 + 1
ends_over before idle tells looks more = grind (arith, idle_looked)
