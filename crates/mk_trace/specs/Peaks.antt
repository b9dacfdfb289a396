-- The peaks of a history: how much was held, quarantined and reserved at most, how many cycles ended, and through how
-- many of their ends freed objects stayed.
use Rattle.std.specs.Prelude.{ℕ, ◌+◌, max, ◌&&◌, nat_lt, ◌==◌, if◌then◌else◌, List, [], ◌∷◌, filter, fold, sum_by, ◌*◌}
use Rattle.std.specs.{Prelude.{◌≤◌, ◌≡◌, ◌⊎◌, ◌<◌, ◌++◌, length}, List.flat_map, Fmt.decimal}
use Rattle.mk_never.specs.Types.{kinds_of, is_large}
use Rattle.mk_core.specs.Allocations.{PlacedAllocation, placed_at, storage_words, held_by_allocations}
use Rattle.mk_core.specs.{Counts.{ends, in_a_word}, Cycles.{is_end, is_quarantined}, History.{World, first_world}}
use Rattle.mk_core.specs.{History.{world_behind, left}, declared.config.Config.Config, declared.events.Event.Event}
use Rattle.mk_core.specs.Words.{phase_of}
use Rattle.mk_heap.specs.Below.Objects.Bounds.{WhereTurnIsFree, fresh_after, kept_mapped}
use Rattle.mk_script.specs.Canonical.{line_text}
use Rattle.mk_trace.specs.declared.peaks.Peaks.{Peaks}
use lib.Chars.{codes}

-- the storage of the freed and unreleased allocations
abbrev pub quarantined_words : Config → List PlacedAllocation → ℕ
quarantined_words c xs = sum_by (storage_words c) (filter is_quarantined xs)

-- that of the large ones among them, whose addresses are reserved
abbrev pub reserved_words : Config → List PlacedAllocation → ℕ
reserved_words c xs =
    sum_by (storage_words c) (filter (λ a. is_quarantined a && is_large (kinds_of c.types a.ty)) xs)

-- the greatest measure of the allocations that a beginning of the events leaves
unfoldable pub greatest_from : Config → World → (List PlacedAllocation → ℕ) → List Event → ℕ
greatest_from c w measure [] = measure w.allocations
greatest_from c w measure (e ∷ es) = max (measure w.allocations) (greatest_from c (world_behind c w e) measure es)

-- the greatest measure at any moment
abbrev pub greatest : Config → (List PlacedAllocation → ℕ) → List Event → ℕ
greatest c measure es = greatest_from c (first_world c) measure es

-- the allocations that each `end` finds
unfoldable pub found_by_ends_from : Config → World → List Event → List (List PlacedAllocation)
found_by_ends_from c w [] = []
found_by_ends_from c w (e ∷ es) =
    if is_end e.step
    then w.allocations ∷ found_by_ends_from c (world_behind c w e) es
    else found_by_ends_from c (world_behind c w e) es

-- the allocations that each ended cycle found
abbrev pub found_by_ends : Config → List Event → List (List PlacedAllocation)
found_by_ends c es = found_by_ends_from c (first_world c) es

-- The age of an allocation: how many ends find it freed, up to and with the first that finds it released. That is the
-- end of the cycle that released it.
abbrev pub age_of : ℕ → List (List PlacedAllocation) → ℕ
age_of number [] = 0
age_of number (found ∷ later) =
    if (placed_at found number).freed
    then (if (placed_at found number).released then 1 else 1 + age_of number later)
    else age_of number later

-- the ages of the released ones among these allocations, the first of which has this number
abbrev pub released_ages : List (List PlacedAllocation) → ℕ → List PlacedAllocation → List ℕ
released_ages found number [] = []
released_ages found number (a ∷ xs) =
    if a.released
    then in_a_word (age_of number found) ∷ released_ages found (number + 1) xs
    else released_ages found (number + 1) xs

-- pairs of an age and how many have it, ascending, with one more, where a word holds each count
abbrev pub with_one : List (ℕ × ℕ) → ℕ → List (ℕ × ℕ)
with_one [] age = (age, 1) ∷ []
with_one (pair ∷ pairs) age =
    if age == pair.0
    then (age, in_a_word (pair.1 + 1)) ∷ pairs
    else if nat_lt age pair.0 then (age, 1) ∷ pair ∷ pairs else pair ∷ with_one pairs age

-- how many there are of each age, least age first
abbrev pub counted : List ℕ → List (ℕ × ℕ)
counted ages = fold with_one [] ages

-- What a history alone says. A number above 2^64 - 1 stands there as 2^64 - 1.
pub record HistoryPeaks : Type 0 where
  pub held : ℕ
  pub quarantined : ℕ
  pub reserved : ℕ
  pub cycles : ℕ
  pub ages : List (ℕ × ℕ)

-- the peaks of a history
abbrev pub peaks_of : Config → List Event → HistoryPeaks
peaks_of c es =
    record {
      held = in_a_word (greatest c (held_by_allocations c) es);
      quarantined = in_a_word (greatest c (quarantined_words c) es);
      reserved = in_a_word (greatest c (reserved_words c) es);
      cycles = in_a_word (ends es);
      ages = counted (released_ages (found_by_ends c es) 0 (left c es).allocations);
    }

-- Whenever nobody has the turn, what was freed since the last `begin` is at most a quarter of the peak of held words.
-- So all that is quarantined is at most such a quarter, what is reserved, and what was freed before the last `begin`.
pub record PeaksBoundQuarantine (c : Config) (es : List Event) (peaks : HistoryPeaks) : Type 0 where
  pub fresh : WhereTurnIsFree (λ c es. 4 * fresh_after c es ≤ peaks.held) c es
  pub quarantined : WhereTurnIsFree (λ c es. 4 * quarantined_words c (left c es).allocations
      ≤ peaks.held + 4 * (reserved_words c (left c es).allocations + kept_mapped c (left c es).allocations)) c es

-- No cycle is on.
abbrev pub IsBetweenCycles : Config → List Event → Type 0
IsBetweenCycles c es = phase_of (left c es).now.words ≡ 0

-- The second list has the allocations of the first, and maybe more. Of the first none was released meanwhile.
pub record ReleasesNone (xs ys : List PlacedAllocation) : Type 0 where
  pub count : length xs ≤ length ys
  pub released : (n : ℕ) → n < length xs → (placed_at ys n).released ≡ (placed_at xs n).released

-- In both lists the same ones are freed.
abbrev pub FreesNone : List PlacedAllocation → List PlacedAllocation → Type 0
FreesNone xs ys = (n : ℕ) → (placed_at ys n).freed ≡ (placed_at xs n).freed

-- No cycle ended, and none was released.
pub record EndsNone (c : Config) (es fs : List Event) : Type 0 where
  pub found : found_by_ends c fs ≡ found_by_ends c es
  pub count : ends fs ≡ ends es
  pub released : ReleasesNone (left c es).allocations (left c fs).allocations

-- One cycle ended, and found these. After its end none was freed or released.
pub record EndsOne (c : Config) (es fs : List Event) : Type 0 where
  pub finds : List PlacedAllocation
  pub found : found_by_ends c fs ≡ found_by_ends c es ++ finds ∷ []
  pub count : ends fs ≡ ends es + 1
  pub earlier : length (left c es).allocations ≤ length finds
  pub freed : FreesNone finds (left c fs).allocations
  pub released : ReleasesNone finds (left c fs).allocations

-- Where no cycle was on, none is on again, and one ended at most.
abbrev pub EndsTell : Config → List Event → List Event → Type 0
EndsTell c es fs = IsBetweenCycles c es → IsBetweenCycles c fs × (EndsNone c es fs ⊎ EndsOne c es fs)

-- No cycle began or ended, and all allocations are as they were.
pub record LeavesAllocations (c : Config) (es fs : List Event) : Type 0 where
  pub phase : phase_of (left c fs).now.words ≡ phase_of (left c es).now.words
  pub found : found_by_ends c fs ≡ found_by_ends c es
  pub count : ends fs ≡ ends es
  pub allocations : (left c fs).allocations ≡ (left c es).allocations

-- the lines of the peaks, but for ages
abbrev pub text_of_counts : Peaks → List ℕ
text_of_counts peaks = flat_map line_text (
    (codes "events" ∷ decimal peaks.events ∷ []) ∷
    (codes "refused" ∷ decimal peaks.refused ∷ []) ∷
    (codes "held" ∷ decimal peaks.held ∷ []) ∷
    (codes "quarantined" ∷ decimal peaks.quarantined ∷ []) ∷
    (codes "reserved" ∷ decimal peaks.reserved ∷ []) ∷
    (codes "cycles" ∷ decimal peaks.cycles ∷ []) ∷
    [])

-- an age, and how many have it
abbrev pub text_of_ages : List (ℕ × ℕ) → List ℕ
text_of_ages ages = flat_map (λ (pair : ℕ × ℕ). line_text (codes "age" ∷ decimal pair.0 ∷ decimal pair.1 ∷ [])) ages

-- the whole text
abbrev pub peaks_text : Peaks → List ℕ
peaks_text peaks = text_of_counts peaks ++ text_of_ages peaks.ages.items
