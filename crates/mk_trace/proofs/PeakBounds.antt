-- The peaks bound what quarantine costs.
use Rattle.mk_trace.proofs.Vocabulary.{Config, Event, IsHistory, PlacedAllocation, held_by_allocations, left, peaks_of}
use Rattle.mk_trace.proofs.{Vocabulary.{quarantined_words, reserved_words}, PeakParts.is_greatest}
use Rattle.mk_heap.proofs.Below.Laws.Vocabulary.{Bool, List, ℕ, arith, earlier_part_is_history, false, if◌then◌else◌}
use Rattle.mk_heap.proofs.Below.Laws.Vocabulary.{not, refl}
use Rattle.mk_heap.proofs.Below.Laws.Vocabulary.{subst, ◌&&◌, ◌*◌, ◌++◌, ◌+◌, ◌≡◌, ◌≤◌}
use Rattle.mk_heap.proofs.Below.Objects.CountedWords.{filtered_in_parts}
use Rattle.mk_heap.proofs.Below.Objects.LittleHeld.{held_is_little_where_free}
use Rattle.mk_heap.proofs.Below.Objects.Quarters.{quarantined_is_fresh_or_kept}
use Rattle.mk_heap.specs.Below.Objects.Bounds.{QuarantineIsBounded, fresh_after, held_after}
use Rattle.mk_heap.specs.Below.Objects.Bounds.{quarantined_mapped}
use Rattle.mk_trace.specs.Peaks.{PeaksBoundQuarantine}

-- What is quarantined is reserved, or mapped; and what is mapped is fresh, or was freed before the last `begin`.

reserved_or_mapped : (n : ℕ) (released freed large : Bool) → (if freed && not released then n else 0) ≤ (if
    (freed && not released) && large then n else 0) + (if (not released && not (freed && large)) && freed then n else 0)
reserved_or_mapped n x1 x2 large = grind arith

quarantined_in_parts : (c : Config) (xs : List PlacedAllocation)
    → quarantined_words c xs ≤ reserved_words c xs + quarantined_mapped c xs
quarantined_in_parts c xs = grind (arith, filtered_in_parts, reserved_or_mapped)

module _ {c : Config} {es : List Event} (front more : List Event) (h : IsHistory c es)
    (bounded : QuarantineIsBounded false c es)
    (is : es ≡ front ++ more) (free : (left c front).now.words.turn ≡ 0) where
  held_below_peak : held_after c front ≤ (peaks_of c es).held
  held_below_peak =
      let first = earlier_part_is_history c front more (subst (IsHistory c) is h) in
      let above = (is_greatest c (held_by_allocations c) es).above front more is in
      omega (arith, above, held_is_little_where_free c front first free, h.within_limits.pages.1)

  fresh_below_peak : 4 * fresh_after c front ≤ (peaks_of c es).held
  fresh_below_peak = omega (arith, bounded.of_held refl front more is free, held_below_peak)

pub bounds_meet_peaks : (c : Config) (es : List Event) → IsHistory c es → QuarantineIsBounded false c es
    → PeaksBoundQuarantine c es (peaks_of c es)
bounds_meet_peaks c es h bounded = grind (arith, quarantined_is_fresh_or_kept, fresh_below_peak, quarantined_in_parts)
