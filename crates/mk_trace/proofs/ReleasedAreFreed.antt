-- Of the allocations of a history only freed ones are released, and which they are, as a list of numbers.
use Rattle.mk_trace.proofs.Vocabulary.{AreAgesOf, Cell, Config, Event, IsHistory, PlacedAllocation, Step, Words, World}
use Rattle.mk_trace.proofs.Vocabulary.{age_in_a_word, allocations_by, cell_of_allocation, counted, first_world}
use Rattle.mk_trace.proofs.Vocabulary.{flight_of, histories_keep_the_invariant, left, length-append, moves_phase}
use Rattle.mk_trace.proofs.Vocabulary.{nat_tests, never_granted, one_if, phase_of, placed_at, times, with_released}
use Rattle.mk_heap.proofs.Below.Laws.Vocabulary.{Bool, List, ℕ, and_parts, ap, append-nil, append_assoc, arith}
use Rattle.mk_heap.proofs.Below.Laws.Vocabulary.{cases_Bool}
use Rattle.mk_heap.proofs.Below.Laws.Vocabulary.{cases_lt, changed_at, earlier_part_is_history, enabled_in_parts, false}
use Rattle.mk_heap.proofs.Below.Laws.Vocabulary.{freed_leaves, freed_released, fresh_leaves, has_bit_without}
use Rattle.mk_heap.proofs.Below.Laws.Vocabulary.{if◌then◌else◌, inl}
use Rattle.mk_heap.proofs.Below.Laws.Vocabulary.{inr, left_more, length, length-map, map, not, refl, released_leaves}
use Rattle.mk_heap.proofs.Below.Laws.Vocabulary.{released_where_left, slice_index, subst, suc, sym, true, true≢false}
use Rattle.mk_heap.proofs.Below.Laws.Vocabulary.{zero, []}
use Rattle.mk_heap.proofs.Below.Laws.Vocabulary.{◌&&◌, ◌++◌, ◌+◌, ◌<◌, ◌∙◌, ◌∷◌, ◌≡◌}
use Rattle.mk_core.{proofs.ChangedAllocations.earlier_at, proofs.ChangedAllocations.granted_at, specs.History.left_from}
use Rattle.mk_heap.proofs.Below.Laws.{CyclePhases.AsksPhase, InvariantHistories.allocations_stand}
use Rattle.mk_heap.proofs.Below.Laws.Snapshots.{unreleased_cycles}
use Rattle.mk_trace.{proofs.CountedAges.same_counted, specs.Ledgers.is_gone, specs.Peaks.released_ages}

abbrev pub AreFreed : List PlacedAllocation → Type 0
AreFreed xs = (i : ℕ) → i < length xs → (placed_at xs i).released ≡ true → (placed_at xs i).freed ≡ true

-- one event

changed_freed : (change : PlacedAllocation → PlacedAllocation) (xs : List PlacedAllocation)
    → change never_granted ≡ never_granted → ((a : PlacedAllocation) → (change a).released ≡ a.released)
    → ((a : PlacedAllocation) → a.freed ≡ true → (change a).freed ≡ true) → AreFreed xs → AreFreed (map change xs)
changed_freed change xs none same keeps h i lt gone =
    let at = changed_at change xs i none in
    let there : i < length xs = omega (arith, lt, length-map xs change) in
    ap (λ (a : PlacedAllocation). a.freed) at ∙ keeps _ (h i there (sym (ap (λ (a : PlacedAllocation). a.released) at ∙
    same _) ∙ gone))

freed_by : (b : Bool) (a : PlacedAllocation) → a.freed ≡ true
    → (if b then record a { freed = true; fresh = true } else a).freed ≡ true
freed_by x0 a freed = grind arith

more_freed : (xs : List PlacedAllocation) (a : PlacedAllocation) → a.released ≡ false → AreFreed xs
    → AreFreed (xs ++ a ∷ [])
more_freed xs a unreleased h i lt gone = elim (cases_lt i (length xs)) [
  | inl before ↦
      let same = earlier_at xs a i before in
      cc (same, h i before (sym (ap (λ (x : PlacedAllocation). x.released) same) ∙ gone))
  | inr le ↦
      let last : i ≡ length xs = omega (arith, lt, le, length-append xs (a ∷ [])) in
      let at : placed_at (xs ++ a ∷ []) i ≡ a = ap (placed_at (xs ++ a ∷ [])) last ∙ granted_at xs a in
      absurd (true≢false (sym gone ∙ ap (λ (x : PlacedAllocation). x.released) at ∙ unreleased))
]

module _ (c : Config) (front : List Event) (history : IsHistory c front) where
  abbrev xs : List PlacedAllocation
  xs = (left c front).allocations

  abbrev w : Words
  w = (left c front).now.words

  released_freed : phase_of w ≡ 3 → AreFreed xs → AreFreed (map (with_released c w) xs)
  released_freed phase h i lt gone =
      let at = changed_at (with_released c w) xs i (released_leaves c w).none in
      let there : i < length xs = omega (arith, lt, length-map xs (with_released c w)) in
      let now = sym (ap (λ (a : PlacedAllocation). a.released) at) ∙ gone in
      ap (λ (a : PlacedAllocation). a.freed) at ∙ elim (cases_Bool (placed_at xs i).released) [
        | inl was ↦ h i there was
        | inr unreleased ↦ let a : PlacedAllocation = placed_at xs i in
            let cell : Cell = cell_of_allocation c a in
            let s = allocations_stand c front history i unreleased in
            let bits = sym (released_where_left c w a history.within_limits s.stands s.headers
            ∙ has_bit_without (slice_index w.snapshot cell.page) (slice_index w.marks cell.page) cell.index) ∙ now in
            let cycling = (unreleased_cycles (phase_of w)
            (record { least = omega (arith, phase); most = omega (arith, phase) })).0 in
            (and_parts a.freed (not a.fresh) (sym ((histories_keep_the_invariant c front
            history).order.snapshot.quarantined cycling i unreleased) ∙ (and_parts _ _ bits).0)).0
      ]

  step_freed : (e : Event) (s : Step) → e.step ≡ s → AsksPhase s (phase_of w) → AreFreed xs
      → AreFreed (allocations_by c (left c front).now (flight_of (left c front).now e.seat) s xs)
  step_freed e s is asks h =
      grind (arith, more_freed, xs, changed_freed, freed_leaves, freed_released, freed_by, fresh_leaves, released_freed)

-- all of them

one_freed : {c : Config} (front : List Event) (e : Event) → IsHistory c (front ++ e ∷ [])
    → AreFreed (left c front).allocations → AreFreed (left c (front ++ e ∷ [])).allocations
one_freed {c} front e whole h =
    let on = (enabled_in_parts c front (e ∷ [])).0 whole.enabled in
    subst (λ (w : World). AreFreed w.allocations) (sym (left_more c (first_world c) front e)) (step_freed c front
    (earlier_part_is_history c front (e ∷ []) whole) e e.step refl (moves_phase c (left c front) e [] on.1).0 h)

all_freed : {c : Config} (front rest : List Event) → IsHistory c (front ++ rest)
    → AreFreed (left c front).allocations → AreFreed (left c (front ++ rest)).allocations
all_freed {c} front [] whole h = grind (arith, append-nil)
all_freed {c} front (e ∷ rest) whole h =
    let parts = append_assoc front (e ∷ []) rest in
    let same : IsHistory c ((front ++ e ∷ []) ++ rest) = subst (IsHistory c) (sym parts) whole in
    subst (λ (es : List Event). AreFreed (left c es).allocations) parts (all_freed (front ++ e ∷ []) rest same
    (one_freed front e (earlier_part_is_history c (front ++ e ∷ []) rest same) h))

none_freed_first : (c : Config) → AreFreed (left c []).allocations
unfolding left_from
none_freed_first c i lt gone = absurd (omega (arith, lt))

released_are_freed : {c : Config} {es : List Event} → IsHistory c es → AreFreed (left c es).allocations
released_are_freed {c} {es} history = all_freed [] es history (none_freed_first c)

-- The numbers of the released ones

abbrev released_from : ℕ → List PlacedAllocation → List ℕ
released_from n [] = []
released_from n (a ∷ xs) = if a.released then n ∷ released_from (n + 1) xs else released_from (n + 1) xs

ages_by : (f : ℕ → ℕ) (n : ℕ) (ages numbers : List ℕ) (b : Bool) → ages ≡ map f numbers
    → (if b then f n ∷ ages else ages) ≡ map f (if b then n ∷ numbers else numbers)
ages_by f n ages numbers x4 is = grind arith

ages_are : (found : List (List PlacedAllocation)) (n : ℕ) (xs : List PlacedAllocation)
    → released_ages found n xs ≡ map (age_in_a_word found) (released_from n xs)
ages_are found n [] = refl
ages_are found n (a ∷ xs) =
    ages_by (age_in_a_word found) n (released_ages found (n + 1) xs) (released_from (n + 1) xs) a.released
    (ages_are found (n + 1) xs)

lower_by : (i n : ℕ) (numbers : List ℕ) (b : Bool) → i < n → times i numbers ≡ 0
    → times i (if b then n ∷ numbers else numbers) ≡ 0
lower_by i n numbers b lt none = grind (arith, nat_tests)

lower : (i n : ℕ) (xs : List PlacedAllocation) → i < n → times i (released_from n xs) ≡ 0
lower i n [] lt = refl
lower i n (a ∷ xs) lt = lower_by i n (released_from (n + 1) xs) a.released lt (lower i (n + 1) xs (omega (arith, lt)))

first_by : (n i : ℕ) (numbers : List ℕ) (released freed : Bool) → n ≡ i → (released ≡ true → freed ≡ true)
    → times i numbers ≡ 0 → times i (if released then n ∷ numbers else numbers) ≡ one_if (freed && released)
first_by n i numbers released freed same is none = grind (arith, nat_tests)

those_from : (n : ℕ) (xs : List PlacedAllocation) → AreFreed xs → (i : ℕ)
    → times (n + i) (released_from n xs) ≡ one_if (is_gone (placed_at xs i))
those_from n [] h i = refl
those_from n (a ∷ xs) h zero =
    first_by n (n + 0) (released_from (n + 1) xs) a.released a.freed (omega arith) (λ gone. h 0 (omega arith) gone)
    (lower (n + 0) (n + 1) xs (omega arith))
those_from n (a ∷ xs) h (suc i) =
    let next : n + suc i ≡ (n + 1) + i = omega arith in
    (grind (arith, nat_tests)) ∙ ap (λ (k : ℕ). times k (released_from (n + 1) xs)) next
    ∙ those_from (n + 1) xs (λ j lt gone. h (suc j) (omega (arith, lt)) gone) i

pub ages_counted : {c : Config} {es : List Event} {found : List (List PlacedAllocation)} {pairs : List (ℕ × ℕ)}
    → IsHistory c es → AreAgesOf found (left c es).allocations pairs
    → pairs ≡ counted (released_ages found 0 (left c es).allocations)
ages_counted {c} {es} {found} history h =
    let all : List PlacedAllocation = (left c es).allocations in
    let numbers : List ℕ = released_from 0 all in
    h.are ∙ same_counted (age_in_a_word found) h.numbers numbers (λ i. (let same : i ≡ 0 + i = omega arith in
    h.those i ∙ sym (ap (λ (k : ℕ). times k numbers) same ∙ those_from 0 all (released_are_freed history) i)))
    ∙ ap counted (sym (ages_are found 0 all))
