-- Lists that have each number once that passes a test.
use Rattle.std.proofs.lemmas.List.Sums.{sum_by-set}
use Rattle.mk_trace.proofs.Vocabulary.{AreThose, PlacedAllocation, and-false, exists_placed, filter, is_quarantined}
use Rattle.mk_trace.proofs.Vocabulary.{nat_tests, never_granted, one_if, placed_at, sum_by, sum_by-cons, times}
use Rattle.mk_trace.proofs.FreedWords.{part, sum_alike, weighed}
use Rattle.mk_heap.proofs.Below.Laws.Vocabulary.{Bool, List, ℕ, and_parts, ap, arith, eq-eqb, eqb-true, false}
use Rattle.mk_heap.proofs.Below.Laws.Vocabulary.{false_from_ne_true}
use Rattle.mk_heap.proofs.Below.Laws.Vocabulary.{get_or-set_other, get_or-set_same, if◌then◌else◌, length, not-true}
use Rattle.mk_heap.proofs.Below.Laws.Vocabulary.{refl}
use Rattle.mk_heap.proofs.Below.Laws.Vocabulary.{slice_set, suc, true, [], ◌&&◌, ◌++◌, ◌+◌, ◌<◌, ◌==◌, ◌∷◌, ◌≡◌, ◌≤◌}

pub equal_is : (i : ℕ) → (i == i) ≡ true
equal_is i = eq-eqb i i refl

pub unequal_is : (i j : ℕ) → (i ≡ j → ⊥) → (i == j) ≡ false
unequal_is i j ne = false_from_ne_true (i == j) (λ is. ne (eqb-true i j is))

-- one more, and those that pass

pub times_more : (i : ℕ) (numbers : List ℕ) (n : ℕ) → times i (numbers ++ n ∷ []) ≡ times i numbers + one_if (n == i)
times_more i [] n = omega arith
times_more i (x ∷ numbers) n = omega (arith, times_more i numbers n)

none_more : (b : Bool) (n : ℕ) → b ≡ false → one_if b + n ≡ n
none_more b n is = grind arith

filter_step : (i : ℕ) (x : ℕ) (numbers kept : List ℕ) (at_x at_i : Bool) → (x ≡ i → at_x ≡ at_i)
    → times i kept ≡ (if at_i then times i numbers else 0)
    → times i (if at_x then x ∷ kept else kept) ≡ (if at_i then one_if (x == i) + times i numbers else 0)
filter_step i x numbers kept at_x at_i same rest = grind (arith, nat_tests)

pub times_filtered : (p : ℕ → Bool) (i : ℕ) (numbers : List ℕ)
    → times i (filter p numbers) ≡ (if p i then times i numbers else 0)
times_filtered p i [] = grind arith
times_filtered p i (x ∷ numbers) =
    filter_step i x numbers (filter p numbers) (p x) (p i) (λ e. ap p e) (times_filtered p i numbers)

-- Filters by tests that agree on what stands there

filters_head : (x : ℕ) (xs ys : List ℕ) (a b : Bool) → a ≡ b → xs ≡ ys
    → (if a then x ∷ xs else xs) ≡ (if b then x ∷ ys else ys)
filters_head x xs ys a b heads tails = cc

pub filters_agree : (p q : ℕ → Bool) (numbers : List ℕ) → ((i : ℕ) → 1 ≤ times i numbers → p i ≡ q i)
    → filter p numbers ≡ filter q numbers
filters_agree p q [] agree = refl
filters_agree p q (x ∷ numbers) agree =
    let first : 1 ≤ one_if (x == x) + times x numbers = grind (arith, equal_is) in
    filters_head x (filter p numbers) (filter q numbers) (p x) (q x) (agree x first)
    (filters_agree p q numbers (λ i some. agree i (omega (arith, some))))

-- Those that stand there pass.
pub stands_passes : (test : ℕ → Bool) (numbers : List ℕ) → AreThose test numbers → (i : ℕ) → 1 ≤ times i numbers
    → test i ≡ true
stands_passes test numbers those i some = grind arith

pub those_filtered : (p test : ℕ → Bool) (numbers : List ℕ) → AreThose test numbers
    → AreThose (λ (i : ℕ). p i && test i) (filter p numbers)
those_filtered p test numbers those i = grind (arith, times_filtered)

-- The words of the quarantined allocations are those of their numbers.

none_quarantined : (weight : ℕ → ℕ) (xs : List PlacedAllocation)
    → ((i : ℕ) → is_quarantined (placed_at xs i) ≡ false) → weighed weight xs ≡ 0
none_quarantined weight [] none = refl
none_quarantined weight (a ∷ xs) none =
    let first : part weight a ≡ 0 = ap (λ (b : Bool). if b then weight a.ty else 0) (none 0) in
    let rest = none_quarantined weight xs (λ i. none (suc i)) in
    omega (arith, sum_by-cons (part weight) a xs, first, rest)

no_one : (b : Bool) → 0 ≡ one_if b → b ≡ false
no_one b is = grind arith

-- They are the numbers of the quarantined allocations.
abbrev AreOfQuarantined : List PlacedAllocation → List ℕ → Type 0
AreOfQuarantined xs numbers = AreThose (λ (i : ℕ). is_quarantined (placed_at xs i)) numbers

module _ (weight : ℕ → ℕ) (xs : List PlacedAllocation) (n : ℕ) (numbers : List ℕ)
    (those : AreOfQuarantined xs (n ∷ numbers)) where
  abbrev gone : PlacedAllocation
  gone = record (placed_at xs n) { released = true }

  abbrev pub ys : List PlacedAllocation
  ys = slice_set xs n gone

  at_n : (is_quarantined (placed_at xs n) ≡ true) × (times n numbers ≡ 0)
  at_n = grind arith

  exists : n < length xs
  exists = exists_placed xs n (not-true (placed_at xs n).released (and_parts _ _ at_n.0).1)

  set_is : placed_at ys n ≡ gone
  set_is = get_or-set_same xs n gone never_granted exists

  other_is : (i : ℕ) → (i ≡ n → ⊥) → placed_at ys i ≡ placed_at xs i
  other_is i ne = get_or-set_other xs n i gone never_granted ne

  pub those_left : AreOfQuarantined ys numbers
  those_left i = grind (arith, at_n, set_is, and-false, none_more, unequal_is, other_is)

  pub types_left : (i : ℕ) → (placed_at ys i).ty ≡ (placed_at xs i).ty
  types_left i = grind (arith, ys, set_is, other_is)

  pub words_left : weighed weight xs ≡ weight (placed_at xs n).ty + weighed weight ys
  words_left = grind (arith, sum_by-set, part, gone, exists, at_n, and-false)

pub words_of_numbers : (weight : ℕ → ℕ) (numbers : List ℕ) (xs : List PlacedAllocation) → AreOfQuarantined xs numbers
    → sum_by (λ (i : ℕ). weight (placed_at xs i).ty) numbers ≡ weighed weight xs
words_of_numbers weight [] xs those = grind (arith, none_quarantined, no_one)
words_of_numbers weight (n ∷ numbers) xs those =
    let zs : List PlacedAllocation = ys weight xs n numbers those in
    let rest = words_of_numbers weight numbers zs (those_left weight xs n numbers those) in
    let same = sum_alike (λ (i : ℕ). weight (placed_at zs i).ty) (λ (i : ℕ). weight (placed_at xs i).ty)
    (λ i. ap weight (types_left weight xs n numbers those i)) numbers in
    omega (
      arith,
      sum_by-cons (λ (i : ℕ). weight (placed_at xs i).ty) n numbers,
      same,
      rest,
      words_left weight xs n numbers those,
    )
