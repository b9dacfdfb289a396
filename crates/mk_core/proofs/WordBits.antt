-- Words that get a bit, or lose some.
use Rattle.std.proofs.Common.{bit_or, bit_xor, eq-eqb, get_or-set_other, get_or-set_same, max, min, pow-add}
use Rattle.std.proofs.lemmas.Nat.{and_le_l, or_disjoint, Bits.{and_pow, bit_at-lt, bit_at-pow_other}}
use Rattle.std.proofs.lemmas.Nat.Bits.{bit_at-pow_same, bit_at-zero, bit_at_and, bit_at_or, bit_at_xor, same_from_bits}
use Rattle.std.proofs.{Math.{Nat.mul-mod_left, Pow.pow_mono}, lemmas.{Bool.cases_lt, List.set_past}}
use Rattle.std.specs.Int.{bit_at}
use Rattle.mk_core.proofs.Vocabulary.{List, ℕ, ap, arith, bit_and, cases_eq, eqb-false, eqb-true, false, has_bit, inl}
use Rattle.mk_core.proofs.Vocabulary.{inr, length, ne_eqb, slice_index, slice_set, subst, sym, true, true≢false, ◌%◌}
use Rattle.mk_core.proofs.Vocabulary.{◌*◌, ◌+◌, ◌-◌, ◌<◌, ◌==◌, ◌^◌, ◌∙◌, ◌≡◌, ◌≢◌, ◌≤◌, ◌⊎◌}
use Rattle.mk_core.specs.Words.{bit_for, without}

pub bit_is_one : (n k : ℕ) → has_bit n k ≡ true → bit_at n k ≡ 1
bit_is_one n k h = eqb-true (bit_at n k) 1 h

pub bit_is_none : (n k : ℕ) → has_bit n k ≡ false → bit_at n k ≡ 0
bit_is_none n k h = let lt = bit_at-lt n k in let ne = eqb-false (bit_at n k) 1 h in omega arith

has_from : (n k : ℕ) → bit_at n k ≡ 1 → has_bit n k ≡ true
has_from n k e = eq-eqb (bit_at n k) 1 e

-- 0 has no bit, and is the only such word
pub no_bit : (n k : ℕ) → n ≡ 0 → has_bit n k ≡ false
no_bit n k z = ap (λ m. has_bit m k) z ∙ ap (λ b. b == 1) (bit_at-zero k)

pub zero_from_bits : (n : ℕ) → ((k : ℕ) → has_bit n k ≡ false) → n ≡ 0
zero_from_bits n none = same_from_bits n 0 (λ k. bit_is_none n k (none k) ∙ sym (bit_at-zero k))

-- A bit that wasn't set is added.
pub sum_is_or : (n k : ℕ) → has_bit n k ≡ false → bit_or n (2 ^ k) ≡ n + 2 ^ k
sum_is_or n k unset = or_disjoint n (2 ^ k) (and_pow n k ∙ ap (λ b. b * 2 ^ k) (bit_is_none n k unset) ∙ omega arith)

sum_bits : (n k i : ℕ) → has_bit n k ≡ false → bit_at (n + 2 ^ k) i ≡ max (bit_at n i) (bit_at (2 ^ k) i)
sum_bits n k i unset = ap (λ m. bit_at m i) (sym (sum_is_or n k unset)) ∙ bit_at_or n (2 ^ k) i

pub added_here : (n k : ℕ) → has_bit n k ≡ false → has_bit (n + 2 ^ k) k ≡ true
added_here n k unset = grind (arith, bit_at-pow_same, bit_is_none, has_from, sum_bits)

pub added_other : (n k i : ℕ) → has_bit n k ≡ false → i ≢ k → has_bit (n + 2 ^ k) i ≡ has_bit n i
added_other n k i unset ne = grind (arith, sum_bits, bit_at-pow_other)

-- The bits of one word are all of another's.
pub fewer_bits : (n m k : ℕ) → bit_and n m ≡ n → has_bit n k ≡ true → has_bit m k ≡ true
fewer_bits n m k sub h = grind (arith, bit_is_one, bit_at_and, has_from, bit_at-lt)

pub without_none : (n m : ℕ) → without n m ≡ 0 → bit_and n m ≡ n
without_none n m z = let le = and_le_l n m in omega arith

pub no_common : (n m k : ℕ) → bit_and n m ≡ 0 → has_bit n k ≡ true → has_bit m k ≡ false
no_common n m k z h =
    let one = bit_is_one n k h in
    let none : min (bit_at n k) (bit_at m k) ≡ 0 = sym (bit_at_and n m k) ∙ ap (λ x. bit_at x k) z ∙ bit_at-zero k in
    ne_eqb (bit_at m k) 1 (λ e. omega arith)

-- the bits that go, if some of a word's stay
pub rest_is : (n m : ℕ) → bit_and n m ≡ n → m - n ≡ bit_xor m n
rest_is n m sub = let sum : n + bit_xor m n ≡ m = sym (or_disjoint n (bit_xor m n) disjoint) ∙ whole in omega arith
  where
    bits : (i : ℕ) → (bit_at n i ≡ 0) ⊎ ((bit_at n i ≡ 1) × (bit_at m i ≡ 1))
    bits i = grind (arith, bit_is_one, fewer_bits, bit_is_none)

    none_at : (a b : ℕ) → b < 2 → (a ≡ 0) ⊎ ((a ≡ 1) × (b ≡ 1)) → min a ((b + a) % 2) ≡ 0
    none_at a b lt (inl z) = omega arith
    none_at a b lt (inr both) = let o = both.0 in let p = both.1 in omega arith

    all_at : (a b : ℕ) → b < 2 → (a ≡ 0) ⊎ ((a ≡ 1) × (b ≡ 1)) → max a ((b + a) % 2) ≡ b
    all_at a b lt (inl z) = omega arith
    all_at a b lt (inr both) = let o = both.0 in let p = both.1 in omega arith

    disjoint : bit_and n (bit_xor m n) ≡ 0
    disjoint = same_from_bits (bit_and n (bit_xor m n)) 0 (λ i. bit_at_and n (bit_xor m n) i ∙ ap (λ b. min (bit_at n i)
        b) (bit_at_xor m n i) ∙ none_at (bit_at n i) (bit_at m i) (bit_at-lt m i) (bits i) ∙ sym (bit_at-zero i))

    whole : bit_or n (bit_xor m n) ≡ m
    whole = same_from_bits (bit_or n (bit_xor m n)) m (λ i. bit_at_or n (bit_xor m n) i ∙ ap (λ b. max (bit_at n i) b)
        (bit_at_xor m n i) ∙ all_at (bit_at n i) (bit_at m i) (bit_at-lt m i) (bits i))

pub rest_bits : (n m k : ℕ) → bit_and n m ≡ n → has_bit m k ≡ true → has_bit n k ≡ false → has_bit (m - n) k ≡ true
rest_bits n m k sub h out = grind (arith, bit_is_one, bit_is_none, has_from, rest_is, bit_at_xor)

-- No other cell has the bit that stands for a cell.
pub bit_for_small : (k : ℕ) → k < 64 → bit_for k ≡ 2 ^ k
bit_for_small k lt = let le : 2 ^ k ≤ 2 ^ 63 = pow_mono {i = k} {j = 63} (omega arith) in omega arith

pub bit_for_past : (k : ℕ) → 64 ≤ k → bit_for k ≡ 0
bit_for_past k le =
    let e : 2 ^ k ≡ 2 ^ (k - 64) * 2 ^ 64 = ap (λ i. 2 ^ i) (omega arith) ∙ pow-add 2 (k - 64) 64 in
    ap (λ n. n % 2 ^ 64) e ∙ mul-mod_left (2 ^ (k - 64)) (2 ^ 64)

pub bit_of_power : (k i : ℕ) → has_bit (2 ^ k) i ≡ true → i ≡ k
bit_of_power k i is = grind (arith, bit_is_one, bit_at-pow_other)

pub bit_of_cell : (k i : ℕ) → has_bit (bit_for k) i ≡ true → i ≡ k
bit_of_cell k i is = elim (cases_lt k 64) [
  | inl lt ↦ bit_of_power k i (subst (λ n. has_bit n i ≡ true) (bit_for_small k lt) is)
  | inr past ↦ absurd (true≢false (sym is ∙ no_bit (bit_for k) i (bit_for_past k past)))
]

-- a word's bits with another's
pub has_bit_or : (n m i : ℕ) → has_bit (bit_or n m) i ≡ true → (has_bit n i ≡ true) ⊎ (has_bit m i ≡ true)
has_bit_or n m i is = grind (arith, bit_is_none, bit_at_or, bit_is_one, has_from)

pub has_bit_or_left : (n m i : ℕ) → has_bit n i ≡ true → has_bit (bit_or n m) i ≡ true
has_bit_or_left n m i h = grind (arith, bit_is_one, has_from, bit_at_or, bit_at-lt)

pub has_bit_or_right : (n m i : ℕ) → has_bit m i ≡ true → has_bit (bit_or n m) i ≡ true
has_bit_or_right n m i h = grind (arith, bit_is_one, has_from, bit_at_or, bit_at-lt)

pub bit_for_has : (k : ℕ) → k < 64 → has_bit (bit_for k) k ≡ true
bit_for_has k lt = has_from (bit_for k) k (ap (λ n. bit_at n k) (bit_for_small k lt) ∙ bit_at-pow_same k)

-- Bits that are added to one of some words: each bit after that was there, or is one of them.
pub more_bits : (xs : List ℕ) (q b p i : ℕ) → has_bit (slice_index (slice_set xs q (bit_or (slice_index xs q) b)) p) i
    ≡ true → (has_bit (slice_index xs p) i ≡ true) ⊎ ((p ≡ q) × (has_bit b i ≡ true))
more_bits xs q b p i is = elim (cases_eq p q) [
  | inr ne ↦ inl (subst (λ n. has_bit n i ≡ true) (get_or-set_other xs q p (bit_or (slice_index xs q) b) 0 ne) is)
  | inl e ↦ elim (cases_lt q (length xs)) [
    | inr past ↦ inl (subst (λ (ys : List ℕ). has_bit (slice_index ys p) i ≡ true)
        (set_past xs q (bit_or (slice_index xs q) b) past) is)
    | inl lt ↦
        let same = ap (λ j. slice_index (slice_set xs q (bit_or (slice_index xs q) b)) j) e
        ∙ get_or-set_same xs q (bit_or (slice_index xs q) b) 0 lt in
        elim (has_bit_or (slice_index xs q) b i (subst (λ n. has_bit n i ≡ true) same is)) [
          | inl old ↦ inl (subst (λ j. has_bit (slice_index xs j) i ≡ true) (sym e) old)
          | inr new ↦ inr (e, new)
        ]
  ]
]

-- Those that were there stay, and those that are added are there.
pub bits_stay : (xs : List ℕ) (q b p i : ℕ) → has_bit (slice_index xs p) i ≡ true
    → has_bit (slice_index (slice_set xs q (bit_or (slice_index xs q) b)) p) i ≡ true
bits_stay xs q b p i is = elim (cases_eq p q) [
  | inr ne ↦ subst (λ n. has_bit n i ≡ true) (sym (get_or-set_other xs q p (bit_or (slice_index xs q) b) 0 ne)) is
  | inl e ↦ elim (cases_lt q (length xs)) [
    | inr past ↦ subst (λ (ys : List ℕ). has_bit (slice_index ys p) i ≡ true)
        (sym (set_past xs q (bit_or (slice_index xs q) b) past)) is
    | inl lt ↦
        let same = ap (λ j. slice_index (slice_set xs q (bit_or (slice_index xs q) b)) j) e
        ∙ get_or-set_same xs q (bit_or (slice_index xs q) b) 0 lt in
        subst (λ n. has_bit n i ≡ true) (sym same)
        (has_bit_or_left (slice_index xs q) b i (subst (λ j. has_bit (slice_index xs j) i ≡ true) e is))
  ]
]

pub bits_added : (xs : List ℕ) (q b i : ℕ) → q < length xs → has_bit b i ≡ true
    → has_bit (slice_index (slice_set xs q (bit_or (slice_index xs q) b)) q) i ≡ true
bits_added xs q b i lt is =
    cc (get_or-set_same xs q (bit_or (slice_index xs q) b) 0 lt, has_bit_or_right (slice_index xs q) b i is)
