-- The lowest 1 of a word, from a place on or above one, and a word with one bit put.
use Rattle.std.proofs.Common.{bit_and, bit_or, eq-eqb, le-ltb, lt-ltb, pow-add, shr-shr, ◌/◌, ◌^◌}
use Rattle.std.proofs.lemmas.Nat.Bits.{bit_at-lt, bit_at-pow_other, bit_at-pow_same, bit_at-zero, bit_at_above}
use Rattle.std.proofs.lemmas.Nat.Bits.{bit_at_and, bit_at_clear_other, bit_at_clear_same, bit_at_mask_below}
use Rattle.std.proofs.lemmas.Nat.Bits.{bit_at_mask_inside, bit_at_ones, bit_at_ones_above, bit_at_set_other}
use Rattle.std.proofs.{lemmas.Nat.Bits.{bit_at_set_same, bit_at_xor, ones_shl}, Math.Pow.pow-lt}
use Rattle.std.{proofs.lemmas.Nat.{mul-mod_first}, specs.{Int.bit_not, Int.Bits.bit_xor}}
use Rattle.mk_books.proofs.Vocabulary.{IsNext, None, Some, ℕ, ap, arith, bit_at, cases_lt, false, inl, inr, nat_eq}
use Rattle.mk_books.proofs.Vocabulary.{nat_lt, not, sym, true, w64, ◌%◌, ◌*◌, ◌+◌, ◌-◌, ◌<◌, ◌∙◌, ◌≡◌, ◌≤◌}

zero_is_no_one : (bit : ℕ) → bit ≡ 0 → nat_eq bit 1 ≡ false
zero_is_no_one bit is = ap (λ b. nat_eq b 1) is

-- a bit of a word, after its lower bits were shifted out
bit_left : (word from k : ℕ) → from ≤ k → bit_at (word / 2 ^ from) (k - from) ≡ bit_at word k
bit_left word from k above = ap (λ n. n % 2) (shr-shr word from (k - from)) ∙ ap (bit_at word) (omega arith)

pub lowest_is_next : (word from place : ℕ) → word < 2 ^ 64 → bit_at (word / 2 ^ from) place ≡ 1
    → ((below : ℕ) → below < place → bit_at (word / 2 ^ from) below ≡ 0)
    → IsNext (λ k. nat_eq (bit_at word k) 1) from 64 (Some (from + place))
lowest_is_next word from place fits one lowest =
    let is : bit_at word (from + place) ≡ 1 =
    sym (bit_left word from (from + place) (omega arith)) ∙ ap (bit_at (word / 2 ^ from)) (omega arith) ∙ one in
    let within : from + place < 64 = elim (cases_lt (from + place) 64) [
      | inl below ↦ below
      | inr above ↦ let none = bit_at_above word 64 (from + place) fits above in absurd (omega (arith, is, none))
    ] in (
      omega arith,
      within,
      eq-eqb _ 1 is,
      λ k low high. zero_is_no_one (bit_at word k) (sym (bit_left word from k low)
          ∙ lowest (k - from) (omega arith)),
    )

pub none_is_next : (word from : ℕ) → word / 2 ^ from ≡ 0 → IsNext (λ k. nat_eq (bit_at word k) 1) from 64 None
none_is_next word from none k low high = zero_is_no_one (bit_at word k)
    (sym (bit_left word from k low) ∙ ap (λ rest. bit_at rest (k - from)) none ∙ bit_at-zero (k - from))

-- the word without its bits up to a place, as the code computes it
abbrev pub rest_above : ℕ → ℕ → ℕ
rest_above word place = bit_and word ((2 ^ 64 - 1) * 2 ^ place % 2 ^ 64 * 2 ^ 1 % 2 ^ 64)

mask_above : (place : ℕ) → place < 64 → (2 ^ 64 - 1) * 2 ^ place % 2 ^ 64 * 2 ^ 1 % 2 ^ 64 ≡ 2 ^ 64 - 2 ^ (place + 1)
mask_above place within =
    mul-mod_first ((2 ^ 64 - 1) * 2 ^ place) (2 ^ 1) (2 ^ 64)
    ∙ ap (λ n. n % 2 ^ 64) (omega (arith, pow-add 2 place 1)) ∙ ones_shl 64 (place + 1) (omega arith)

rest_kept : (word place k : ℕ) → place < k → k < 64 → bit_at (rest_above word place) k ≡ bit_at word k
rest_kept word place k above within =
    let mask = mask_above place (omega arith) in
    let one = bit_at_mask_inside (place + 1) 64 k (omega arith) within in
    grind (arith, mask, one, bit_at_and, bit_at-lt)

rest_dropped : (word place k : ℕ) → place < 64 → k ≤ place → bit_at (rest_above word place) k ≡ 0
rest_dropped word place k fits below =
    let mask = mask_above place fits in
    let none = bit_at_mask_below (place + 1) 64 k (omega arith) in
    grind (arith, mask, none, bit_at_and)

pub lowest_is_above : (word place next : ℕ) → place < 64 → next < 64 → bit_at (rest_above word place) next ≡ 1
    → ((below : ℕ) → below < next → bit_at (rest_above word place) below ≡ 0)
    → IsNext (λ k. nat_eq (bit_at word k) 1) (place + 1) 64 (Some next)
lowest_is_above word place next begun within one lowest =
    grind (arith, cases_lt, rest_dropped, eq-eqb, rest_kept, zero_is_no_one)

pub none_is_above : (word place : ℕ) → rest_above word place ≡ 0
    → IsNext (λ k. nat_eq (bit_at word k) 1) (place + 1) 64 None
none_is_above word place none k low high = zero_is_no_one (bit_at word k)
    (sym (rest_kept word place k (omega arith) high) ∙ ap (λ rest. bit_at rest k) none ∙ bit_at-zero k)

-- a word with one bit set or cleared, as the code computes it
abbrev pub with_one : ℕ → ℕ → ℕ
with_one word place = bit_or word (1 * 2 ^ place % 2 ^ 64)

abbrev pub with_zero : ℕ → ℕ → ℕ
with_zero word place = bit_and word (bit_not w64 (1 * 2 ^ place % 2 ^ 64))

pub set_bit_is : (word place : ℕ) → place < 64 → nat_eq (bit_at (with_one word place) place) 1 ≡ true
set_bit_is word place within = eq-eqb _ 1 (bit_at_set_same w64 word place within)

pub cleared_bit_is : (word place : ℕ) → place < 64 → nat_eq (bit_at (with_zero word place) place) 1 ≡ false
cleared_bit_is word place within = zero_is_no_one _ (bit_at_clear_same w64 word place within)

pub set_bit_others : (word place k : ℕ) → place < 64 → (k ≡ place → ⊥) → bit_at (with_one word place) k ≡ bit_at word k
set_bit_others word place k within other = bit_at_set_other w64 word place within k other

pub cleared_bit_others : (word place k : ℕ) → place < 64 → k < 64 → (k ≡ place → ⊥)
    → bit_at (with_zero word place) k ≡ bit_at word k
cleared_bit_others word place k within short other = bit_at_clear_other w64 word place within k short other

-- a word with one bit turned, as the code computes it
abbrev pub with_other : ℕ → ℕ → ℕ
with_other word place = bit_xor word (1 * 2 ^ place % 2 ^ 64)

one_at : (place : ℕ) → place < 64 → 1 * 2 ^ place % 2 ^ 64 ≡ 2 ^ place
one_at place within = let small : 2 ^ place < 2 ^ 64 = pow-lt within in omega (arith, small)

turned : (word place k : ℕ) → place < 64 → bit_at (with_other word place) k ≡ (bit_at word k + bit_at (2 ^ place) k) % 2
turned word place k within = grind (arith, bit_at_xor, one_at)

pub turned_bit_is : (word place : ℕ) → place < 64
    → nat_eq (bit_at (with_other word place) place) 1 ≡ not (nat_eq (bit_at word place) 1)
turned_bit_is word place within = grind (arith, turned, bit_at-pow_same, bit_at-lt)

pub turned_bit_others : (word place k : ℕ) → place < 64 → (k ≡ place → ⊥)
    → bit_at (with_other word place) k ≡ bit_at word k
turned_bit_others word place k within other = grind (arith, turned, bit_at-pow_other, bit_at-lt)

-- a word whose lowest bits are 1, and one of which all are
pub low_ones : (end k : ℕ) → nat_eq (bit_at (2 ^ end - 1) k) 1 ≡ nat_lt k end
low_ones end k = grind (arith, cases_lt, bit_at_ones, lt-ltb, bit_at_ones_above, le-ltb)

pub ones_shifted : (end : ℕ) → end < 64 → 1 * 2 ^ end % 2 ^ 64 - 1 ≡ 2 ^ end - 1
ones_shifted end within = ap (λ n. n - 1) (one_at end within)

pub all_ones : (end k : ℕ) → 64 ≤ end → k < 64 → nat_eq (bit_at (2 ^ 64 - 1) k) 1 ≡ nat_lt k end
all_ones end k long within = low_ones 64 k ∙ lt-ltb k 64 within ∙ sym (lt-ltb k end (omega arith))
