-- The low bits of a used word.
use Rattle.std.proofs.Common.{Bool, List, ℕ, ap, arith, bit_and, cond, count_by, count_ones, eq-eqb, false, get_or, inl}
use Rattle.std.proofs.Common.{inr, le-ltb, length, lt-ltb, map-id, min, nat_eq, nat_lt, not, refl, sym, w64, [], ◌+◌}
use Rattle.std.proofs.Common.{◌-◌, ◌<◌, ◌^◌, ◌∙◌, ◌∷◌, ◌≡◌, ◌≤◌}
use Rattle.std.proofs.lemmas.List.FromFn.{get_or-map-range_with_len, length-map-range_with_len}
use Rattle.std.proofs.lemmas.Nat.Bits.{bit_at-lt, bit_at-trailing_ones, bit_at_and, bit_at_ones, bit_at_ones_above}
use Rattle.std.proofs.lemmas.{Nat.Bits.same_from_bits, Simd.{bit_mask_l, ones-mask_l}, Bool.cases_lt}
use Rattle.std.proofs.lemmas.List.{get_or_past, Sums.sum_by-cons}
use Rattle.std.specs.{Bool.then_some, Int.{bit_at, bit_not, trailing_ones, trailing_zeros}}
use Rattle.mk_geom.specs.PageUses.{first_where, bits_of}
use Rattle.mk_books.proofs.FirstWhereLemmas.{first_where_at, first_where_nowhere}
use lib.Lanes.{mask_l}
use lib.Count.{trailing_of_zero}

pub length-bits_of : (count used : ℕ) → length (bits_of count used) ≡ count
length-bits_of count used = length-map-range_with_len (λ k. nat_eq (bit_at used k) 1) 0 count

get_or-bits_of : (count used k : ℕ) (d : Bool) → k < count → get_or (bits_of count used) k d ≡ nat_eq (bit_at used k) 1
get_or-bits_of count used k d within = grind (arith, get_or-map-range_with_len)

-- `trailing_ones` is the place of the lowest 0, if there is one
record LowestZero (word place : ℕ) : Type 0 where
  below : (k : ℕ) → k < place → k < 64 → bit_at word k ≡ 1
  here : place < 64 → bit_at word place ≡ 0

pub first_where-bits_of : (count word : ℕ) → count ≤ 64 → word < 2 ^ 64
    → first_where not (bits_of count word) ≡ then_some (nat_lt (trailing_ones w64 word) count) (trailing_ones w64 word)
first_where-bits_of count word short fits =
    let place = trailing_ones w64 word in
    let lowest = elim (cases_lt (word + 1) (2 ^ 64)) as (λ _. LowestZero word (trailing_ones w64 word)) [
      | inl less ↦
          let place = bit_at-trailing_ones w64 word less in
          record { below = λ k lower within. place.2 k lower; here = λ within. place.1 }
      | inr most ↦
          let all : word ≡ 2 ^ 64 - 1 = omega arith in
          let none : bit_not w64 word ≡ 0 = omega arith in
          let end : trailing_ones w64 word ≡ 64 = ap (trailing_zeros w64) none ∙ trailing_of_zero 64 in
          record {
            below = λ k lower within. rw all (bit_at_ones 64 k within);
            here = λ within. absurd (omega (arith, end));
          }
    ] in
    let bits = bits_of count word in
    let taken : (k : ℕ) → k < place → k < count → not (get_or bits k false) ≡ false
    = grind (arith, get_or-bits_of, eq-eqb) in
    elim (cases_lt place count) [
      | inl within ↦ rw (lt-ltb place count within) (first_where_at not bits place false
          (omega (arith, length-bits_of count word)) (λ k lower. taken k lower (omega arith))
          (rw (get_or-bits_of count word place false within, lowest.here (omega arith))))
      | inr past ↦ rw (le-ltb place count past) (first_where_nowhere not bits false
          (λ k short. taken k (omega (arith, length-bits_of count word)) (omega (arith, length-bits_of count word))))
    ]

bit_is : (b : ℕ) → b < 2 → min b 1 ≡ cond (nat_eq b 1) 1 0
bit_is x0 bit = grind arith

pub count_ones-masked : (count word : ℕ)
    → count_ones (bit_and word (2 ^ count - 1)) ≡ count_by (λ bit. bit) (bits_of count word)
count_ones-masked count word =
    ap count_ones (same_from_bits (bit_and word (2 ^ count - 1)) (mask_l (bits_of count word))
    (λ k. (grind (
      arith,
      bit_at_and,
      cases_lt,
      bit_at_ones,
      bit_is,
      bit_at-lt,
      get_or-bits_of,
      bit_at_ones_above,
      get_or_past,
      length-bits_of,
    )) ∙ sym (bit_mask_l (bits_of count word) k))) ∙ ap (λ bits. count_ones (mask_l bits))
    (sym (map-id (bits_of count word))) ∙ ones-mask_l (λ bit. bit) (bits_of count word)

-- the bits that are 1, and the rest
count_by-others : (bits : List Bool) → count_by not bits + count_by (λ bit. bit) bits ≡ length bits
count_by-others [] = refl
count_by-others (bit ∷ bits) =
    let here : cond (not bit) 1 0 + cond bit 1 0 ≡ 1 = grind arith in
    omega (
      arith,
      here,
      count_by-others bits,
      sum_by-cons (λ b. cond (not b) 1 0) bit bits,
      sum_by-cons (λ b. cond b 1 0) bit bits,
    )

pub count_clear_bits : (count word : ℕ)
    → count_by not (bits_of count word) ≡ count - count_by (λ bit. bit) (bits_of count word)
count_clear_bits count word = omega (arith, count_by-others (bits_of count word), length-bits_of count word)
