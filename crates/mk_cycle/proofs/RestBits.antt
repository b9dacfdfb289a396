-- The bits that are left of a word after its lowest is taken away.
use Rattle.mk_words.proofs.Below.Laws.Vocabulary.{Bool, ℕ, arith, false, has_bit, has_bit_without, not, subst, sym}
use Rattle.mk_words.proofs.Below.Laws.Vocabulary.{true, true≢false, without, ◌&&◌, ◌<◌, ◌^◌, ◌∙◌, ◌≡◌}
use Rattle.mk_cycle.proofs.Vocabulary.{and_le_l, bit_and}
use Rattle.mk_core.proofs.WordBits.{bit_for_has, bit_for_small, bit_of_power}

not_both : (x y : Bool) → y ≡ true → (x && not y) ≡ false
not_both x0 y is = grind arith

-- what is left was there
pub left_among : (n k j : ℕ) → has_bit (without n (2 ^ k)) j ≡ true → has_bit n j ≡ true
left_among n k j has = grind (arith, has_bit_without)

-- what was there and is not left was taken
pub taken_or_gone : (n k j : ℕ) → has_bit (without n (2 ^ k)) j ≡ false → has_bit n j ≡ true → j ≡ k
taken_or_gone n k j gone has = grind (arith, bit_of_power, has_bit_without)

-- so less is left
pub fewer_left : (n k : ℕ) → k < 64 → has_bit n k ≡ true → without n (2 ^ k) < n
fewer_left n k lt has =
    let le = and_le_l n (2 ^ k) in
    let some : bit_and n (2 ^ k) ≡ 0 → ⊥ = λ none. true≢false (sym has ∙
    (let same : without n (2 ^ k) ≡ n = omega arith in
    cc (
      same,
      has_bit_without n (2 ^ k) k,
      not_both (has_bit n k) (has_bit (2 ^ k) k) (
          subst (λ (n : ℕ). has_bit n k ≡ true) (bit_for_small k lt) (bit_for_has k lt)),
    ))) in
    omega (arith, le, some)
