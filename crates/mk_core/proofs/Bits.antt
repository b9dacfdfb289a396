-- Bits of words.
use Rattle.std.proofs.{Math.Pow.pow_mono, lemmas.Nat.Bits.bit_at_above}
use Rattle.mk_core.proofs.Vocabulary.{ℕ, ap, arith, false, has_bit, ne_eqb, ◌+◌, ◌<◌, ◌==◌, ◌^◌, ◌≡◌, ◌≤◌}

-- a word has no bit after its last
pub has_bit_past : (word k : ℕ) → word < 2 ^ 64 → 64 ≤ k → has_bit word k ≡ false
has_bit_past word k lt le = ap (λ b. b == 1) (bit_at_above word 64 k lt le)

-- no word is a sum with a bit after its last
pub sum_past : (value word k : ℕ) → value < 2 ^ 64 → 64 ≤ k → (value == word + 2 ^ k) ≡ false
sum_past value word k lt le =
    let great : 2 ^ 64 ≤ 2 ^ k = pow_mono le in
    ne_eqb value (word + 2 ^ k) (λ e. omega arith)

-- no word is such a bit
pub bit_above : (value k : ℕ) → value < 2 ^ 64 → 64 ≤ k → (value == 2 ^ k) ≡ false
bit_above value k lt le =
    let great : 2 ^ 64 ≤ 2 ^ k = pow_mono le in
    ne_eqb value (2 ^ k) (λ e. omega arith)
