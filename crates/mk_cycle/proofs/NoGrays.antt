-- Pages without gray cells, and pages with one.
use Rattle.std.proofs.{lemmas.Nat.Bits.{bit_at-lt, bit_at_above, bit_at_and}, Common.bit_and, Math.Pow.pow_pos}
use Rattle.mk_words.proofs.Below.Laws.Vocabulary.{Bool, Words, ℕ, arith, bit_at, cases_lt, cells_under, eq-eqb, false}
use Rattle.mk_words.proofs.Below.Laws.Vocabulary.{has_bit, has_bit_without, header_at, header_in, header_of, not, refl}
use Rattle.mk_words.proofs.Below.Laws.Vocabulary.{slice_index, true, without, ◌&&◌, ◌-◌, ◌<◌, ◌^◌, ◌∙◌, ◌≡◌}
use Rattle.mk_cycle.specs.Grays.{HasNoGray}
use Rattle.mk_core.proofs.WordBits.{bit_is_one, zero_from_bits}

-- no bit of the cells is in one word and not in the other
no_gray_bits : (marks blacks n : ℕ) → ((k : ℕ) → k < n → has_bit marks k ≡ true → has_bit blacks k ≡ true)
    → without (bit_and marks (2 ^ n - 1)) blacks ≡ 0
no_gray_bits marks blacks n none =
    zero_from_bits (without (bit_and marks (2 ^ n - 1)) blacks)
    (λ k. has_bit_without (bit_and marks (2 ^ n - 1)) blacks k ∙ by k (has_bit (bit_and marks (2 ^ n - 1)) k) refl)
  where
    below : (k : ℕ) → bit_at (2 ^ n - 1) k ≡ 1 → k < n
    below k one = grind (arith, cases_lt, pow_pos, bit_at_above)

    by : (k : ℕ) (b : Bool) → has_bit (bit_and marks (2 ^ n - 1)) k ≡ b → (b && not (has_bit blacks k)) ≡ false
    by k false is = refl
    by k true is = grind (arith, below, eq-eqb, bit_at_and, bit_is_one, bit_at-lt)

pub no_gray : (w : Words) (p : ℕ)
    → ((k : ℕ) → k < cells_under (header_in w p) → has_bit (slice_index w.marks p) k ≡ true
    → has_bit (slice_index w.blacks p) k ≡ true)
    → HasNoGray w p
no_gray w p none = no_gray_bits (slice_index w.marks p) (slice_index w.blacks p) (cells_under (header_in w p)) none

-- the words as they were found
pub no_gray_found : (w : Words) (p header marks blacks : ℕ) → header ≡ header_at w p → marks ≡ slice_index w.marks p
    → blacks ≡ slice_index w.blacks p
    → ((k : ℕ) → k < cells_under (header_of header) → has_bit marks k ≡ true → has_bit blacks k ≡ true) → HasNoGray w p
no_gray_found w p header marks blacks h m b none = grind (arith, no_gray)
