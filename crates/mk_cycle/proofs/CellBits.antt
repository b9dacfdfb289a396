-- Bits of cells that are given back.
use Rattle.std.proofs.lemmas.Nat.Bits.{bit_at-lt, bit_at_and, same_from_bits}
use Rattle.mk_words.proofs.Below.Laws.Vocabulary.{Bool, ℕ, ap, arith, has_bit, has_bit_without, not, quarantine_word}
use Rattle.mk_words.proofs.Below.Laws.Vocabulary.{sym, without, ◌%◌, ◌&&◌, ◌-◌, ◌/◌, ◌<◌, ◌^◌, ◌∙◌, ◌≡◌}
use Rattle.mk_cycle.proofs.Vocabulary.{and_le_l, bit_and}
use Rattle.mk_core.proofs.WordBits.{bit_is_none, bit_is_one, zero_from_bits}

same_from_has : (a b : ℕ) → ((k : ℕ) → has_bit a k ≡ has_bit b k) → a ≡ b
same_from_has a b h = same_from_bits a b (λ k. grind (arith, bit_is_one, bit_is_none))

pub has_bit_and : (a b k : ℕ) → has_bit (bit_and a b) k ≡ (has_bit a k && has_bit b k)
has_bit_and a b k = grind (arith, bit_at_and, bit_at-lt)

-- in Booleans

-- what is left of a word is part of it
pub left_within : (a g : ℕ) → bit_and (without a g) a ≡ without a g
left_within a g = same_from_has _ _ (λ k. has_bit_and (without a g) a k ∙ ap (λ (b : Bool). b && has_bit a k)
    (has_bit_without a g k) ∙ (grind arith) ∙ sym (has_bit_without a g k))

pub none_beyond : (a g : ℕ) → without (bit_and a g) g ≡ 0
none_beyond a g = zero_from_bits _ (λ k. has_bit_without (bit_and a g) g k ∙ ap (λ (b : Bool). b && not (has_bit g k))
    (has_bit_and a g k) ∙ (grind arith))

pub none_in_both : (a g : ℕ) → bit_and (without a g) g ≡ 0
none_in_both a g = zero_from_bits _ (λ k. has_bit_and (without a g) g k ∙ ap (λ (b : Bool). b && has_bit g k)
    (has_bit_without a g k) ∙ (grind arith))

pub part_within : (a g : ℕ) → bit_and (bit_and a g) a ≡ bit_and a g
part_within a g = same_from_has _ _ (λ k. has_bit_and (bit_and a g) a k ∙ ap (λ (b : Bool). b && has_bit a k)
    (has_bit_and a g k) ∙ (grind arith) ∙ sym (has_bit_and a g k))

pub none_of_itself : (g : ℕ) → without g g ≡ 0
none_of_itself g = zero_from_bits _ (λ k. has_bit_without g g k ∙ (grind arith))

-- what is taken away
pub taken_away : (a g : ℕ) → a - without a g ≡ bit_and a g
taken_away a g = let le = and_le_l a g in omega arith

pub rest_away : (a g : ℕ) → a - (a - without a g) ≡ without a g
rest_away a g = let le = and_le_l a g in omega arith

pub low_part : (f s : ℕ) → f < 2 ^ 32 → quarantine_word f s % 2 ^ 32 ≡ f
low_part f s lt = omega arith

pub high_part : (f s : ℕ) → f < 2 ^ 32 → quarantine_word f s / 2 ^ 32 ≡ s
high_part f s lt = omega arith
