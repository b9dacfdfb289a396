-- The bits that a word has and another hasn't.
use Rattle.std.proofs.{lemmas.Nat.Bits.{bit_at-lt, bit_at-suc, bit_at_and, bit_at_lowest, same_from_bits}, Common.min}
use Rattle.std.{proofs.lemmas.Nat.{and_le_l}, specs.Int.{bit_at}}
use Rattle.mk_core.proofs.Vocabulary.{ℕ, ap, arith, bit_and, suc, sym, zero, ◌%◌, ◌-◌, ◌/◌, ◌∙◌, ◌≡◌, ◌≤◌}
use Rattle.mk_core.specs.HistoryLaws.{BitsWithout}

half_and : (a b : ℕ) → bit_and a b / 2 ≡ bit_and (a / 2) (b / 2)
half_and a b = same_from_bits (bit_and a b / 2) (bit_and (a / 2) (b / 2))
    (λ k. sym (bit_at-suc (bit_and a b) k) ∙ bit_at_and a b (suc k) ∙ ap (λ x. min x (bit_at b (suc k)))
    (bit_at-suc a k) ∙ ap (λ y. min (bit_at (a / 2) k) y) (bit_at-suc b k) ∙ sym (bit_at_and (a / 2) (b / 2) k))

lowest_and : (a b : ℕ) → bit_and a b % 2 ≡ min (a % 2) (b % 2)
lowest_and a b = cc (bit_at_lowest (bit_and a b), bit_at_and a b 0, bit_at_lowest a, bit_at_lowest b)

bit_without : (a b k : ℕ) → bit_at (a - bit_and a b) k ≡ min (bit_at a k) (1 - bit_at b k)
bit_without a b zero =
    let low = lowest_and a b in
    let most : bit_and a b ≤ a = and_le_l a b in
    let here : (a - bit_and a b) % 2 ≡ min (a % 2) (1 - b % 2) = omega arith in
    cc (bit_at_lowest (a - bit_and a b), here, bit_at_lowest a, bit_at_lowest b)
bit_without a b (suc k) =
    let low = lowest_and a b in
    let most : bit_and a b ≤ a = and_le_l a b in
    let half : (a - bit_and a b) / 2 ≡ a / 2 - bit_and a b / 2 = omega arith in
    bit_at-suc (a - bit_and a b) k ∙ ap (λ n. bit_at n k) half ∙ ap (λ n. bit_at (a / 2 - n) k) (half_and a b)
    ∙ bit_without (a / 2) (b / 2) k ∙ ap (λ x. min x (1 - bit_at (b / 2) k)) (sym (bit_at-suc a k))
    ∙ ap (λ y. min (bit_at a (suc k)) (1 - y)) (sym (bit_at-suc b k))

pub has_bit_without : BitsWithout
has_bit_without word other k = grind (arith, bit_without, bit_at-lt)
