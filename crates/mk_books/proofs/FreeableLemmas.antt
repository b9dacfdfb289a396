-- The bits of the cells that are freeable.
use Rattle.std.proofs.Common.{ℕ, ap, arith, bit_and, min, pow-add, sym, w64, ◌%◌, ◌+◌, ◌-◌, ◌/◌, ◌<◌, ◌^◌, ◌↔◌, ◌∙◌}
use Rattle.std.proofs.{Common.{◌≡◌, ◌≤◌}, lemmas.Nat.Bits.{bit_at-lt, bit_at_above, bit_at_and, bit_at_not}}
use Rattle.std.{proofs.Math.Nat.{div-div-eq-div-mul}, specs.Int.{bit_at, bit_not}}
use Rattle.mk_books.specs.Cells.{IsFreeable}

-- what `freeable` computes
abbrev pub freeable_cells : ℕ → ℕ → ℕ → ℕ
freeable_cells used quar mark = bit_and (bit_and used (quar / 2 ^ 32)) (bit_not w64 mark)

bit_at-freeable_cells : (used quar mark k : ℕ) → mark < 2 ^ 64 → k < 64
    → bit_at (freeable_cells used quar mark) k ≡ min (min (bit_at used k) (bit_at quar (32 + k))) (1 - bit_at mark k)
bit_at-freeable_cells used quar mark k fits within = bit_at_and (bit_and used (quar / 2 ^ 32)) (bit_not w64 mark) k
    ∙ ap (λ x. min x (bit_at (bit_not w64 mark) k)) (bit_at_and used (quar / 2 ^ 32) k)
    ∙ ap (λ x. min (min (bit_at used k) x) (bit_at (bit_not w64 mark) k)) (
    ap (λ x. x % 2) (div-div-eq-div-mul quar (2 ^ 32) (2 ^ k) ∙ ap (λ x. quar / x) (sym (pow-add 2 32 k))))
    ∙ ap (λ x. min (min (bit_at used k) (bit_at quar (32 + k))) x) (bit_at_not w64 mark k fits within)

pub freeable_cells-is : (used quar mark k : ℕ) → mark < 2 ^ 64 → k < 32
    → (bit_at (freeable_cells used quar mark) k ≡ 1) ↔ IsFreeable used quar mark k
freeable_cells-is used quar mark k fits within = grind (arith, bit_at-freeable_cells, bit_at-lt)

pub freeable_cells-none : (used quar mark k : ℕ) → quar < 2 ^ 64 → 32 ≤ k → bit_at (freeable_cells used quar mark) k ≡ 0
freeable_cells-none used quar mark k fits above =
    let high : quar / 2 ^ 32 < 2 ^ 32 = omega arith in
    let none : bit_at (quar / 2 ^ 32) k ≡ 0 = bit_at_above (quar / 2 ^ 32) 32 k high above in
    bit_at_and (bit_and used (quar / 2 ^ 32)) (bit_not w64 mark) k ∙ ap (λ x. min x (bit_at (bit_not w64 mark) k))
    (bit_at_and used (quar / 2 ^ 32) k ∙ ap (λ x. min (bit_at used k) x) none) ∙ omega arith
