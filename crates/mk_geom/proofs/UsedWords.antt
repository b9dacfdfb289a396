-- Used words and the bits that they are made of.
use Rattle.std.proofs.Common.{Bool, List, ℕ, ap, arith, false, get_or, length, suc, true, zero, [], ◌*◌, ◌+◌, ◌/◌, ◌<◌}
use Rattle.std.{proofs.Common.{◌==◌, ◌∙◌, ◌∷◌, ◌≡◌}, specs.Int.{bit_at}}
use Rattle.std.proofs.lemmas.List.FromFn.{get_or-map-range_with_len, length-map-range_with_len}
use Rattle.std.proofs.lemmas.{List.same_lists, Nat.Bits.{bit_at-suc, bit_at_lowest}}
use Rattle.mk_geom.specs.{PageUses.bits_of, Storages.used_word}

pub bit_at-used_word : (bits : List Bool) (k : ℕ) (d : Bool) → k < length bits
    → (bit_at (used_word bits) k == 1) ≡ get_or bits k d
bit_at-used_word [] k d within = absurd (omega arith)
bit_at-used_word (true ∷ bits) zero d within = grind (arith, bit_at_lowest)
bit_at-used_word (false ∷ bits) zero d within = grind (arith, bit_at_lowest)
bit_at-used_word (true ∷ bits) (suc k) d within =
    let half : (1 + 2 * used_word bits) / 2 ≡ used_word bits = omega arith in
    let is : bit_at (1 + 2 * used_word bits) (suc k) ≡ bit_at (used_word bits) k = grind (arith, bit_at-suc) in
    ap (λ n. n == 1) is ∙ bit_at-used_word bits k d (omega arith)
bit_at-used_word (false ∷ bits) (suc k) d within =
    let half : (0 + 2 * used_word bits) / 2 ≡ used_word bits = omega arith in
    let is : bit_at (0 + 2 * used_word bits) (suc k) ≡ bit_at (used_word bits) k = grind (arith, bit_at-suc) in
    ap (λ n. n == 1) is ∙ bit_at-used_word bits k d (omega arith)

pub bits_of-used_word : (bits : List Bool) (n : ℕ) → length bits ≡ n → bits_of n (used_word bits) ≡ bits
bits_of-used_word bits n long =
    grind (arith, length-map-range_with_len, same_lists, get_or-map-range_with_len, bit_at-used_word)
