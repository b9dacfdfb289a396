use Rattle.std.proofs.{Common.w64, Math.Facts.Fits-lt-pow, lemmas.Nat.Bits.bit_at-trailing_zeros}
use Rattle.std.proofs.{Common.{ap, arith, ℕ, ◌<◌, ◌^◌, ◌∙◌}, lemmas.Bool.eq-eqb}
use Rattle.std.specs.Int.{bit_at}
use Rattle.mk_core.proofs.cells.lowest_bit.Goals as goal

pub returns-clause-one : goal.returns-clause-one
returns-clause-one c =
    let fits : c.args.word < 2 ^ 64 = Fits-lt-pow c.ranges.word in
    let some : 0 < c.args.word = omega (arith, c.requires) in
    let t = bit_at-trailing_zeros w64 c.args.word some fits in
    eq-eqb (bit_at c.args.word c.from.result) 1 (ap (λ (i : ℕ). bit_at c.args.word i) c.from.ensures ∙ t.1)
