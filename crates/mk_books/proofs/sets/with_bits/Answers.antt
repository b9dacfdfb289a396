use Rattle.mk_books.proofs.Vocabulary.{ap, arith, bit_at, cond, nat_eq, sym, ◌∙◌}
use Rattle.mk_books.proofs.BitRanges.{ones_put, zeros_put}
use Rattle.mk_books.proofs.sets.with_bits.Goals as goal

pub returns-then-are_ones : goal.returns-then-are_ones
returns-then-are_ones c place within = ones_put c.args.word c.args.bits place ∙ ap (λ b. cond
    (nat_eq (bit_at c.args.bits place) 1) b (nat_eq (bit_at c.args.word place) 1)) (sym c.if-are_ones.true)

pub returns-else-are_ones : goal.returns-else-are_ones
returns-else-are_ones c place within =
    zeros_put c.args.word c.args.bits place (omega (arith, c.ranges.bits.fits)) within
    ∙ ap (λ b. cond (nat_eq (bit_at c.args.bits place) 1) b (nat_eq (bit_at c.args.word place) 1))
    (sym c.if-are_ones.false)
