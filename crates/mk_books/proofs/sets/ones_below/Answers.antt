use Rattle.mk_books.proofs.sets.ones_below.Goals as goal
use Rattle.mk_books.proofs.{Vocabulary.{ℕ, ap, bit_at, nat_eq, ◌∙◌}, LowestBits.{all_ones, low_ones, ones_shifted}}

pub returns-then-end-lt64 : goal.returns-then-end-lt64
returns-then-end-lt64 c place within =
    ap (λ (n : ℕ). nat_eq (bit_at n place) 1) (ones_shifted c.args.end c.if-end-lt64.true) ∙ low_ones c.args.end place

pub returns-else-end-lt64 : goal.returns-else-end-lt64
returns-else-end-lt64 c place within = all_ones c.args.end place c.if-end-lt64.false within
