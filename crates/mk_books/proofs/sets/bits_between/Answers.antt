use Rattle.mk_books.proofs.Vocabulary.{arith, ap, nat_lt, refl, ◌∙◌}
use Rattle.mk_books.proofs.BitRanges.{range_bits}
use Rattle.mk_books.proofs.sets.bits_between.Goals as goal

pub returns : goal.returns
returns c place within = range_bits c.args.word c.args.from c.args.end c.ones_below-2.result c.ones_below.result _ place
    c.requires.end within (c.ones_below.ensures place within) (c.ones_below-2.ensures place within
    ∙ ap (nat_lt place) c.saturating_sub-first.ensures) (omega (arith, c.ones_below-2.type_inv)) refl
