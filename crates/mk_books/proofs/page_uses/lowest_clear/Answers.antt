use Rattle.std.{proofs.Common.ap, proofs.Common.nat_lt, proofs.Common.sym, proofs.Common.◌∙◌, specs.Bool.then_some}
use Rattle.mk_books.proofs.UsedBitLemmas.{first_where-bits_of}
use Rattle.mk_books.proofs.page_uses.lowest_clear.Goals as goal

pub returns : goal.returns
returns c = c.then_some.ensures ∙ ap (λ place. then_some (nat_lt place c.args.bits) place) (c.from-place.ensures
    ∙ c.trailing_ones.ensures) ∙ sym (first_where-bits_of c.args.bits c.args.word c.requires c.ranges.word.fits)
