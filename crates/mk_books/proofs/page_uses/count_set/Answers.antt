use Rattle.std.proofs.{Common.arith, lemmas.{Grind.common_steps, List.Sums.count_by-le-length}}
use Rattle.mk_geom.specs.PageUses.{bits_of}
use Rattle.mk_books.proofs.UsedBitLemmas.{count_ones-masked, length-bits_of}
use Rattle.mk_books.proofs.page_uses.count_set.Goals as goal

pub returns-clause-exact : goal.returns-clause-exact
returns-clause-exact c = grind (arith, common_steps, count_ones-masked)

pub returns-clause-few : goal.returns-clause-few
returns-clause-few c =
    omega (
      arith,
      returns-clause-exact c,
      count_by-le-length (λ bit. bit) (bits_of c.args.bits c.args.word),
      length-bits_of c.args.bits c.args.word,
    )
