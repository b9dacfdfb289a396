use Rattle.std.proofs.lemmas.Nat.Bits.{bit_at-trailing_zeros}
use Rattle.mk_books.proofs.sets.lowest.Goals as goal
use Rattle.mk_books.proofs.Vocabulary.{ℕ, ap, bit_at, subst, w64, ◌<◌, ◌∙◌}

pub returns-clause-one : goal.returns-clause-one
returns-clause-one c = ap (bit_at c.args.word) c.from.ensures
    ∙ (bit_at-trailing_zeros w64 c.args.word c.requires c.ranges.word.fits).1

pub returns-clause-lowest : goal.returns-clause-lowest
returns-clause-lowest c below lower = (bit_at-trailing_zeros w64 c.args.word c.requires c.ranges.word.fits).2 below
    (subst (λ (k : ℕ). below < k) c.from.ensures lower)
