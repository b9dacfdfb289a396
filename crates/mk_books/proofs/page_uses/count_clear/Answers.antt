use Rattle.mk_books.proofs.UsedBitLemmas.{count_clear_bits}
use Rattle.mk_books.proofs.page_uses.count_clear.Goals as goal

pub returns : goal.returns
returns c = cc (c.count_set.ensures.exact, count_clear_bits c.args.bits c.args.word)
