use Rattle.mk_books.proofs.BitRanges.{bits_put}
use Rattle.mk_books.proofs.sets.put_bits.Goals as goal

pub returns : goal.returns
returns c = bits_put c.args.bits c.store_word.ensures c.with_bits.ensures
