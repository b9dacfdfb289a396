use Rattle.mk_books.proofs.sorting.put_free.Goals as goal
use Rattle.mk_books.proofs.BlockSets.{puts_free}

pub returns : goal.returns
returns c = puts_free c.insert.ensures c.remove.ensures c.insert-2.ensures
