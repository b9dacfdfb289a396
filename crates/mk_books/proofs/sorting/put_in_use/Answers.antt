use Rattle.mk_books.proofs.sorting.put_in_use.Goals as goal
use Rattle.mk_books.proofs.BlockSets.{puts_free}

pub returns : goal.returns
returns c = puts_free c.remove.ensures c.insert.ensures c.remove-2.ensures
