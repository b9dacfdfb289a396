use Rattle.mk_caller.proofs.Accessing.{stores_and_leaves}
use Rattle.mk_caller.proofs.accesses.store_and_leave.Goals as goal

pub returns : goal.returns
returns c = stores_and_leaves c.args.v c.requires.stage c.store.ensures.moves c.leave.ensures.moves
