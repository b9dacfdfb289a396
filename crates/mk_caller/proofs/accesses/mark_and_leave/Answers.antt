use Rattle.mk_caller.proofs.Accessing.{marks_and_leaves}
use Rattle.mk_caller.proofs.accesses.mark_and_leave.Goals as goal

pub returns : goal.returns
returns c = marks_and_leaves c.dirty.ensures.moves c.leave.ensures.moves
