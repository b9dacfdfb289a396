use Rattle.mk_caller.proofs.Onward.{dirty_next, moves}
use Rattle.mk_caller.proofs.steps.dirty.Goals as goal

pub returns : goal.returns
returns c = record { moves = moves c.requires.underway c.dirty.ensures.goes (dirty_next _ _ c.requires.stage) }
