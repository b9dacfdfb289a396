use Rattle.mk_cycle.proofs.stepping.clear_black.Goals as goal
use Rattle.mk_cycle.proofs.StopSteps.{on_unblack}

pub returns-clause-on : goal.returns-clause-on
returns-clause-on c = on_unblack c.requires.may.wanted c.unblack.ensures c.requires.part
