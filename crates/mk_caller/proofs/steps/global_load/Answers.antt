use Rattle.mk_caller.proofs.{Onward.getg_next, Onward.moves, Stepping.may_getg}
use Rattle.mk_caller.proofs.steps.global_load.Goals as goal

pub global_load-requires-clause-admitted : goal.global_load-requires-clause-admitted
global_load-requires-clause-admitted c = may_getg c.requires.underway c.requires.stage

pub returns : goal.returns
returns c = record { moves = moves c.requires.underway c.global_load.ensures.goes (getg_next _ _ _ c.requires.stage) }
