use Rattle.mk_caller.proofs.{Onward.moves, Onward.setg_next, Stepping.may_setg}
use Rattle.mk_caller.proofs.steps.global_store.Goals as goal

pub global_store-requires-clause-admitted : goal.global_store-requires-clause-admitted
global_store-requires-clause-admitted c = may_setg c.requires.underway c.requires.stage

pub returns : goal.returns
returns c = record { moves = moves c.requires.underway c.global_store.ensures.goes (setg_next _ _ c.requires.stage) }
