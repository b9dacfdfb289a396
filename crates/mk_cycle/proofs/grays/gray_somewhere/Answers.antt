use Rattle.mk_cycle.proofs.grays.gray_somewhere.Goals as goal
use Rattle.mk_cycle.proofs.StopSteps.{looks_then}

pub returns-clause-looks : goal.returns-clause-looks
returns-clause-looks c = looks_then c.gray_between-found.ensures.looks c.gray_between.ensures.looks
