use Rattle.mk_cycle.proofs.stepping.blacken_cell.Goals as goal
use Rattle.mk_cycle.proofs.StopSteps.{on_black}

pub returns-clause-on : goal.returns-clause-on
returns-clause-on c = on_black c.requires.may.wanted c.black_among.ensures
