use Rattle.mk_cycle.proofs.stepping.undirty_page.Goals as goal
use Rattle.mk_cycle.proofs.StopSteps.{on_undirty}

pub returns-clause-on : goal.returns-clause-on
returns-clause-on c = on_undirty c.requires.may.wanted c.undirty.ensures
