use Rattle.mk_cycle.proofs.Begun.{does_no_part}
use Rattle.mk_cycle.proofs.stop_engine.StopEngineEngine.begin.Goals as goal
use Rattle.mk_cycle.proofs.TracedMarks.{begins_with_nothing}
use Rattle.mk_words.proofs.Sweeping.{nothing_sweeps}

pub returns-clause-law : goal.returns-clause-law
returns-clause-law g c = begins_with_nothing c.args._turn.now.pass

pub returns-clause-reached : goal.returns-clause-reached
returns-clause-reached g c = nothing_sweeps c.args._turn.now.pass

pub returns-clause-begun : goal.returns-clause-begun
returns-clause-begun g c = does_no_part c.args._turn.now.pass
