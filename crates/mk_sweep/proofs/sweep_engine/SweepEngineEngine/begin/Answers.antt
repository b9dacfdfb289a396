use Rattle.mk_cycle.proofs.{Begun.does_no_part, TracedMarks.begins_with_nothing}
use Rattle.mk_sweep.proofs.sweep_engine.SweepEngineEngine.begin.Goals as goal

pub returns-clause-law : goal.returns-clause-law
returns-clause-law g c = begins_with_nothing c.args._turn.now.pass

pub returns-clause-begun : goal.returns-clause-begun
returns-clause-begun g c = does_no_part c.args._turn.now.pass
