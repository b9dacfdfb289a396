use Rattle.mk_cycle.proofs.mostly_engine.MostlyEngineEngine.begin.Goals as goal
use Rattle.mk_cycle.proofs.ReachedMarks.{sweepless_beside}

pub returns-clause-reached : goal.returns-clause-reached
returns-clause-reached g c =
    let marks = c.mark_roots.ensures.on.marks in
    sweepless_beside marks.does marks.reached
