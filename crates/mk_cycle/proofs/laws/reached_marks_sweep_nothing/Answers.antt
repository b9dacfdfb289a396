use Rattle.mk_cycle.proofs.laws.reached_marks_sweep_nothing.Goals as goal
use Rattle.mk_cycle.proofs.StopSteps.{reached_marks_sweep_nothing}

pub returns : goal.returns
returns c = reached_marks_sweep_nothing
