use Rattle.mk_sweep.proofs.SweepSteps.{quiet_then}
use Rattle.mk_sweep.proofs.roots.mark_root.Goals as goal

pub returns-clause-on : goal.returns-clause-on
returns-clause-on c = quiet_then c.look_at_root-value.ensures.on c.mark_value.ensures.on
