use Rattle.mk_sweep.proofs.SweepSteps.{on_plain}
use Rattle.mk_sweep.proofs.stepping.look_at.Goals as goal

pub returns-clause-on : goal.returns-clause-on
returns-clause-on c = on_plain c.requires.sweeping _ c.look.ensures.acts c.requires.plain
