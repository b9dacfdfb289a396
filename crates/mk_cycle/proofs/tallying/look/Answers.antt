use Rattle.mk_cycle.proofs.TallySteps.{look_sets}
use Rattle.mk_cycle.proofs.tallying.look.Goals as goal

pub returns-clause-sets : goal.returns-clause-sets
returns-clause-sets c = look_sets c.requires.free c.look_among.ensures.acts
