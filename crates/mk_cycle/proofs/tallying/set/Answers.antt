use Rattle.mk_cycle.proofs.TallySteps.{tally_sets}
use Rattle.mk_cycle.proofs.tallying.set.Goals as goal

pub returns : goal.returns
returns c = tally_sets c.requires.free c.tally.ensures
