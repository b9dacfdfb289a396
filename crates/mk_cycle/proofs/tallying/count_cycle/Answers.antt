use Rattle.mk_cycle.proofs.TallySteps.{cycle_counted}
use Rattle.mk_cycle.proofs.tallying.count_cycle.Goals as goal

pub returns : goal.returns
returns c = cycle_counted c.args.held c.args.released c.lower.ensures c.raise.ensures c.raise-2.ensures
