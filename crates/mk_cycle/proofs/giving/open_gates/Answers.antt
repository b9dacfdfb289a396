use Rattle.mk_cycle.proofs.OpeningSteps.{opens_frees, others_may_open}
use Rattle.mk_cycle.proofs.giving.open_gates.Goals as goal

pub open_all-requires-clause-enabled : goal.open_all-requires-clause-enabled
open_all-requires-clause-enabled c =
    others_may_open c.args.stop.in_order c.requires.free c.requires.phase c.holds_gates.ensures

pub returns-clause-opens : goal.returns-clause-opens
returns-clause-opens c =
    (opens_frees c.args.stop.in_order c.requires.free c.requires.phase c.open_all.ensures.opens
    c.open_all.result.in_order.history).does

pub returns-clause-frees : goal.returns-clause-frees
returns-clause-frees c =
    (opens_frees c.args.stop.in_order c.requires.free c.requires.phase c.open_all.ensures.opens
    c.open_all.result.in_order.history).none
