use Rattle.mk_cycle.proofs.RestOfRuns.{run_of_one}
use Rattle.mk_cycle.proofs.settling.free_emptied.Goals as goal

pub returns-clause-frees : goal.returns-clause-frees
returns-clause-frees c =
    run_of_one c.args.page c.free_unused.new.turn.in_order c.free_unused.ensures.frees c.free_unused.ensures.settled
