use Rattle.mk_alloc.proofs.Going.{give_allowed}
use Rattle.mk_alloc.proofs.turns.give.Goals as goal

pub give-requires-clause-enabled : goal.give-requires-clause-enabled
give-requires-clause-enabled c = give_allowed c.args.turn.in_order c.requires.quiet c.requires.decided
