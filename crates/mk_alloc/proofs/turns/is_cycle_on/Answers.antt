use Rattle.mk_alloc.proofs.Going.{looked, phase_allowed}
use Rattle.mk_alloc.proofs.turns.is_cycle_on.Goals as goal

pub look-found-requires-clause-enabled : goal.look-found-requires-clause-enabled
look-found-requires-clause-enabled c = phase_allowed c.args.turn.now.in_order c.requires.quiet.free

pub returns-clause-looks : goal.returns-clause-looks
returns-clause-looks c = looked c.args.turn.now.in_order c.requires.quiet.free c.look-found.ensures.acts
