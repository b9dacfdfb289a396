use Rattle.mk_cycle.proofs.HeldGates.{may_hold_beside, sets_beside}
use Rattle.mk_cycle.proofs.steps_beside.hold_beside.Goals as goal

pub hold_gate-requires : goal.hold_gate-requires
hold_gate-requires g c = may_hold_beside c.args.turn.now.in_order c.requires.may

pub returns-clause-sets : goal.returns-clause-sets
returns-clause-sets g c = sets_beside c.requires.may c.hold_gate.ensures.steps c.hold_gate.ensures.held
