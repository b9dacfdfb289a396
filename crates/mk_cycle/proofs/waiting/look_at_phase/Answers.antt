use Rattle.mk_cycle.proofs.waiting.look_at_phase.Goals as goal
use Rattle.mk_cycle.proofs.Wants.{look_waits, look_wanted}

pub returns-clause-waits : goal.returns-clause-waits
returns-clause-waits c = look_waits c.look.ensures.acts c.requires.ready c.requires.gates c.requires.phase

pub returns-clause-wanted : goal.returns-clause-wanted
returns-clause-wanted c = look_wanted (returns-clause-waits c) c.look.ensures.finds
