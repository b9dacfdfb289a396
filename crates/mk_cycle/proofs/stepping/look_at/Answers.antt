use Rattle.mk_cycle.proofs.stepping.look_at.Goals as goal
use Rattle.mk_cycle.proofs.StopSteps.{looks_plain}

pub returns-clause-looks : goal.returns-clause-looks
returns-clause-looks c = looks_plain c.requires.may.wanted c.look_among.ensures.acts c.requires.plain
