use Rattle.mk_cycle.proofs.waiting.want.Goals as goal
use Rattle.mk_cycle.proofs.Wants.{want_waits, wants_now}

pub returns-clause-waits : goal.returns-clause-waits
returns-clause-waits c =
    want_waits c.want.ensures c.requires.ready c.holds_gates.ensures c.requires.phase

pub returns-clause-wants : goal.returns-clause-wants
returns-clause-wants c = wants_now c.want.ensures
