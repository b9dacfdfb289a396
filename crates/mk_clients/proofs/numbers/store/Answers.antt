use Rattle.mk_clients.proofs.numbers.store.Goals as goal
use Rattle.mk_clients.proofs.OwnedCalls.{held_keeps, may_store, stored}

pub set_num-requires-clause-admitted : goal.set_num-requires-clause-admitted
set_num-requires-clause-admitted c = may_store c.args.caller.now.pass c.args.d c.args.n c.requires.owned

pub unreachable-requires : goal.unreachable-requires
unreachable-requires c =
    let refused = rw c.in-Fault.is at c.in-Err.ensures.refused in
    let done = (stored c.args.d c.requires.owned refused.0).done in cc

pub unreachable-requires-in-Null : goal.unreachable-requires-in-Null
unreachable-requires-in-Null c =
    let refused = rw c.in-Null.is at c.in-Err.ensures.refused in
    let done = (stored c.args.d c.requires.owned refused.0).done in cc

pub returns-in-Ok-clause-stored : goal.returns-in-Ok-clause-stored
returns-in-Ok-clause-stored c = (stored c.args.d c.requires.owned c.in-Ok.ensures.called).has

pub returns-in-Held-clause-still : goal.returns-in-Held-clause-still
returns-in-Held-clause-still c =
    held_keeps _ c.requires.owned (rw c.in-Held.is at c.in-Err.ensures.refused)
