use Rattle.mk_clients.proofs.numbers.load.Goals as goal
use Rattle.mk_clients.proofs.OwnedCalls.{held_keeps, loaded, may_load}

pub get_num-requires-clause-admitted : goal.get_num-requires-clause-admitted
get_num-requires-clause-admitted c = may_load c.args.caller.now.pass c.args.d c.requires.owned

pub unreachable-requires : goal.unreachable-requires
unreachable-requires c =
    let refused = rw c.in-Fault.is at c.in-Err.ensures.refused in
    let tells = (loaded c.args.d c.requires.owned refused.0).tells in cc

pub unreachable-requires-in-Null : goal.unreachable-requires-in-Null
unreachable-requires-in-Null c =
    let refused = rw c.in-Null.is at c.in-Err.ensures.refused in
    let tells = (loaded c.args.d c.requires.owned refused.0).tells in cc

pub returns-in-Ok-clause-loaded : goal.returns-in-Ok-clause-loaded
returns-in-Ok-clause-loaded c =
    let tells = (loaded c.args.d c.requires.owned c.in-Ok.ensures.called).tells in cc

pub returns-in-Ok-clause-still : goal.returns-in-Ok-clause-still
returns-in-Ok-clause-still c = (loaded c.args.d c.requires.owned c.in-Ok.ensures.called).has

pub returns-in-Held-clause-still : goal.returns-in-Held-clause-still
returns-in-Held-clause-still c =
    held_keeps _ c.requires.owned (rw c.in-Held.is at c.in-Err.ensures.refused)
