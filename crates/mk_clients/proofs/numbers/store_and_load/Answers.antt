use Rattle.mk_clients.proofs.numbers.store_and_load.Goals as goal
use Rattle.mk_clients.proofs.OwnedCalls.{both_done, loads_stored}

pub returns-clause-loaded : goal.returns-clause-loaded
returns-clause-loaded c = loads_stored c.load.result c.in_ok-store.ensures.stored c.load.ensures.loaded

pub returns-clause-did : goal.returns-clause-did
returns-clause-did c =
    both_done c.load.new.caller.pass c.load.result c.in_ok-store.ensures.called
    (loads_stored c.load.result c.in_ok-store.ensures.stored c.load.ensures.loaded) c.load.ensures.called
