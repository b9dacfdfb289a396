use Rattle.mk_heap.proofs.ClientSteps.{may_clear}
use Rattle.mk_clients.proofs.hosts.clear.Goals as goal

pub clear-requires-clause-admitted : goal.clear-requires-clause-admitted
clear-requires-clause-admitted c = may_clear c.args.d c.requires.whole c.requires.register
