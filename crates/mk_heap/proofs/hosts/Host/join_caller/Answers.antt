use Rattle.mk_heap.proofs.HostsKept.{idle_is_done}
use Rattle.mk_heap.proofs.hosts.Host.join_caller.Goals as goal

pub join-requires-clause-done : goal.join-requires-clause-done
join-requires-clause-done c = idle_is_done c.requires.alone c.requires.idle
