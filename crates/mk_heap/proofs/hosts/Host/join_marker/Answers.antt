use Rattle.mk_heap.proofs.HostsKept.{out_is_done}
use Rattle.mk_heap.proofs.hosts.Host.join_marker.Goals as goal

pub join-requires-clause-done : goal.join-requires-clause-done
join-requires-clause-done c =
    out_is_done c.is_in_order.ensures.history c.requires.alone c.requires.marker c.requires.out
