use Rattle.mk_heap.proofs.HostsKept.{few_markers, home_host, home_is, home_view, is_home, marker_made_is_host}
use Rattle.mk_heap.proofs.HostsKept.{next_is_markers, next_is_out, still_host}
use Rattle.mk_heap.proofs.hosts.Host.marker.Goals as goal

pub split-pass-requires-clause-out : goal.split-pass-requires-clause-out
split-pass-requires-clause-out c =
    let view = home_view c.take_home-home.ensures c.self.view_is in
    next_is_out (home_is c.take_home-home.ensures c.self.invariant)
    (few_markers view c.heap.view_is c.requires.more c.is_within_limits.ensures)

pub new-requires-clause-marker : goal.new-requires-clause-marker
new-requires-clause-marker c =
    let view = home_view c.take_home-home.ensures c.self.view_is in
    rw c.split-pass.ensures.made (next_is_markers (home_host c.take_home-home.result c.self.inside.callers
    c.self.inside.markers) (few_markers view c.heap.view_is c.requires.more c.is_within_limits.ensures))

pub invariant_of-self : goal.invariant_of-self
invariant_of-self c =
    still_host c.split-pass.ensures.pass (marker_made_is_host (home_is c.take_home-home.ensures c.self.invariant))

pub take_home-home-requires : goal.take_home-home-requires
take_home-home-requires c = is_home _ _ _ c.self.invariant
