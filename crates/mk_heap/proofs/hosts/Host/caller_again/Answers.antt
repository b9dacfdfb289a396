use Rattle.mk_alloc.proofs.Below.Laws.Vocabulary.{subst, sym, ◌<◌}
use Rattle.mk_heap.proofs.HostsKept.{caller_out_is_host, home_is, home_view, is_home, joined_is_idle, still_host}
use Rattle.mk_heap.specs.Hosts.{HostState}
use Rattle.mk_heap.proofs.hosts.Host.caller_again.Goals as goal

pub new-requires-clause-idle : goal.new-requires-clause-idle
new-requires-clause-idle c =
    let view = home_view c.take_home-home.ensures c.self.view_is in
    rw c.split-pass.ensures.made (joined_is_idle c.args.caller (home_is c.take_home-home.ensures c.self.invariant)
    (rw (← view) at c.requires.joined))

pub invariant_of-self : goal.invariant_of-self
invariant_of-self c =
    let view = home_view c.take_home-home.ensures c.self.view_is in
    still_host c.split-pass.ensures.pass
    (caller_out_is_host c.args.caller (subst (λ (g : HostState). c.args.caller < g.callers) (sym view) c.requires.made)
    (home_is c.take_home-home.ensures c.self.invariant))

pub take_home-home-requires : goal.take_home-home-requires
take_home-home-requires c = is_home _ _ _ c.self.invariant
