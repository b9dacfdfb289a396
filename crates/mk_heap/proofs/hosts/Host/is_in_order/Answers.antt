use Rattle.mk_alloc.proofs.Below.Laws.Vocabulary.{IsHistory, IsTidy, subst}
use Rattle.mk_heap.{proofs.HostsKept.home_is, proofs.HostsKept.home_view, specs.Hosts.HostState}
use Rattle.mk_heap.proofs.hosts.Host.is_in_order.Goals as goal

pub returns-clause-seat : goal.returns-clause-seat
returns-clause-seat c = cc (home_view c.in-Some.is c.self.view_is, (home_is c.in-Some.is c.self.invariant).seat)

pub returns-clause-history : goal.returns-clause-history
returns-clause-history c =
    subst (λ (g : HostState). IsHistory g.pass.table.config g.pass.seen) (home_view c.in-Some.is c.self.view_is)
    c.is_in_order.ensures.history

pub returns-clause-tidy : goal.returns-clause-tidy
returns-clause-tidy c =
    subst (λ (g : HostState). IsTidy g.pass.table.config g.pass.seen) (home_view c.in-Some.is c.self.view_is)
    c.is_in_order.ensures.tidy
