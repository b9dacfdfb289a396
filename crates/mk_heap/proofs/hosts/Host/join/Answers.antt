use Rattle.mk_alloc.proofs.Below.Laws.Vocabulary.{ap, subst, sym, ◌∙◌}
use Rattle.mk_alloc.specs.Below.Words.{Sweeping.SweepsNothing, States.has_over}
use Rattle.mk_alloc.specs.Below.Words.States.{PassState}
use Rattle.mk_core.specs.History.{Grows}
use Rattle.mk_heap.proofs.{HostsKept.{home_host, home_is, home_view, is_home, joined_is_host}, BegunHosts.grown_sweeps}
use Rattle.mk_heap.{proofs.HomeCallers.{joined_overs}, specs.Hosts.{HostState, with_joined}}
use Rattle.mk_heap.proofs.hosts.Host.join.Goals as goal

pub invariant_of-self : goal.invariant_of-self
invariant_of-self c =
    let view = home_view c.take_home-home.ensures c.self.view_is in
    joined_is_host (home_is c.take_home-home.ensures c.self.invariant) c.is_in_order.ensures.own
    c.requires.done (c.requires.of_table ∙ sym (ap (λ (g : HostState). g.pass.table) view ∙ c.requires.one_table))
    c.join.ensures.pass c.join.ensures.in_order.history c.join.ensures.own c.join.ensures.came

pub returns : goal.returns
returns c =
    let p = c.take_home-home.result in
    let q = c.join.new.into in
    let view = home_view c.take_home-home.ensures c.self.view_is in
    let is = home_is c.take_home-home.ensures c.self.invariant in
    record {
      host = ap (λ (x : PassState). home_host x c.self.inside.callers c.self.inside.markers) c.join.ensures.pass
          ∙ ap (λ (h : HostState). with_joined h c.args.pass q.seen) view;
      history = c.join.ensures.in_order.history;
      own = subst (λ (h : HostState). Grows h.pass.seats h.pass.seen q.seen) view c.join.ensures.own;
      came = c.join.ensures.came;
      reached = subst (λ (h : HostState). SweepsNothing h.pass q) view
          (grown_sweeps p q c.is_in_order.ensures.own c.join.ensures.own);
      overs = joined_overs c.args.pass is c.is_in_order.ensures.own c.join.ensures.pass
          c.join.ensures.in_order.history c.join.ensures.own
          ∙ ap (λ (h : HostState). has_over h.pass.seen) view;
    }

pub take_home-home-requires : goal.take_home-home-requires
take_home-home-requires c = is_home _ _ _ c.self.invariant
