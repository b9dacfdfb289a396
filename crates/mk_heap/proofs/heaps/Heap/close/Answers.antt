use Rattle.mk_alloc.proofs.Below.Laws.Vocabulary.{ap, subst, sym, ◌∙◌}
use Rattle.mk_heap.proofs.Ended.{HasAllHome, ends_counted, ends_unmade, ends_whole, home}
use Rattle.mk_heap.proofs.{HostsKept.{home_host, home_is, home_view, is_home}, heaps.Heap.close.Goals.After-is_in_order}
use Rattle.mk_heap.specs.Hosts.{AllAreJoined, HostState, MarkersAreBelow}
use Rattle.mk_alloc.specs.Below.Words.States as final
use Rattle.mk_heap.proofs.heaps.Heap.close.Goals as goal

host : (c : After-is_in_order)
    → HasAllHome (home_host c.unwrap-home.result c.host.inside.callers c.host.inside.markers) c.self.inside.words
host c =
    let view = home_view c.unwrap-home.ensures c.host.view_is in
    record {
      is = home_is c.unwrap-home.ensures c.host.invariant;
      joined = subst (λ (g : HostState). AllAreJoined g) (sym view) c.requires.joined;
      own = c.is_in_order.ensures.own;
      table = ap (λ (g : HostState). g.pass.table) view ∙ c.requires.one_table ∙ sym c.self.view_is;
    }

pub close-last-requires-clause-home : goal.close-last-requires-clause-home
close-last-requires-clause-home c = home (host (goal.at.close-last-requires-clause-home c).After-is_in_order)

pub returns-clause-whole : goal.returns-clause-whole
returns-clause-whole c =
    let o = c.is_in_order.ensures in
    let e = c.close-last.ensures in
    ends_whole (host (goal.at.returns-clause-whole c).After-is_in_order) c.close-last.result o.history o.tidy e.history
    e.config

pub returns-clause-counts : goal.returns-clause-counts
returns-clause-counts c =
    let o = c.is_in_order.ensures in
    let e = c.close-last.ensures in
    ends_counted (host (goal.at.returns-clause-counts c).After-is_in_order) c.close-last.result o.history o.tidy
    e.history e.config e.tallies

pub unwrap-home-requires : goal.unwrap-home-requires
unwrap-home-requires c = is_home _ _ _ c.host.invariant

pub returns-clause-markers : goal.returns-clause-markers
returns-clause-markers c =
    let o = c.is_in_order.ensures in
    let e = c.close-last.ensures in
    subst (λ (g : HostState). MarkersAreBelow g.markers (final.history_of c.close-last.result))
    (home_view c.unwrap-home.ensures c.host.view_is) (ends_unmade
    (host (goal.at.returns-clause-markers c).After-is_in_order) c.close-last.result o.history o.tidy e.history e.config)
