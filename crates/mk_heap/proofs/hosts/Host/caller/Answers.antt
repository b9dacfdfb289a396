use Rattle.mk_alloc.{proofs.Below.Laws.Vocabulary.{subst, sym, ◌<◌}, specs.Below.Words.States.{WordsState}}
use Rattle.mk_heap.proofs.HostsKept.{caller_made_is_host, home_is, home_view, is_home, next_is_idle, still_host}
use Rattle.mk_heap.proofs.hosts.Host.caller.Goals as goal

pub new-requires-clause-idle : goal.new-requires-clause-idle
new-requires-clause-idle c =
    let view = home_view c.take_home-home.ensures c.self.view_is in
    rw c.split-pass.ensures.made (next_is_idle (home_is c.take_home-home.ensures c.self.invariant)
    (rw (← view) at (subst
    (λ (w : WordsState). c.args.self.now.callers < w.config.callers) (sym c.requires.one_table) c.requires.more)))

pub invariant_of-self : goal.invariant_of-self
invariant_of-self c =
    still_host c.split-pass.ensures.pass (caller_made_is_host (home_is c.take_home-home.ensures c.self.invariant))

pub take_home-home-requires : goal.take_home-home-requires
take_home-home-requires c = is_home _ _ _ c.self.invariant
