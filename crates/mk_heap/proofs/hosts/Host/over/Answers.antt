use Rattle.mk_alloc.proofs.Below.Laws.Vocabulary.{refl, subst, sym}
use Rattle.mk_alloc.specs.Below.{Cycles.EngineLaw.IsAtPhase, Words.Sweeping.SweepsNothing}
use Rattle.mk_alloc.specs.{Below.Words.States.PassState, TurnCycles.EachIsSaid}
use Rattle.mk_heap.proofs.{HostsKept.{home_is, home_view, is_home}, MovedHosts.{idle_moves, moved_is_host, moves_more}}
use Rattle.mk_heap.proofs.Overs.{give_allowed, given_no_turn, over_keeps, over_may_give, tidy_kept}
use Rattle.mk_heap.proofs.{BegunHosts.{given_sweeps, idle_then_sweeps}, HomeCallers.callers_home}
use Rattle.mk_heap.proofs.SaidHosts.{idle_then_says, step_says_none, step_then_says}
use Rattle.mk_heap.specs.{Ending.{CallersAreJoined, SaysOver}, Hosts.HostState}
use Rattle.mk_heap.proofs.hosts.Host.over.Goals as goal

pub give-back-requires-clause-enabled : goal.give-back-requires-clause-enabled
give-back-requires-clause-enabled g c =
    let t = c.take_idle_turn-turn.result.in_order in
    let u = c.over.new.self.in_order in
    give_allowed u (over_may_give t c.take_idle_turn-turn.ensures.idle u c.over.ensures)

pub give-back-requires-clause-tidy : goal.give-back-requires-clause-tidy
give-back-requires-clause-tidy g c =
    let idle = c.take_idle_turn-turn.ensures.idle in
    tidy_kept (over_keeps _ _ c.take_idle_turn-turn.result.in_order idle c.over.new.self.in_order c.over.ensures)
    idle.tidy

pub invariant_of-self : goal.invariant_of-self
invariant_of-self g c =
    let said = moves_more _ _ _ _ (idle_moves _ _ c.take_idle_turn-turn.ensures.takes) c.over.ensures.makes in
    moved_is_host (home_is c.take_home-home.ensures c.self.invariant) (moves_more _ _ _ _ said
    c.give-back.ensures.acts.makes) c.give-back.ensures.acts.makes.pass.history (given_no_turn c.give-back.ensures.acts)

pub returns-clause-engine : goal.returns-clause-engine
returns-clause-engine g c none =
    let view = home_view c.take_home-home.ensures c.self.view_is in
    c.take_idle_turn-turn.ensures.engine (callers_home (home_is c.take_home-home.ensures c.self.invariant)
    (subst (λ (h : HostState). CallersAreJoined h) (sym view) c.requires.joined))
    (subst (λ (h : HostState). IsAtPhase h.pass 0) (sym view) none)

pub returns-clause-over : goal.returns-clause-over
returns-clause-over g c =
    let view = home_view c.take_home-home.ensures c.self.view_is in
    let r : PassState = c.give-back.result in
    subst (λ (h : HostState). SaysOver h.pass r) view (record {
      idle = c.take_idle_turn-turn.result.pass;
      said = c.over.new.self.pass;
      idles = c.take_idle_turn-turn.ensures.takes;
      says = c.over.ensures.makes;
      gives = c.give-back.ensures.acts.makes;
    })

pub returns-clause-reached : goal.returns-clause-reached
returns-clause-reached g c =
    let view = home_view c.take_home-home.ensures c.self.view_is in
    let r : PassState = c.give-back.result in
    λ none. subst (λ (h : HostState). SweepsNothing h.pass r) view
    (idle_then_sweeps c.take_idle_turn-turn.ensures.takes (c.take_idle_turn-turn.ensures.reached none)
    (given_sweeps c.over.ensures.makes c.give-back.ensures.acts.makes refl))

pub returns-clause-said : goal.returns-clause-said
returns-clause-said g c =
    let view = home_view c.take_home-home.ensures c.self.view_is in
    let tells = g.E.Engine.ways.tells in
    let r : PassState = c.give-back.result in
    subst (λ (h : HostState). EachIsSaid tells h.pass r) view
    (idle_then_says tells c.take_idle_turn-turn.ensures.takes c.take_idle_turn-turn.ensures.said
    (step_then_says tells c.over.ensures.makes refl (step_says_none tells c.give-back.ensures.acts.makes refl)))

pub take_home-home-requires : goal.take_home-home-requires
take_home-home-requires g c = is_home _ _ _ c.self.invariant
