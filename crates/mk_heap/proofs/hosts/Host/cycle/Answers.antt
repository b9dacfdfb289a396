use Rattle.mk_alloc.proofs.Below.Laws.Vocabulary.{arith, refl, subst, sym, ◌∙◌}
use Rattle.mk_alloc.proofs.Below.Words.Sweeping.{other_step_sweeps, sweeps_then}
use Rattle.mk_alloc.proofs.SaidCloses.{begin_says_none, finish_says, said_then}
use Rattle.mk_alloc.specs.{Below.Cycles.BeginCycle.EachIsBegun, Below.Cycles.EngineLaw.IsAtPhase}
use Rattle.mk_alloc.specs.{Below.Words.Sweeping.SweepsNothing, Below.Words.States.PassState}
use Rattle.mk_alloc.specs.TurnCycles.{EachIsFinished, EachIsSaid}
use Rattle.mk_heap.proofs.{HomeCallers.{hosts_seat, none_by_phase, step_overs}, MovedHosts.{MovesOn, begin_moves}}
use Rattle.mk_heap.proofs.MovedHosts.{finish_moves, idle_moves, moved_is_host, moves_more, taken_own}
use Rattle.mk_heap.proofs.Overs.{cycle_idle, give_allowed, given_no_turn, given_phase, idle_may_give}
use Rattle.mk_heap.proofs.{BegunHosts.{cycle_begun, idle_then_sweeps}, HostsKept.{home_is, home_view, is_home}}
use Rattle.mk_heap.proofs.{hosts.Host.cycle.Goals.After-finish_cycle-turn, FinishedHosts.cycle_finished}
use Rattle.mk_heap.{proofs.SaidHosts.{idle_then_says, step_says_none}, specs.{Ending.TakesIdleTurn, Hosts.HostState}}
use Rattle.mk_heap.proofs.hosts.Host.cycle.Goals as goal
use Rattle.std.specs.Prelude.{false}

pub give-back-requires-clause-enabled : goal.give-back-requires-clause-enabled
give-back-requires-clause-enabled g c =
    give_allowed c.finish_cycle-turn.result.0.in_order (idle_may_give
    (cycle_idle c.take_idle_turn-turn.ensures.idle c.begin_cycle.ensures.law c.finish_cycle-turn.ensures.law))

-- the host's pass as the cycle left it
ended : (g : _) (c : After-finish_cycle-turn g) → MovesOn c.take_home-home.result c.finish_cycle-turn.result.0.pass
ended g c =
    finish_moves _ _ _ (begin_moves _ _ _
    (idle_moves _ _ c.take_idle_turn-turn.ensures.takes) c.begin_cycle.ensures.law) c.finish_cycle-turn.ensures.law

pub invariant_of-self : goal.invariant_of-self
invariant_of-self g c =
    moved_is_host (home_is c.take_home-home.ensures c.self.invariant) (moves_more _ _ _ _
    (ended g (goal.at.invariant_of-self g c).After-finish_cycle-turn) c.give-back.ensures.acts.makes)
    c.give-back.ensures.acts.makes.pass.history (given_no_turn c.give-back.ensures.acts)

pub returns-clause-own : goal.returns-clause-own
returns-clause-own g c = grind (arith, hosts_seat, home_is, moves_more, ended, taken_own)

pub returns-clause-idle : goal.returns-clause-idle
returns-clause-idle g c = grind (arith, given_phase)

pub returns-clause-cycle : goal.returns-clause-cycle
returns-clause-cycle g c =
    let view = home_view c.take_home-home.ensures c.self.view_is in
    record {
      makes = record {
        idle = c.take_idle_turn-turn.result.pass;
        begun = c.begin_cycle.new.turn.pass;
        ended = c.finish_cycle-turn.result.0.pass;
        idles = subst (λ (h : HostState). TakesIdleTurn h.pass c.take_idle_turn-turn.result.pass) view
            c.take_idle_turn-turn.ensures.takes;
        begins = c.begin_cycle.ensures.law;
        finishes = c.finish_cycle-turn.ensures.law;
        gives = c.give-back.ensures.acts.makes;
      };
      at_close = c.finish_cycle-turn.ensures.told;
    }

pub returns-clause-overs : goal.returns-clause-overs
returns-clause-overs g c =
    let r : PassState = c.finish_cycle-turn.result.0.pass in
    let none : IsAtPhase r 0 = c.finish_cycle-turn.ensures.law.phase in
    step_overs c.give-back.ensures.acts.makes (hosts_seat (home_is c.take_home-home.ensures c.self.invariant)
    (taken_own c.take_idle_turn-turn.ensures.takes.takes)
    (ended g (goal.at.returns-clause-overs g c).After-finish_cycle-turn)) refl ∙ none_by_phase
    c.finish_cycle-turn.result.0.in_order.history
    (λ (five : IsAtPhase r 5). absurd (omega arith)) ∙ sym c.requires.before_over

pub returns-clause-reached : goal.returns-clause-reached
returns-clause-reached g c =
    let view = home_view c.take_home-home.ensures c.self.view_is in
    let p : PassState = c.take_idle_turn-turn.result.pass in
    let b : PassState = c.begin_cycle.new.turn.pass in
    let r : PassState = c.finish_cycle-turn.result.0.pass in
    let q : PassState = c.give-back.result in
    λ none. subst (λ (h : HostState). SweepsNothing h.pass q) view (idle_then_sweeps c.take_idle_turn-turn.ensures.takes
    (c.take_idle_turn-turn.ensures.reached none) (sweeps_then p b q c.begin_cycle.ensures.law.pass
    (c.begin_cycle.ensures.reached none) (sweeps_then b r q c.finish_cycle-turn.ensures.law.pass
    (c.finish_cycle-turn.ensures.reached none) (other_step_sweeps r q _ c.give-back.ensures.acts.makes refl))))

pub returns-clause-begun : goal.returns-clause-begun
returns-clause-begun g c =
    let view = home_view c.take_home-home.ensures c.self.view_is in
    let q : PassState = c.give-back.result in
    subst (λ (h : HostState). EachIsBegun false g.E.Engine.ways.begins h.pass q) view
    (cycle_begun g.E.Engine.ways.begins
    c.take_idle_turn-turn.ensures.takes c.begin_cycle.ensures.law c.begin_cycle.ensures.begun
    c.finish_cycle-turn.ensures.law c.give-back.ensures.acts.makes)

pub returns-clause-said : goal.returns-clause-said
returns-clause-said g c =
    let view = home_view c.take_home-home.ensures c.self.view_is in
    let tells = g.E.Engine.ways.tells in
    let begun = c.begin_cycle.ensures in
    let ended = c.finish_cycle-turn.ensures in
    let b : PassState = c.begin_cycle.new.turn.pass in
    let r : PassState = c.finish_cycle-turn.result.0.pass in
    let q : PassState = c.give-back.result in
    subst (λ (h : HostState). EachIsSaid tells h.pass q) view (idle_then_says tells
    c.take_idle_turn-turn.ensures.takes c.take_idle_turn-turn.ensures.said (said_then tells
    c.take_idle_turn-turn.result.pass b q begun.law.pass (begin_says_none tells begun.law) (said_then tells b r q
    ended.law.pass (finish_says tells c.finish_cycle-turn.new.engine c.begin_cycle.new.turn.in_order ended.law
    c.finish_cycle-turn.result.0.in_order.history ended.told)
    (step_says_none tells c.give-back.ensures.acts.makes refl))))

pub returns-clause-finished : goal.returns-clause-finished
returns-clause-finished g c =
    let view = home_view c.take_home-home.ensures c.self.view_is in
    let closes = g.E.Engine.ways.closes in
    let q : PassState = c.give-back.result in
    subst (λ (h : HostState). EachIsFinished closes h.pass q) view (cycle_finished closes
    c.finish_cycle-turn.new.engine c.take_idle_turn-turn.ensures.takes c.begin_cycle.ensures.law
    c.finish_cycle-turn.ensures.law c.finish_cycle-turn.ensures.closed c.give-back.ensures.acts.makes)

pub take_home-home-requires : goal.take_home-home-requires
take_home-home-requires g c = is_home _ _ _ c.self.invariant
