use Rattle.mk_alloc.proofs.Below.Laws.Vocabulary.{Host, Seat, ap, refl, subst, ◌∙◌, ◌≡◌}
use Rattle.mk_alloc.specs.Below.Words.{Sweeping.SweepsNothing, States.{Has, has_over}}
use Rattle.mk_alloc.specs.Below.Words.States.{PassState}
use Rattle.mk_heap.proofs.{HomeCallers.{hosts_seat, step_overs, taken_overs}, MovedHosts.{moved_is_host, moves_more}}
use Rattle.mk_heap.proofs.{MovedHosts.{taken_own, turn_moves}, Overs.{give_allowed, given_no_turn, look_admitted}}
use Rattle.mk_heap.proofs.{Overs.{look_tidy, looked_may_give}, BegunHosts.{given_sweeps, taken_then_sweeps}}
use Rattle.mk_heap.proofs.{HostsKept.{home_is, home_view, is_home}, hosts.Host.tell.Goals.After-take_turn-turn}
use Rattle.mk_heap.specs.Hosts.{HostState}
use Rattle.mk_heap.proofs.hosts.Host.tell.Goals as goal

-- The turn is the host's.
host : (g : _) (c : After-take_turn-turn g) → c.take_turn-turn.result.pass.seat ≡ Host
host g c =
    ap (λ (x : PassState). x.seat) (turn_moves _ _ c.take_turn-turn.ensures.takes).is
    ∙ (home_is c.take_home-home.ensures c.self.invariant).seat

pub look-found-requires-clause-admitted : goal.look-found-requires-clause-admitted
look-found-requires-clause-admitted g c = λ decides. look_admitted c.take_turn-turn.result.pass c.args.x
    (host g (goal.at.look-found-requires-clause-admitted g c).After-take_turn-turn)
    c.take_turn-turn.result.in_order.history

pub give-back-requires-clause-enabled : goal.give-back-requires-clause-enabled
give-back-requires-clause-enabled g c =
    give_allowed c.look-found.new.self.in_order (looked_may_give
    (host g (goal.at.give-back-requires-clause-enabled g c).After-take_turn-turn) c.take_turn-turn.result.in_order
    c.take_turn-turn.ensures.fresh c.look-found.ensures.acts c.take_turn-turn.ensures.exact)

pub give-back-requires-clause-tidy : goal.give-back-requires-clause-tidy
give-back-requires-clause-tidy g c =
    look_tidy c.look-found.ensures.acts
    (host g (goal.at.give-back-requires-clause-tidy g c).After-take_turn-turn) c.take_turn-turn.ensures.tidy

pub invariant_of-self : goal.invariant_of-self
invariant_of-self g c =
    let looked = moves_more _ _ _ _ (turn_moves _ _ c.take_turn-turn.ensures.takes) c.look-found.ensures.acts.makes in
    moved_is_host (home_is c.take_home-home.ensures c.self.invariant) (moves_more _ _ _ _ looked
    c.give-back.ensures.acts.makes) c.give-back.ensures.acts.makes.pass.history (given_no_turn c.give-back.ensures.acts)

pub returns-clause-overs : goal.returns-clause-overs
returns-clause-overs g c =
    let is = home_is c.take_home-home.ensures c.self.invariant in
    let own = taken_own c.take_turn-turn.ensures.takes in
    let taken = turn_moves _ _ c.take_turn-turn.ensures.takes in
    let looked = moves_more _ _ _ _ taken c.look-found.ensures.acts.makes in
    step_overs c.give-back.ensures.acts.makes (hosts_seat is own looked) refl ∙ step_overs
    c.look-found.ensures.acts.makes (hosts_seat is own taken) refl ∙ taken_overs c.take_turn-turn.ensures.takes
    (subst (λ (x : Seat). Has c.take_home-home.result.seats x) is.seat own) c.take_turn-turn.result.in_order.history
    ∙ ap (λ (g : HostState). has_over g.pass.seen) (home_view c.take_home-home.ensures c.self.view_is)

pub returns-clause-reached : goal.returns-clause-reached
returns-clause-reached g c =
    let view = home_view c.take_home-home.ensures c.self.view_is in
    let r : PassState = c.give-back.result in
    subst (λ (h : HostState). SweepsNothing h.pass r) view (taken_then_sweeps
    c.take_turn-turn.ensures.takes (given_sweeps c.look-found.ensures.acts.makes c.give-back.ensures.acts.makes refl))

pub take_home-home-requires : goal.take_home-home-requires
take_home-home-requires g c = is_home _ _ _ c.self.invariant
