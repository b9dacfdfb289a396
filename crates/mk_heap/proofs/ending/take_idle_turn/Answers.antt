use Rattle.mk_alloc.proofs.Below.Laws.Vocabulary.{arith, refl, ◌%◌, ◌∙◌, ◌≡◌}
use Rattle.mk_alloc.proofs.{Below.Words.Sweeping.{other_step_sweeps, step_then_sweeps}, SaidCloses.finish_says}
use Rattle.mk_core.proofs.PhaseTests.{in_word, not_in_word}
use Rattle.mk_heap.proofs.{BegunHosts.taken_then_sweeps, Overs.{HasLooked, finished, found_none, found_one, host_has}}
use Rattle.mk_heap.proofs.{Overs.{looked_idle, phase_found}, HomeCallers.taken_phase}
use Rattle.mk_heap.proofs.{ending.take_idle_turn.Goals.After-look-found, SaidHosts.{step_says_none, step_then_says}}
use Rattle.mk_heap.proofs.SaidHosts.{taken_then_says}
use Rattle.mk_heap.proofs.ending.take_idle_turn.Goals as goal

-- The host took the turn, and looked at the phase.
looked : (g : _) (c : After-look-found g)
    → HasLooked c.args.home c.take_turn-turn.result.pass c.look-found.result c.look-found.new.self.pass
looked g c =
    let t = c.take_turn-turn.ensures in
    record {
      host = c.requires.seat;
      before_over = c.requires.before_over;
      takes = t.takes;
      fresh = t.fresh;
      exact = t.exact;
      tidy = t.tidy;
      turn = c.take_turn-turn.result.in_order;
      finds = c.look-found.ensures.finds;
      acts = c.look-found.ensures.acts;
    }

pub returns-then-is_in-clause-takes : goal.returns-then-is_in-clause-takes
returns-then-is_in-clause-takes g c =
    found_one (looked g (goal.at.returns-then-is_in-clause-takes g c).After-look-found) c.finish_cycle.ensures.law
    (in_word c.look-found.result 1 c.is_in.result c.is_in.ensures c.if-is_in.true)

pub returns-then-is_in-clause-engine : goal.returns-then-is_in-clause-engine
returns-then-is_in-clause-engine g c callers none =
    let l = looked g (goal.at.returns-then-is_in-clause-engine g c).After-look-found in
    let zero : c.look-found.result % 8 ≡ 0 =
    phase_found l ∙ taken_phase l.takes (host_has l) callers l.turn.history ∙ none in
    absurd (omega (arith, in_word c.look-found.result 1 c.is_in.result c.is_in.ensures c.if-is_in.true))

pub returns-then-is_in-clause-idle : goal.returns-then-is_in-clause-idle
returns-then-is_in-clause-idle g c =
    finished (looked g (goal.at.returns-then-is_in-clause-idle g c).After-look-found) c.finish_cycle.ensures.law

pub returns-else-is_in-clause-takes : goal.returns-else-is_in-clause-takes
returns-else-is_in-clause-takes g c =
    found_none (looked g (goal.at.returns-else-is_in-clause-takes g c).After-look-found)
    (not_in_word c.look-found.result 1 c.is_in.result c.is_in.ensures c.if-is_in.false)

pub returns-else-is_in-clause-idle : goal.returns-else-is_in-clause-idle
returns-else-is_in-clause-idle g c =
    looked_idle (looked g (goal.at.returns-else-is_in-clause-idle g c).After-look-found)
    (not_in_word c.look-found.result 1 c.is_in.result c.is_in.ensures c.if-is_in.false)

pub returns-then-is_in-clause-reached : goal.returns-then-is_in-clause-reached
returns-then-is_in-clause-reached g c none =
    taken_then_sweeps c.take_turn-turn.ensures.takes (step_then_sweeps _
    c.look-found.new.self.pass _ _ c.look-found.ensures.acts.makes refl (c.finish_cycle.ensures.reached none))

pub returns-else-is_in-clause-reached : goal.returns-else-is_in-clause-reached
returns-else-is_in-clause-reached g c none =
    taken_then_sweeps c.take_turn-turn.ensures.takes
    (other_step_sweeps _ c.look-found.new.self.pass _ c.look-found.ensures.acts.makes refl)

pub returns-then-is_in-clause-said : goal.returns-then-is_in-clause-said
returns-then-is_in-clause-said g c =
    let tells = g.E.Engine.ways.tells in
    taken_then_says tells c.take_turn-turn.ensures.takes (step_then_says tells c.look-found.ensures.acts.makes refl
    (finish_says tells c.finish_cycle.new.engine c.look-found.new.self.in_order c.finish_cycle.ensures.law
    c.finish_cycle.result.0.in_order.history c.finish_cycle.ensures.told))

pub returns-else-is_in-clause-said : goal.returns-else-is_in-clause-said
returns-else-is_in-clause-said g c =
    let tells = g.E.Engine.ways.tells in
    taken_then_says tells c.take_turn-turn.ensures.takes
    (step_says_none tells c.look-found.ensures.acts.makes refl)
