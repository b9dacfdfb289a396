use Rattle.mk_alloc.proofs.{Vocabulary.{Misfits, ap, cycle_ended, ◌∙◌, Holding}, OneCycles.{begin_then_ends, ends_none}}
use Rattle.mk_alloc.proofs.{SeekingTurns.{misfits_begun, still_needs, tried_then}, UnsweptTurns.left_keeps}
use Rattle.mk_alloc.proofs.{FinishedCycles.{begun_and_finished, never_by_none}, SaidCloses.begin_says_none}
use Rattle.mk_alloc.proofs.rooms.place_behind_cycle.Goals.{After-begin_cycle}
use Rattle.mk_alloc.proofs.rooms.place_behind_cycle.Goals as goal

-- the cycle that begins
begun : (g : _) (c : After-begin_cycle g) → Misfits c.args.turn.pass c.begin_cycle.new.turn.pass
begun g c =
    misfits_begun c.requires.needs.seeks c.requires.needs.nowhere c.begin_cycle.ensures.law
    c.begin_cycle.new.turn.in_order

pub finish_and_place-requires-clause-needs : goal.finish_and_place-requires-clause-needs
finish_and_place-requires-clause-needs g c κs within =
    still_needs c.requires.needs c.begin_cycle.ensures.made_for
    (begun g (goal.at.finish_and_place-requires-clause-needs g c).After-begin_cycle)

pub returns-clause-tried : goal.returns-clause-tried
returns-clause-tried g c =
    tried_then (begun g (goal.at.returns-clause-tried g c).After-begin_cycle).seeks c.finish_and_place.ensures.tried

pub returns-clause-ended : goal.returns-clause-ended
returns-clause-ended g c none =
    c.finish_and_place.ensures.cycle none ∙ ap (λ (x : Holding). cycle_ended x.cycle) c.begin_cycle.ensures.law.done

pub returns-clause-one : goal.returns-clause-one
returns-clause-one g c =
    begin_then_ends c.args.turn.in_order c.begin_cycle.ensures.law c.begin_cycle.new.turn.in_order.history
    c.finish_and_place.ensures.ends

pub returns-clause-keeps : goal.returns-clause-keeps
returns-clause-keeps g c =
    let begins = c.begin_cycle.ensures in
    let ends = c.finish_and_place.ensures in
    left_keeps begins.law.pass begins.reached begins.begun (begin_says_none g.E.Engine.ways.tells begins.law) ends.keeps
    ends.holds (λ off. begun_and_finished g.E.Engine.ways.closes c.finish_and_place.new.engine c.args.turn.in_order.own
    begins.law ends.closed (never_by_none (ends_none ends.ends)))
