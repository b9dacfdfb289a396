use Rattle.mk_sweep.proofs.{Vocabulary.Steady, WholeCycles.releases_unswept}
use Rattle.mk_cycle.proofs.Below.Laws.Vocabulary.{ap}
use Rattle.mk_sweep.proofs.cycles.sweep_cycle.Goals as goal

pub returns-clause-cycle : goal.returns-clause-cycle
returns-clause-cycle g c = record {
  begun = c.begin_cycle.new.turn.pass;
  begins = c.begin_cycle.ensures.law;
  finishes = c.finish_cycle-turn.ensures.law;
  counted = c.finish_cycle-turn.ensures.released;
  closed = c.finish_cycle-turn.ensures.closed;
}

pub returns-clause-unswept : goal.returns-clause-unswept
returns-clause-unswept g c =
    let begin = c.begin_cycle in
    let finish = c.finish_cycle-turn in
    releases_unswept c.args.turn.pass begin.new.turn.pass finish.result.0.pass _ begin.ensures.law.pass
    begin.ensures.last (ap (λ (x : Steady). x.phase) begin.ensures.law.steady) finish.ensures.closed
    c.args.turn.in_order.own c.requires.markers finish.ensures.law.pass finish.result.0.in_order.history
