use Rattle.mk_alloc.proofs.Vocabulary.{Has, PassState, own_before, subst}
use Rattle.mk_alloc.proofs.CalledTurns.{callers, take_allowed, taken_phase}
use Rattle.mk_alloc.proofs.turns.take.Goals as goal

pub take_turn-turn-requires-clause-enabled : goal.take_turn-turn-requires-clause-enabled
take_turn-turn-requires-clause-enabled g c =
    take_allowed c.args.op c.requires.idle c.requires.exists c.requires.under_turn c.requires.operands

pub returns-clause-begins : goal.returns-clause-begins
returns-clause-begins g c =
    let e = c.take_turn-turn.ensures in
    record {
      fresh = e.fresh;
      phase = taken_phase (callers c.requires.idle) c.requires.exists c.requires.alone
          (subst (λ (x : PassState). Has x.seats x.seat) e.takes.waits.is (own_before e.takes.takes.makes))
          e.takes e.fresh c.take_turn-turn.result.in_order.history c.is_in_order.ensures.before_over;
      exact = e.exact;
      tidy = e.tidy;
    }
