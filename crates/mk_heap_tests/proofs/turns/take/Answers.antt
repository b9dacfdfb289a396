use Rattle.mk_heap_tests.proofs.turns.take.Goals as goal

pub returns : goal.returns
returns g c =
    let t = c.take_turn-turn in
    record {
      takes = t.ensures.takes;
      fresh = t.ensures.fresh;
      exact = t.ensures.exact;
      tidy = t.ensures.tidy;
      turn = t.result.in_order;
      before = c.is_in_order.ensures.before_over;
    }
