use Rattle.mk_run.proofs.Below.Laws.Vocabulary.{Flight, ap, false, refl}
use Rattle.mk_run.proofs.Below.Objects.Going.{give_allowed}
use Rattle.mk_heap_tests.proofs.NewTurns.{may_make, passed_back, placed_table, seeks, taken_table, unplaced}
use Rattle.mk_heap_tests.proofs.turns.place.Goals as goal

pub take-turn-requires-clause-enabled : goal.take-turn-requires-clause-enabled
take-turn-requires-clause-enabled g c = may_make c.requires.pass c.requires.exists c.requires.ty

pub place_object-placed-requires-clause-one_table : goal.place_object-placed-requires-clause-one_table
place_object-placed-requires-clause-one_table g c = taken_table c.requires.pass c.take-turn.ensures

pub place_object-placed-requires-clause-requested : goal.place_object-placed-requires-clause-requested
place_object-placed-requires-clause-requested g c = record {
  full = false;
  op = ap (λ (f : Flight). f.op) c.take-turn.ensures.fresh.call;
}

pub place_object-placed-requires-clause-unplaced : goal.place_object-placed-requires-clause-unplaced
place_object-placed-requires-clause-unplaced g c = unplaced c.requires.pass c.requires.exists c.take-turn.ensures

pub give-requires-clause-one_table : goal.give-requires-clause-one_table
give-requires-clause-one_table g c =
    placed_table c.requires.pass c.requires.exists c.take-turn.ensures
    (c.place_object-placed.ensures.placed c.if-not-placed.false) c.place_object-placed.new.turn.in_order.history

pub give-requires-clause-enabled : goal.give-requires-clause-enabled
give-requires-clause-enabled g c =
    let s = seeks c.requires.pass c.requires.exists c.take-turn.ensures
    (c.place_object-placed.ensures.placed c.if-not-placed.false) c.place_object-placed.new.turn.in_order.history in
    give_allowed c.place_object-placed.new.turn.in_order s.on.quiet (s.on.decided refl)

pub give-requires-clause-tidy : goal.give-requires-clause-tidy
give-requires-clause-tidy g c =
    (seeks c.requires.pass c.requires.exists c.take-turn.ensures (c.place_object-placed.ensures.placed
    c.if-not-placed.false) c.place_object-placed.new.turn.in_order.history).on.quiet.tidy

pub returns : goal.returns
returns g c = record {
  pass = passed_back c.requires.pass c.requires.exists c.take-turn.ensures (c.place_object-placed.ensures.placed
      c.if-not-placed.false) c.place_object-placed.new.turn.in_order.history c.give.ensures.acts.makes
      c.give.ensures.rests;
}
