use Rattle.mk_check.proofs.Vocabulary.{PlaceFits, PlaceIsWithin, asks_first, kept_in, left_in, length, steps_at}
use Rattle.mk_check.proofs.Vocabulary.{stop_of, trees, true, work_in, ◌≡◌}
use Rattle.mk_check.proofs.feeding.running.Running.run_to_op.Given as goal

abbrev pub invariant-loop : goal.invariant-loop
invariant-loop l = record {
  within : PlaceIsWithin (length l.tree) l.self;
  fits : PlaceFits l.tree l.self;
  first : asks_first (steps_at (trees l.tree) l.self.at) ≡ true;
  run : stop_of (left_in l.tree l.self) (kept_in l.self)
      ≡ stop_of (left_in l.tree l.initial.self) (kept_in l.initial.self);
}

abbrev pub decreases-loop : goal.decreases-loop
decreases-loop l = work_in l.tree l.self
