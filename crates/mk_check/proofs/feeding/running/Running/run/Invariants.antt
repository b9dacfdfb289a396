use Rattle.mk_check.proofs.Vocabulary.{PlaceFits, PlaceIsWithin, kept_in, left_in, length, stop_of, work_in, ◌≡◌}
use Rattle.mk_check.proofs.feeding.running.Running.run.Given as goal

abbrev pub invariant-loop : goal.invariant-loop
invariant-loop l = record {
  within : PlaceIsWithin (length l.tree) l.self;
  fits : PlaceFits l.tree l.self;
  run : stop_of (left_in l.tree l.self) (kept_in l.self)
      ≡ stop_of (left_in l.tree l.initial.self) (kept_in l.initial.self);
}

abbrev pub decreases-loop : goal.decreases-loop
decreases-loop l = work_in l.tree l.self
