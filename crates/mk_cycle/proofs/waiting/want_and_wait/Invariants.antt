use Rattle.mk_cycle.specs.{EngineLaw.WantsFirst, Grays.WaitsForMarkers}
use Rattle.mk_cycle.proofs.waiting.want_and_wait.Given as goal

abbrev pub invariant-loop : goal.invariant-loop
invariant-loop g l = record {
  goes_on : (goal.iterator-loop g).can_next l.iterator' × (goal.iterator-loop g).is_finite l.iterator';
  waits : WaitsForMarkers l.fn.stop l.stop 1;
  wants : WantsFirst l.fn.stop.pass l.stop.pass;
}
