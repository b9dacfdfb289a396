use Rattle.mk_heap.proofs.Below.Laws.Vocabulary.{◌-◌}
use Rattle.mk_clients.proofs.stops.hold_all.Given as goal
use Rattle.mk_clients.proofs.TurnFacts.{HoldsSoFar}

abbrev pub invariant-loop-caller : goal.invariant-loop-caller
invariant-loop-caller l = HoldsSoFar l.words l.fn.turn.pass l.turn.pass l.caller

abbrev pub decreases-loop-caller : goal.decreases-loop-caller
decreases-loop-caller l = l.words.config.callers - l.caller
