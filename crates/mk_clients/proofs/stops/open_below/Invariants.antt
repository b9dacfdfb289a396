use Rattle.mk_clients.proofs.stops.open_below.Given as goal
use Rattle.mk_clients.proofs.TurnFacts.{HoldsSoFar}

abbrev pub invariant-loop-caller : goal.invariant-loop-caller
invariant-loop-caller l = HoldsSoFar l.words l.fn.turn.pass l.turn.pass l.caller

-- proposed from the loop's first test
abbrev pub decreases-loop-caller : goal.decreases-loop-caller
decreases-loop-caller l = l.caller
