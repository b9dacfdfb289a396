use Rattle.mk_words.proofs.run_steps.clear_headers.Given as goal
use Rattle.mk_words.specs.TurnSteps.{StoresHeads}

abbrev pub invariant-loop-distance : goal.invariant-loop-distance
invariant-loop-distance l = record { stores : StoresHeads l.initial.pass l.first l.distance (λ _. 0) l.pass }
