use Rattle.mk_core.specs.Below.Books.KnownPages.{run_word}
use Rattle.mk_words.proofs.run_steps.store_headers.Given as goal
use Rattle.mk_words.specs.TurnSteps.{StoresHeads}

abbrev pub invariant-loop-distance : goal.invariant-loop-distance
invariant-loop-distance l =
    record { stores : StoresHeads l.initial.pass l.first l.distance (run_word l.head l.next) l.pass }
