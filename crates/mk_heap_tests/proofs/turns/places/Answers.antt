use Rattle.mk_run.proofs.Below.Laws.Vocabulary.{arith}
use Rattle.mk_heap_tests.proofs.JoinedHosts.{first_for}
use Rattle.mk_heap_tests.proofs.turns.places.Goals as goal

pub place_all-requires-clause-pass : goal.place_all-requires-clause-pass
place_all-requires-clause-pass g c = first_for c.in_ok-words.ensures.callers.first

pub place_all-requires-clause-exists : goal.place_all-requires-clause-exists
place_all-requires-clause-exists g c = omega (arith, c.in_ok-words.ensures.callers.two)
