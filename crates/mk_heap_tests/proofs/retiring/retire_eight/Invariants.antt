use Rattle.mk_heap_tests.proofs.Vocabulary.{IsPassOfObjects}
use Rattle.mk_heap_tests.proofs.retiring.retire_eight.Given as goal

abbrev pub invariant-loop-p : goal.invariant-loop-p
invariant-loop-p g l = record { pass : IsPassOfObjects l.words l.number l.pass }
