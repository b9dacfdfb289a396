use Rattle.mk_heap_tests.proofs.Vocabulary.{IsPassFor}
use Rattle.mk_heap_tests.proofs.turns.place_all.Given as goal

abbrev pub invariant-loop-count : goal.invariant-loop-count
invariant-loop-count g l = IsPassFor l.words 0 l.pass
