use Rattle.mk_run.proofs.Below.Laws.Vocabulary.{arith}
use Rattle.mk_run.proofs.Below.Heaps.ClientSteps.{may_clear}
use Rattle.mk_heap_tests.proofs.gates.clear.Goals as goal

pub clear-requires-clause-admitted : goal.clear-requires-clause-admitted
clear-requires-clause-admitted c = may_clear 0 c.requires.whole (omega arith)
