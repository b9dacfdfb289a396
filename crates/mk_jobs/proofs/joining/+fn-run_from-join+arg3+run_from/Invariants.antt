use Rattle.mk_heap.proofs.Below.Laws.Vocabulary.{length}
use Rattle.mk_jobs.proofs.joining.+fn-run_from-join+arg3+run_from.Given as goal

abbrev pub decreases-join+arg3 : goal.decreases-join+arg3
decreases-join+arg3 g l = length l.next.engines.others.items

abbrev pub decreases-run_from : goal.decreases-run_from
decreases-run_from g l = length l.callers.engines.others.items
