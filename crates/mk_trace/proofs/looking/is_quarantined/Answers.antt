use Rattle.mk_heap.proofs.Below.Laws.Vocabulary.{arith}
use Rattle.mk_trace.proofs.FoundCells.{none_freed_there, quarantine_tells}
use Rattle.mk_trace.proofs.looking.is_quarantined.Goals as goal

pub returns-then-cell-pages-clause-finds : goal.returns-then-cell-pages-clause-finds
returns-then-cell-pages-clause-finds g c = grind (arith, quarantine_tells)

pub returns-else-cell-pages-clause-finds : goal.returns-else-cell-pages-clause-finds
returns-else-cell-pages-clause-finds g c = grind (arith, none_freed_there, c.requires.home.history)
