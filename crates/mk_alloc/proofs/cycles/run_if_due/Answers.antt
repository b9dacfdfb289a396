use Rattle.mk_alloc.proofs.UnsweptTurns.{still_yet}
use Rattle.mk_alloc.proofs.cycles.run_if_due.Goals as goal

pub returns-else-due-clause-keeps : goal.returns-else-due-clause-keeps
returns-else-due-clause-keeps g c = still_yet
