use Rattle.mk_core.proofs.Steps.{stands_if_ok}
use Rattle.mk_core.proofs.machine.Core.start.Goals as goal

pub returns-clause-stands : goal.returns-clause-stands
returns-clause-stands c = stands_if_ok c.in_ok-try_clone.field-0 c.of.result c.of.ensures
