use Rattle.mk_caller.proofs.Accessing.{fault_ends}
use Rattle.mk_caller.proofs.accesses.probe_access.Goals as goal

pub returns-in-None-clause-refused : goal.returns-in-None-clause-refused
returns-in-None-clause-refused c = fault_ends c.in-None.ensures.refused c.refuse.ensures
