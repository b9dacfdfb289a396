use Rattle.mk_caller.proofs.After.{calls_leave_other_registers}
use Rattle.mk_caller.proofs.laws.calls_leave_other_registers.Goals as goal

pub returns : goal.returns
returns c = calls_leave_other_registers
