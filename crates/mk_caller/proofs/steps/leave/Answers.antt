use Rattle.mk_caller.proofs.Onward.{leaves}
use Rattle.mk_caller.proofs.steps.leave.Goals as goal

pub returns : goal.returns
returns c = record { moves = leaves c.requires.underway c.leave.ensures.goes }
