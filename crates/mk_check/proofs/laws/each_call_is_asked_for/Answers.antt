use Rattle.mk_check.proofs.ObservedSteps.{each_call_is_asked_for}
use Rattle.mk_check.proofs.laws.each_call_is_asked_for.Goals as goal

pub returns : goal.returns
returns _ = each_call_is_asked_for
