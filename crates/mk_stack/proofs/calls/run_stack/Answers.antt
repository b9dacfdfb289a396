use Rattle.mk_stack.proofs.Fitting.{is_within_limits}
use Rattle.mk_stack.proofs.calls.run_stack.Goals as goal

pub run-requires-clause-limits : goal.run-requires-clause-limits
run-requires-clause-limits g c κs within =
    is_within_limits _ _ _ _ c.requires.pages c.requires.resident c.requires.callers c.requires.markers
