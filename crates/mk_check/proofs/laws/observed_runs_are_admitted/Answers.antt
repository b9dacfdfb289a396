use Rattle.mk_check.proofs.Observed.{none_is_left_over, observed_are_admitted}
use Rattle.mk_check.proofs.laws.observed_runs_are_admitted.Goals as goal

pub returns-clause-admitted : goal.returns-clause-admitted
returns-clause-admitted _ = observed_are_admitted

pub returns-clause-none_left : goal.returns-clause-none_left
returns-clause-none_left _ = none_is_left_over
