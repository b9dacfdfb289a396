use Rattle.mk_run.proofs.ObservedRuns as observed
use Rattle.mk_run.proofs.laws.runs_can_be_observed.Goals as goal

pub returns-clause-of_histories : goal.returns-clause-of_histories
returns-clause-of_histories _ = observed.runs_can_be_observed

pub returns-clause-printed : goal.returns-clause-printed
returns-clause-printed _ = observed.printed_runs_can_be_observed
