use Rattle.mk_words.proofs.adding_up.what_is_done_adds_up.Goals as goal
use Rattle.mk_words.proofs.Doing.{does_step}

pub returns-clause-step : goal.returns-clause-step
returns-clause-step c = does_step
