use Rattle.mk_words.proofs.adding_up.what_sweeps_nothing_adds_up.Goals as goal
use Rattle.mk_words.proofs.Sweeping.{does_sweep}

pub returns-clause-kinds : goal.returns-clause-kinds
returns-clause-kinds c = does_sweep
