use Rattle.mk_words.proofs.taking.taking_sweeps_nothing.Goals as goal
use Rattle.mk_words.proofs.Unswept.{taking_sweeps}

pub returns : goal.returns
returns c = taking_sweeps
