use Rattle.mk_check.proofs.Observed as observed
use Rattle.mk_check.proofs.laws.words_are_not_told.Goals as goal

pub returns : goal.returns
returns _ = observed.words_are_not_told
