use Rattle.mk_core.proofs.Lengths.{histories_keep_lengths}
use Rattle.mk_core.proofs.laws.words_have_indexes_of_their_own.Goals as goal

pub returns-clause-lengths : goal.returns-clause-lengths
returns-clause-lengths c = histories_keep_lengths
