use Rattle.mk_words.proofs.OverPhases.{end_is_behind_over}
use Rattle.mk_words.proofs.laws.the_end_is_behind_an_over.Goals as goal

pub returns : goal.returns
returns c = end_is_behind_over
