use Rattle.mk_words.proofs.Made.{stands_behind_others}
use Rattle.mk_words.proofs.laws.steps_stand_behind_others.Goals as goal

pub returns : goal.returns
returns c = stands_behind_others
