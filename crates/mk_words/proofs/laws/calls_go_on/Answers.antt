use Rattle.mk_words.proofs.CallSteps.{goes}
use Rattle.mk_words.proofs.laws.calls_go_on.Goals as goal

pub returns : goal.returns
returns c p q s m k is = goes p s q m k is
