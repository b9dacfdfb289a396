use Rattle.mk_words.proofs.Below.Laws.Vocabulary.{Step, refl}
use Rattle.mk_caller.proofs.{Onward.moves, Onward.read_next, Stepping.may_access}
use Rattle.mk_caller.proofs.steps.read.Goals as goal

pub read-requires-clause-enabled : goal.read-requires-clause-enabled
read-requires-clause-enabled c = (may_access c.requires.underway _ Step.Read c.requires.stage refl c.requires.access).0

pub returns : goal.returns
returns c = record { moves = moves c.requires.underway c.read.ensures.goes (read_next _ _ _ c.requires.stage) }
