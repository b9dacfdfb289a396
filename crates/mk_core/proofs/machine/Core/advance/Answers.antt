use Rattle.mk_core.proofs.{Vocabulary.arith, Conditions.enabled_meets}
use Rattle.mk_core.proofs.machine.Core.advance.Goals as goal

pub word_reached-name-requires : goal.word_reached-name-requires
word_reached-name-requires c = grind (arith, enabled_meets)
