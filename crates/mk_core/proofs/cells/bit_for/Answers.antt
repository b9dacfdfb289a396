use Rattle.mk_core.proofs.{Vocabulary.arith, WordBits.bit_for_past}
use Rattle.mk_core.proofs.cells.bit_for.Goals as goal

pub returns : goal.returns
returns c = grind (arith, bit_for_past)
