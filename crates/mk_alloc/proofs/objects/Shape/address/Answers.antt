use Rattle.mk_caller.proofs.Below.Laws.Vocabulary.{arith}
use Rattle.mk_alloc.proofs.objects.Shape.address.Goals as goal

pub returns : goal.returns
returns c = grind arith
