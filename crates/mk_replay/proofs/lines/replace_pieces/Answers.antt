use Rattle.mk_laws.proofs.Vocabulary.{arith}
use Rattle.mk_replay.proofs.lines.replace_pieces.Goals as goal

pub overflow_add-rest : goal.overflow_add-rest
overflow_add-rest c = let within = c.loop-end.invariant.within in omega (arith, c.in-Some.ensures.inside)
