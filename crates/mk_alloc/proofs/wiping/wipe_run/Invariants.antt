use Rattle.mk_caller.proofs.Below.Laws.Vocabulary.{◌*◌}
use Rattle.mk_alloc.proofs.wiping.wipe_run.Given as goal
use Rattle.mk_alloc.proofs.ObjectVocabulary.{WipesTo}

abbrev pub invariant-loop-part : goal.invariant-loop-part
invariant-loop-part l = record { wiped : WipesTo l.fn.turn.pass l.run (64 * l.part) l.turn.pass }
