use Rattle.mk_caller.proofs.Below.Laws.Vocabulary.{◌*◌, ◌+◌}
use Rattle.mk_alloc.proofs.wiping.wipe_words.Given as goal
use Rattle.mk_alloc.proofs.ObjectVocabulary.{WipesTo}

abbrev pub invariant-loop-i : goal.invariant-loop-i
invariant-loop-i l = record { wiped : WipesTo l.fn.turn.pass l.run (8 * l.group + l.i) l.turn.pass }
