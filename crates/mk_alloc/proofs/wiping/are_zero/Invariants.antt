use Rattle.mk_caller.proofs.Below.Laws.Vocabulary.{◌*◌, ◌+◌, ◌≡◌}
use Rattle.mk_alloc.proofs.wiping.are_zero.Given as goal
use Rattle.mk_alloc.proofs.ObjectVocabulary.{WipesTo}

abbrev pub invariant-loop-i : goal.invariant-loop-i
invariant-loop-i l = record {
  still : WipesTo l.fn.turn.pass l.run (8 * l.group) l.turn.pass;
  zero : l.all ≡ 0 → WipesTo l.fn.turn.pass l.run (8 * l.group + l.i) l.turn.pass;
}
