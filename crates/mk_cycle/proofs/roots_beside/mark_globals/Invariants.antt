use Rattle.mk_words.proofs.Below.Laws.Vocabulary.{Word}
use Rattle.mk_cycle.proofs.roots_beside.mark_globals.Given as goal
use Rattle.mk_cycle.proofs.MarksBeside.{RootsLooked}

abbrev pub invariant-loop-global : goal.invariant-loop-global
invariant-loop-global l = RootsLooked l.fn.turn l.turn Word.Global l.global
