use Rattle.mk_cycle.proofs.Below.Laws.Vocabulary.{Word}
use Rattle.mk_sweep.proofs.RootSteps.{RootsSwept}
use Rattle.mk_sweep.proofs.roots.mark_globals.Given as goal

abbrev pub invariant-loop-global : goal.invariant-loop-global
invariant-loop-global l = RootsSwept l.words.config.pages l.fn.stop l.stop Word.Global l.global
