use Rattle.mk_cycle.proofs.Below.Laws.Vocabulary.{Word}
use Rattle.mk_sweep.proofs.RootSteps.{RootsSwept}
use Rattle.mk_sweep.proofs.roots.mark_registers_of.Given as goal

abbrev pub invariant-loop-register : goal.invariant-loop-register
invariant-loop-register l = RootsSwept l.words.config.pages l.fn.stop l.stop (Word.Reg l.caller) l.register
