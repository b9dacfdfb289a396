use Rattle.mk_words.proofs.Below.Laws.Vocabulary.{Word}
use Rattle.mk_cycle.proofs.roots_beside.mark_registers_of.Given as goal
use Rattle.mk_cycle.proofs.MarksBeside.{RootsLooked}

abbrev pub invariant-loop-register : goal.invariant-loop-register
invariant-loop-register l = RootsLooked l.fn.turn l.turn (Word.Reg l.fn.caller) l.register
