use Rattle.mk_words.proofs.Below.Laws.Vocabulary.{Word}
use Rattle.mk_cycle.proofs.roots.mark_registers_of.Given as goal
use Rattle.mk_cycle.proofs.RootMarks.{RootsNoted}
use Rattle.mk_cycle.specs.Grays.{listed}

abbrev pub invariant-loop-register : goal.invariant-loop-register
invariant-loop-register l =
    RootsNoted l.table.pages l.fn.stop (listed l.fn.work) l.stop (listed l.work) (Word.Reg l.caller) l.register
