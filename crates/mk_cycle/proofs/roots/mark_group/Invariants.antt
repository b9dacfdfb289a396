use Rattle.mk_words.proofs.Below.Laws.Vocabulary.{Word, ◌+◌}
use Rattle.mk_cycle.proofs.roots.mark_group.Given as goal
use Rattle.mk_cycle.proofs.RootMarks.{RootsNoted}
use Rattle.mk_cycle.specs.Grays.{listed}

abbrev pub invariant-loop-i : goal.invariant-loop-i
invariant-loop-i l =
    RootsNoted l.table.pages l.fn.stop (listed l.fn.work) l.stop (listed l.work) (λ j. Word.Global (l.first + j)) l.i
