use Rattle.mk_words.proofs.Below.Laws.Vocabulary.{first_word, slice_index, ◌+◌}
use Rattle.mk_cycle.proofs.scanning.are_before_heap.Given as goal
use Rattle.mk_cycle.proofs.RootMarks.{LooksAtMost}

abbrev pub invariant-loop-i : goal.invariant-loop-i
invariant-loop-i l =
    LooksAtMost l.fn.stop l.stop (λ w j. slice_index w.heap (first_word w l.gray.cell + (l.first + j))) l.all l.i
