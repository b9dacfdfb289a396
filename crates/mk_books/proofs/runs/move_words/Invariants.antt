use Rattle.mk_books.proofs.MovedPages.{below_word}
use Rattle.mk_books.proofs.runs.move_words.Given as goal
use Rattle.mk_books.specs.PageSets.{MovesPages}

abbrev pub invariant-loop-word : goal.invariant-loop-word
invariant-loop-word l =
    record { moves : MovesPages l.initial.sets l.sets (below_word l.from l.end l.word) l.free }
