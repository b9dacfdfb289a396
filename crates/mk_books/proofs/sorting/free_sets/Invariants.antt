use Rattle.mk_books.proofs.sorting.free_sets.Given as goal
use Rattle.mk_books.proofs.{Vocabulary.AreSets, FreeSets.HaveFreeBelow}

abbrev pub invariant-loop-word : goal.invariant-loop-word
invariant-loop-word l = record { are_sets : AreSets l.sets.items; free : HaveFreeBelow l.sets.items l.word l.pages }
