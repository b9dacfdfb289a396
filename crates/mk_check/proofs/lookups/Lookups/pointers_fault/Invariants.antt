use Rattle.mk_check.proofs.{Among.pointers_fault, Vocabulary.{around, drop, ◌≡◌}}
use Rattle.mk_check.proofs.lookups.Lookups.pointers_fault.Given as goal

abbrev pub invariant-loop-word : goal.invariant-loop-word
invariant-loop-word l = pointers_fault (around l.self) l.words
    ≡ pointers_fault (around l.self) (drop l.word-index l.words)
