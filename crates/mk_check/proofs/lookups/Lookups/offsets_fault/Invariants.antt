use Rattle.mk_check.proofs.{Among.offsets_fault, Vocabulary.{around, drop, ◌≡◌}}
use Rattle.mk_check.proofs.lookups.Lookups.offsets_fault.Given as goal

abbrev pub invariant-loop-word : goal.invariant-loop-word
invariant-loop-word l = offsets_fault (around l.self) l.words
    ≡ offsets_fault (around l.self) (drop l.word-index l.words)
