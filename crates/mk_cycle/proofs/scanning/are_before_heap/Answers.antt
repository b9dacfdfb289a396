use Rattle.mk_words.proofs.Below.Laws.Vocabulary.{arith, ltb-true}
use Rattle.mk_cycle.proofs.scanning.are_before_heap.Goals as goal
use Rattle.mk_cycle.proofs.{RootMarks.{next_look, no_look_yet}, ScannedWords.due_same}

pub loop-i-init : goal.loop-i-init
loop-i-init c = no_look_yet c.requires.may.wanted

pub look_at_word-all-requires-clause-due : goal.look_at_word-all-requires-clause-due
look_at_word-all-requires-clause-due c = due_same c.requires.due c.loop-i.invariant.looks.words

pub look_at_word-all-requires-clause-part : goal.look_at_word-all-requires-clause-part
look_at_word-all-requires-clause-part c = c.requires.part c.loop-i.i (omega arith)

pub loop-i-preserved : goal.loop-i-preserved
loop-i-preserved c =
    let look = c.look_at_word-all.ensures in next_look c.loop-i.invariant look.looks look.found

pub returns-clause-before : goal.returns-clause-before
returns-clause-before c is i lt = grind (arith, ltb-true)
