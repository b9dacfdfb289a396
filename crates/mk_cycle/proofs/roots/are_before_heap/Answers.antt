use Rattle.mk_words.proofs.Below.Laws.Vocabulary.{arith, ltb-true}
use Rattle.mk_cycle.proofs.roots.are_before_heap.Goals as goal
use Rattle.mk_cycle.proofs.RootMarks.{next_look, no_look_yet}

pub loop-i-init : goal.loop-i-init
loop-i-init c = no_look_yet c.requires.may.wanted

pub loop-i-preserved : goal.loop-i-preserved
loop-i-preserved c =
    let look = c.look_at_root-all.ensures in next_look c.loop-i.invariant look.looks look.found

pub returns-clause-before : goal.returns-clause-before
returns-clause-before c is i lt = grind (arith, ltb-true)
