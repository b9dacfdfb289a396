use Rattle.mk_words.proofs.Below.Laws.Vocabulary.{arith}
use Rattle.mk_cycle.proofs.roots.mark_globals.Goals as goal
use Rattle.mk_cycle.proofs.{Notes.{marks_nothing, notes_then}, RootMarks.groups_then}

pub loop-group-init : goal.loop-group-init
loop-group-init c = record { marks = marks_nothing c.requires.may.wanted; well = λ g lt. absurd (omega arith) }

pub loop-group-preserved : goal.loop-group-preserved
loop-group-preserved c =
    let before = c.loop-group.invariant in
    let mark = c.mark_group.ensures in
    record {
      marks = notes_then before.marks mark.marks;
      well = groups_then _ c.loop-group.group before.marks.more mark.marks.more before.well mark.well;
    }

pub returns-clause-well : goal.returns-clause-well
returns-clause-well c g lt = c.loop-group.invariant.well g (let end = c.loop-group-test.false in omega arith)
