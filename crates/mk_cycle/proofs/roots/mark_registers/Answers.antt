use Rattle.mk_words.proofs.Below.Laws.Vocabulary.{arith}
use Rattle.mk_cycle.proofs.roots.mark_registers.Goals as goal
use Rattle.mk_cycle.proofs.{Notes.{marks_nothing, notes_then}, RootMarks.registers_then}

pub loop-caller-init : goal.loop-caller-init
loop-caller-init c = record { marks = marks_nothing c.requires.may.wanted; well = λ k lt. absurd (omega arith) }

pub loop-caller-preserved : goal.loop-caller-preserved
loop-caller-preserved c =
    let before = c.loop-caller.invariant in
    let mark = c.mark_registers_of.ensures in
    record {
      marks = notes_then before.marks mark.marks;
      well = registers_then c.args.table.words.now.config c.args.stop.now.pass c.loop-caller.stop.pass
          c.mark_registers_of.new.stop.pass before.marks.more mark.marks.more before.well mark.well;
    }
