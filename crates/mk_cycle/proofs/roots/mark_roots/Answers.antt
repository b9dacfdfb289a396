use Rattle.mk_words.proofs.Below.Laws.Vocabulary.{arith, ◌≡◌}
use Rattle.mk_cycle.proofs.roots.mark_roots.Goals as goal
use Rattle.mk_cycle.proofs.{Notes.notes_then, RootMarks.all_roots_well}

pub returns-clause-marks : goal.returns-clause-marks
returns-clause-marks c = notes_then c.mark_registers.ensures.marks c.mark_globals.ensures.marks

pub returns-clause-roots : goal.returns-clause-roots
returns-clause-roots c =
    let registers = c.mark_registers.ensures in
    let globals = c.mark_globals.ensures in
    let sized : c.args.table.pages ≡ c.args.table.words.now.config.pages = grind arith in
    rw sized (all_roots_well c.args.stop.now c.mark_registers.new.stop.pass c.mark_globals.new.stop.pass
    {k = c.args.table.words.now} c.requires.may.one_table registers.marks.more globals.marks.more registers.well
    globals.well)
