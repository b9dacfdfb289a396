use Rattle.mk_cycle.proofs.noting.mark_apart.Goals as goal
use Rattle.mk_cycle.proofs.Notes.{list_added, notes_then}

pub returns-clause-marks : goal.returns-clause-marks
returns-clause-marks c =
    let marks = c.mark_value-noted.ensures.marks in
    notes_then marks (list_added c.mark_value-noted.new.work _ c.extend.new.self marks.on.wanted c.extend.ensures)
