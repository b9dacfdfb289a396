use Rattle.mk_cycle.proofs.roots.mark_root.Goals as goal
use Rattle.mk_cycle.proofs.Notes.{looks_alone, notes_then}

pub returns-clause-marks : goal.returns-clause-marks
returns-clause-marks c = notes_then (looks_alone c.look_at_root-value.ensures.looks) c.mark_address.ensures.marks
