use Rattle.mk_cycle.proofs.noting.mark_and_note.Goals as goal
use Rattle.mk_cycle.proofs.Notes.{last_goes, last_stays}

pub returns-in_default-clause-marks : goal.returns-in_default-clause-marks
returns-in_default-clause-marks c = last_stays c.mark_value.new.work c.args.last c.in_default.ensures.marks

pub returns-clause-marks : goal.returns-clause-marks
returns-clause-marks c =
    last_goes c.mark_value.new.work c.push.new.self c.args.last c.in-Some.noted c.in-Some.ensures.marks c.push.ensures
