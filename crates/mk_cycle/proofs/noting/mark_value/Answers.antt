use Rattle.mk_words.proofs.{Below.Laws.Vocabulary.None, PointedCells.outside_none}
use Rattle.mk_cycle.proofs.noting.mark_value.Goals as goal
use Rattle.mk_cycle.proofs.{MoreMarks.well_none, Notes.last_added}
use Rattle.mk_cycle.specs.Stops.{still_words}

pub returns-in_default-clause-marks : goal.returns-in_default-clause-marks
returns-in_default-clause-marks c = last_added c.args.work.now None c.requires.may.wanted tt

pub returns-in_default-clause-well : goal.returns-in_default-clause-well
returns-in_default-clause-well c =
    well_none c.args.table.pages (still_words c.args.stop.now.pass) c.args.value
    (outside_none c.args.table.pages _ c.args.value c.in_default.ensures.outside)
