use Rattle.mk_cycle.proofs.CleaningSteps.{cleared}
use Rattle.mk_cycle.proofs.cleaning.clear_marks.Goals as goal

pub returns-then-marks-ne0-clause-cleans : goal.returns-then-marks-ne0-clause-cleans
returns-then-marks-ne0-clause-cleans c = cleared c.requires.turn c.clear.ensures
