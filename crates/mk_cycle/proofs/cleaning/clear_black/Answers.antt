use Rattle.mk_cycle.proofs.CleaningSteps.{unblacked}
use Rattle.mk_cycle.proofs.cleaning.clear_black.Goals as goal

pub returns-then-blacks-ne0-clause-cleans : goal.returns-then-blacks-ne0-clause-cleans
returns-then-blacks-ne0-clause-cleans c = unblacked c.requires.turn c.unblack.ensures
