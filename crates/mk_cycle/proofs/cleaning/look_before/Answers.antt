use Rattle.mk_cycle.proofs.CleaningSteps.{looked}
use Rattle.mk_cycle.proofs.cleaning.look_before.Goals as goal

pub returns-clause-cleans : goal.returns-clause-cleans
returns-clause-cleans c = looked c.requires.turn.is_turn c.look_among.ensures.acts
