use Rattle.mk_cycle.proofs.GivingSteps.{look_frees}
use Rattle.mk_cycle.proofs.counting.look.Goals as goal

pub returns-clause-frees : goal.returns-clause-frees
returns-clause-frees c = look_frees c.requires.turn.is_turn c.look_among.ensures.acts
