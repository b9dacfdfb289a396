use Rattle.mk_cycle.proofs.stepping.look_at_root.Goals as goal
use Rattle.mk_cycle.proofs.{Stilled.root_hand, StopSteps.looks_root}

pub returns-clause-looks : goal.returns-clause-looks
returns-clause-looks c = looks_root c.requires.may.wanted c.look_among.ensures.acts c.requires.root

pub returns-clause-hand : goal.returns-clause-hand
returns-clause-hand c =
    let look = c.look_among.ensures in root_hand c.requires.may.wanted look.acts look.finds c.requires.root
