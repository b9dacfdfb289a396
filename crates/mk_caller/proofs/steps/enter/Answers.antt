use Rattle.mk_caller.proofs.{Enabling.enter_enabled, Entering.entered, Entering.held}
use Rattle.mk_caller.proofs.steps.enter.Goals as goal

pub enter-requires-clause-enabled : goal.enter-requires-clause-enabled
enter-requires-clause-enabled c = enter_enabled c.is_in_order.ensures.history c.requires.ready

pub returns-clause-moves : goal.returns-clause-moves
returns-clause-moves c =
    let e = c.enter in
    entered e.new.self e.result c.requires.ready e.ensures.goes

pub returns-clause-held : goal.returns-clause-held
returns-clause-held c =
    let e = c.enter in
    held e.new.self e.result c.requires.ready e.ensures.held e.ensures.stays
