use Rattle.mk_alloc.proofs.quarantine.quarantine_is_bounded.Goals as goal
use Rattle.mk_alloc.proofs.Bounds.{quarantines_are_bounded}

pub returns : goal.returns
returns c = quarantines_are_bounded
