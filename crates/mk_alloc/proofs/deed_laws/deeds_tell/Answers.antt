use Rattle.mk_alloc.proofs.{DeedBounds.bounds_are_over_deeds, DeedFulls.deeds_say_why_full}
use Rattle.mk_alloc.proofs.deed_laws.deeds_tell.Goals as goal

pub returns-clause-bounds : goal.returns-clause-bounds
returns-clause-bounds c = bounds_are_over_deeds

pub returns-clause-fulls : goal.returns-clause-fulls
returns-clause-fulls c = deeds_say_why_full
