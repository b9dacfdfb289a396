use Rattle.mk_sweep.proofs.Unswept.{unswept_stays_unmarked}
use Rattle.mk_sweep.proofs.laws.what_is_not_swept_stays_unmarked.Goals as goal

pub returns : goal.returns
returns c = unswept_stays_unmarked
