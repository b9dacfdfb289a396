use Rattle.mk_sweep.proofs.UnsweptReleased.{unswept_is_released}
use Rattle.mk_sweep.proofs.laws.what_is_not_swept_is_released.Goals as goal

pub returns : goal.returns
returns c = unswept_is_released
