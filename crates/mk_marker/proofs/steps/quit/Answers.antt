use Rattle.mk_marker.proofs.Moving.{moved}
use Rattle.mk_marker.proofs.steps.quit.Goals as goal

pub returns : goal.returns
returns c = moved c.quit.ensures.makes c.quit.ensures.out
