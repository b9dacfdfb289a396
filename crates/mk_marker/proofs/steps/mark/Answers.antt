use Rattle.mk_marker.proofs.Moving.{moved}
use Rattle.mk_marker.proofs.steps.mark.Goals as goal

pub returns : goal.returns
returns c = moved c.marker_mark.ensures.makes c.marker_mark.ensures.marker
