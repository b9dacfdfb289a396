use Rattle.mk_check.proofs.Observed as observed
use Rattle.mk_check.proofs.laws.answers_are_images.Goals as goal

pub returns : goal.returns
returns _ = observed.answers_are_images
