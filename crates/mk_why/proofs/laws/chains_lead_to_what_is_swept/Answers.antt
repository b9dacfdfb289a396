use Rattle.mk_why.proofs.SweptChains.{chains_are_swept}
use Rattle.mk_why.proofs.laws.chains_lead_to_what_is_swept.Goals as goal

pub returns : goal.returns
returns c = chains_are_swept
