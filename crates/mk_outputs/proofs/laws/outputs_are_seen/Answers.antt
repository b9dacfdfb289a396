use Rattle.mk_outputs.proofs.Seen as seen
use Rattle.mk_outputs.proofs.laws.outputs_are_seen.Goals as goal

pub returns : goal.returns
returns _ = seen.outputs_are_seen
