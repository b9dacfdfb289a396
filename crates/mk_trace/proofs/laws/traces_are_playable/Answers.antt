use Rattle.mk_trace.proofs.Playable.{is_playable}
use Rattle.mk_trace.proofs.laws.traces_are_playable.Goals as goal

pub returns : goal.returns
returns c = is_playable
