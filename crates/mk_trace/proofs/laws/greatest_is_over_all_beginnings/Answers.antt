use Rattle.mk_trace.proofs.PeakParts.{is_greatest}
use Rattle.mk_trace.proofs.laws.greatest_is_over_all_beginnings.Goals as goal

pub returns : goal.returns
returns c = is_greatest
