use Rattle.mk_trace.proofs.PeakBounds.{bounds_meet_peaks}
use Rattle.mk_trace.proofs.laws.peaks_bound_quarantine.Goals as goal

pub returns : goal.returns
returns c = bounds_meet_peaks
