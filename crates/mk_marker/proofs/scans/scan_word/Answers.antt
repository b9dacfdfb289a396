use Rattle.mk_marker.proofs.Scanned.{goes_then, loads_once}
use Rattle.mk_marker.proofs.scans.scan_word.Goals as goal

pub returns-in-Some-clause-goes : goal.returns-in-Some-clause-goes
returns-in-Some-clause-goes c = goes_then (loads_once c.load-value.ensures) c.mark_target.ensures.goes
