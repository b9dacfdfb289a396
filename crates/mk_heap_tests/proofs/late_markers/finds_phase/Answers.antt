use Rattle.mk_heap_tests.proofs.LateMarkers.{attends_not}
use Rattle.mk_heap_tests.proofs.late_markers.finds_phase.Goals as goal

pub returns-in-Err-clause-out : goal.returns-in-Err-clause-out
returns-in-Err-clause-out c same = attends_not c.attend.new.self c.in-Err.ensures.not_marking.out
