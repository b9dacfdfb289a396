use Rattle.mk_run.proofs.Below.Laws.Vocabulary.{arith}
use Rattle.mk_heap_tests.proofs.{JoinedHosts.callers_are_joined, LateMarkers.joined_one, LateMarkers.only_seat}
use Rattle.mk_heap_tests.proofs.late_markers.come_when_over.Goals as goal

pub over-requires-clause-joined : goal.over-requires-clause-joined
over-requires-clause-joined g c x2 within = grind (arith, callers_are_joined, joined_one, only_seat)
