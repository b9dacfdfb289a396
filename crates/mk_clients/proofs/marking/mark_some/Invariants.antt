use Rattle.mk_heap.proofs.Below.Laws.Vocabulary.{true, ◌≡◌}
use Rattle.mk_heap.specs.Below.Markers.Markers.{attends}
use Rattle.mk_clients.proofs.marking.mark_some.Given as goal

abbrev pub invariant-cells : goal.invariant-cells
invariant-cells l = record {
  attends : attends l.marker ≡ true;
  pass : l.marker ≡ record l.initial.marker { seen = l.marker.seen };
}
