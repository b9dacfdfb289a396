use Rattle.mk_alloc.proofs.Below.Laws.Vocabulary.{true, ◌≡◌}
use Rattle.mk_heap.proofs.marking.mark_until_wanted.Given as goal
use Rattle.mk_marker.specs.Markers.{attends}

abbrev pub invariant-cells : goal.invariant-cells
invariant-cells g l = record {
  attending : attends l.marker ≡ true;
  pass : l.marker ≡ record l.fn.marker { seen = l.marker.seen };
}
