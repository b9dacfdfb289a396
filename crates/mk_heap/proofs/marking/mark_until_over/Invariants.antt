use Rattle.mk_alloc.proofs.Below.Laws.Vocabulary.{false, ◌≡◌}
use Rattle.mk_heap.proofs.marking.mark_until_over.Given as goal
use Rattle.mk_marker.specs.Markers.{attends}

abbrev pub invariant-cycles : goal.invariant-cycles
invariant-cycles g l = record {
  out : attends l.marker ≡ false;
  pass : l.marker ≡ record l.fn.pass { seen = l.marker.seen };
}
