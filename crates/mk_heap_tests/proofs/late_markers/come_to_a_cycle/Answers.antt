use Rattle.mk_run.proofs.Below.Laws.Vocabulary.{arith, subst, sym}
use Rattle.mk_heap_tests.proofs.{Vocabulary.PassState, HeldObjects.may_at_first, LateMarkers.attends_not}
use Rattle.mk_run.specs.Below.Markers.Markers.{IsOut}
use Rattle.mk_heap_tests.proofs.late_markers.come_to_a_cycle.Goals as goal

pub finds_phase-requires : goal.finds_phase-requires
finds_phase-requires g c = record {
  out = attends_not c.new-marker.result
      (subst (λ (p : PassState). IsOut p) (sym c.new-marker.ensures) c.requires.marker.out);
}

pub make-made-requires-clause-may : goal.make-made-requires-clause-may
make-made-requires-clause-may g c κs within =
    may_at_first c.requires.caller c.new-caller.ensures (omega (arith, c.requires.one)) c.requires.ty
    c.requires.made_for
