use Rattle.mk_heap_tests.specs.HeldObjects.{GoesOn}
use Rattle.mk_heap_tests.proofs.objects.free_eight.Given as goal

abbrev pub invariant-loop-p : goal.invariant-loop-p
invariant-loop-p g l = GoesOn (g.E.Engine.made_for l.engine) l.fn.caller l.caller
