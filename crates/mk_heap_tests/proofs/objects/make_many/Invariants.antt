use Rattle.mk_heap_tests.specs.HeldObjects.{GoesOn}
use Rattle.mk_heap_tests.proofs.objects.make_many.Given as goal

abbrev pub invariant-loop-index : goal.invariant-loop-index
invariant-loop-index g l = GoesOn (g.E.Engine.made_for l.engine) l.fn.caller l.caller
