use Rattle.mk_heap_tests.proofs.HeldObjects.{goes_on_then, goes_on_there}
use Rattle.mk_heap_tests.proofs.objects.free_eight.Goals as goal

pub loop-p-init : goal.loop-p-init
loop-p-init g c = goes_on_there c.requires.may

pub loop-p-preserved : goal.loop-p-preserved
loop-p-preserved g c = goes_on_then c.loop-p.invariant c.free.ensures
