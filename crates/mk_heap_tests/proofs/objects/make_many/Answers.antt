use Rattle.mk_heap_tests.proofs.HeldObjects.{goes_on_then, goes_on_there}
use Rattle.mk_heap_tests.proofs.objects.make_many.Goals as goal

pub loop-index-init : goal.loop-index-init
loop-index-init g c = goes_on_there c.requires.may

pub loop-index-preserved : goal.loop-index-preserved
loop-index-preserved g c = goes_on_then c.loop-index.invariant c.make-all_fit.ensures
