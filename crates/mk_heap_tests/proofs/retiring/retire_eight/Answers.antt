use Rattle.mk_heap_tests.proofs.retiring.retire_eight.Goals as goal

pub retire-requires-clause-pass : goal.retire-requires-clause-pass
retire-requires-clause-pass g c κs within = c.loop-p.invariant.pass
