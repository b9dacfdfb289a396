use Rattle.mk_heap_tests.proofs.turns.place_all.Goals as goal

pub place-requires-clause-pass : goal.place-requires-clause-pass
place-requires-clause-pass g c = c.loop-count.invariant
