use Rattle.mk_heap_tests.proofs.{Vocabulary.BothMayAllocate, HeldObjects.{both_may, first_on, pass_of_objects}}
use Rattle.mk_heap_tests.proofs.retiring.fill_and_retire.Goals.{After-new-other}
use Rattle.mk_run.proofs.Below.Laws.Vocabulary.{arith}
use Rattle.mk_heap_tests.proofs.retiring.fill_and_retire.Goals as goal

may : (g : _) (c : After-new-other g)
    → BothMayAllocate (g.E.Engine.made_for c.args.engine.now) c.new-one.result c.new-other.result
may g c =
    let two = c.requires.callers in
    both_may two.first two.second c.new-one.ensures c.new-other.ensures two.two two.ty c.requires.made_for

pub make_many-of_first-requires-clause-may : goal.make_many-of_first-requires-clause-may
make_many-of_first-requires-clause-may g c κs within =
    (may g (goal.at.make_many-of_first-requires-clause-may g c).After-new-other).first

pub make_many-of_second-requires-clause-may : goal.make_many-of_second-requires-clause-may
make_many-of_second-requires-clause-may g c x2 within = grind (arith, first_on, may)

pub retire_nine-requires-clause-first : goal.retire_nine-requires-clause-first
retire_nine-requires-clause-first g c x2 within =
    let made = c.make_many-of_first.ensures in
    pass_of_objects c.requires.callers.first c.new-one.ensures made.same made.may.ready
    c.finish-first.ensures.pass c.finish-first.ensures.idle

pub retire_nine-requires-clause-second : goal.retire_nine-requires-clause-second
retire_nine-requires-clause-second g c x2 within =
    let made = c.make_many-of_second.ensures in
    pass_of_objects c.requires.callers.second c.new-other.ensures made.same made.may.ready
    c.finish-second.ensures.pass c.finish-second.ensures.idle
