use Rattle.mk_heap_tests.proofs.{HeldObjects.both_may, JoinedHosts.pass_after}
use Rattle.mk_heap_tests.proofs.objects.fill_a_page.Goals as goal

pub fill_and_free-answers-requires-clause-may : goal.fill_and_free-answers-requires-clause-may
fill_and_free-answers-requires-clause-may g c κs within =
    let two = c.requires.callers in
    both_may two.first two.second c.new-one.ensures c.new-other.ensures two.two two.ty c.requires.made_for

pub close-requires-clause-first : goal.close-requires-clause-first
close-requires-clause-first g c =
    pass_after c.requires.callers.first c.new-one.ensures c.fill_and_free-answers.ensures.first
    c.finish-first.ensures.pass c.finish-first.ensures.idle

pub close-requires-clause-second : goal.close-requires-clause-second
close-requires-clause-second g c =
    pass_after c.requires.callers.second c.new-other.ensures c.fill_and_free-answers.ensures.second
    c.finish-second.ensures.pass c.finish-second.ensures.idle
