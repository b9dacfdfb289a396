use Rattle.mk_heap_tests.proofs.HeldObjects.{freed_on}
use Rattle.mk_heap_tests.proofs.objects.free.Goals as goal

pub returns : goal.returns
returns g c =
    let f = c.free_object in
    freed_on f.new.caller c.requires.may f.ensures.made_for f.ensures.home g.E.Engine.ways.on c.args.p f.result
    f.ensures.freed f.ensures.double
