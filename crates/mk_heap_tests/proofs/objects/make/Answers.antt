use Rattle.mk_heap_tests.proofs.HeldObjects.{made_on}
use Rattle.mk_heap_tests.proofs.objects.make.Goals as goal

pub returns : goal.returns
returns g c =
    let n = c.new_object in
    made_on n.new.caller c.requires.may n.ensures.made_for n.ensures.home g.E.Engine.ways.on c.args.d n.result
    c.requires.register n.ensures.made n.ensures.full
