use Rattle.mk_run.proofs.Below.Laws.Vocabulary.{arith}
use Rattle.mk_heap_tests.proofs.HeldObjects.{both_then, first_on, goes_on_then, second_on}
use Rattle.mk_heap_tests.proofs.objects.fill_and_free.Goals as goal

pub make_many-of_second-requires-clause-may : goal.make_many-of_second-requires-clause-may
make_many-of_second-requires-clause-may g c κs within =
    (first_on c.requires.may c.make_many-of_first.ensures).may.second

pub make-one_more_fits-requires-clause-may : goal.make-one_more_fits-requires-clause-may
make-one_more_fits-requires-clause-may g c x2 within = grind (arith, first_on, second_on)

pub free-ninth-requires-clause-may : goal.free-ninth-requires-clause-may
free-ninth-requires-clause-may g c x2 within = grind (arith, first_on, second_on, goes_on_then)

pub returns : goal.returns
returns g c =
    let one = first_on c.requires.may c.make_many-of_first.ensures in
    let two = both_then one (second_on one.may c.make_many-of_second.ensures) in
    let three = both_then two
    (first_on two.may (goes_on_then c.make-one_more_fits.ensures c.free_eight-eight_undue.ensures)) in
    both_then three (second_on three.may (goes_on_then c.free-ninth.ensures c.free-again.ensures))
