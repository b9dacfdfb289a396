use Rattle.std.proofs.Common.{rules}
use Rattle.mk_alloc.proofs.Below.Laws.Vocabulary.{false, is_under_turn, refl, ◌≡◌}
use Rattle.mk_heap.proofs.Dispatched.{admitted_now, answered_free, answered_new, beside_keeps, type_exists}
use Rattle.mk_heap.proofs.dispatching.answer_put_off.Goals as goal

pub new_object-requires-clause-register : goal.new_object-requires-clause-register
new_object-requires-clause-register g c κs within =
    (rw c.in-New.is at (admitted_now c.args.caller.now c.requires.may.home c.requires.admitted)).in_range.0

pub new_object-requires-clause-ty : goal.new_object-requires-clause-ty
new_object-requires-clause-ty g c κs within =
    type_exists c.args.caller.now.pass c.in-New.is
    (admitted_now c.args.caller.now c.requires.may.home c.requires.admitted)

pub free_object-requires-clause-register : goal.free_object-requires-clause-register
free_object-requires-clause-register g c κs within =
    (rw c.in-Free.is at (admitted_now c.args.caller.now c.requires.may.home c.requires.admitted)).in_range

pub free_object-requires-clause-base : goal.free_object-requires-clause-base
free_object-requires-clause-base g c κs within =
    (rw c.in-Free.is at (admitted_now c.args.caller.now c.requires.may.home c.requires.admitted)).store

pub returns-in-Ok-clause-answers : goal.returns-in-Ok-clause-answers
returns-in-Ok-clause-answers g c = answered_new c.requires.may.alone c.in-New.is refl c.in-Ok.ensures.made

pub returns-in-Err-clause-answers : goal.returns-in-Err-clause-answers
returns-in-Err-clause-answers g c = answered_new c.requires.may.alone c.in-New.is refl c.in-Err.ensures.full.called

pub returns-in-Ok-free_object-clause-answers : goal.returns-in-Ok-free_object-clause-answers
returns-in-Ok-free_object-clause-answers g c =
    answered_free c.requires.may.alone c.in-Free.is refl c.in-Ok-free_object.ensures.freed.called

pub returns-in-Err-free_object-clause-answers : goal.returns-in-Err-free_object-clause-answers
returns-in-Err-free_object-clause-answers g c =
    answered_free c.requires.may.alone c.in-Free.is refl c.in-Err-free_object.ensures.double.called

pub returns-in_default : goal.returns-in_default
returns-in_default g c =
    let entered : is_under_turn c.args.op ≡ false = search rules in
    let answers = c.answer_when_open.ensures.answers g.E.Engine.ways.on in
    record {
      home = c.answer_when_open.ensures.home;
      made_for = refl;
      answers = answers;
      keeps = beside_keeps (answers.beside entered);
    }
