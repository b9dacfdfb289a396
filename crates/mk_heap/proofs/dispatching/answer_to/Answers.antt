use Rattle.mk_alloc.proofs.Below.Laws.Vocabulary.{ap, refl, subst, sym, [], ◌<◌, ◌∙◌, ◌∷◌, ◌≡◌}
use Rattle.mk_alloc.specs.{Below.Callers.States.caller_of_pass, Below.Words.States.PassState}
use Rattle.mk_heap.proofs.Dispatched.{beside_keeps, put_off_keeps, put_off_then, put_off_waits, stays_admitted_after}
use Rattle.mk_heap.proofs.dispatching.answer_to.Goals as goal

pub answer_put_off-requires-clause-may : goal.answer_put_off-requires-clause-may
answer_put_off-requires-clause-may g c κs within =
    let none = put_off_waits c.in-None.ensures.put_off in
    record {
      home = c.answer_at_once.ensures.home;
      exists = subst (λ (q : PassState). caller_of_pass q < q.table.config.callers) (sym none.is) c.requires.may.exists;
      alone = subst (λ (q : PassState). q.seats ≡ q.seat ∷ []) (sym none.is) c.requires.may.alone;
      made_for = c.requires.may.made_for ∙ ap (λ (q : PassState). q.table.config.pages) (sym none.is);
    }

pub answer_put_off-requires-clause-admitted : goal.answer_put_off-requires-clause-admitted
answer_put_off-requires-clause-admitted g c κs within =
    stays_admitted_after c.args.op c.requires.admitted (put_off_waits c.in-None.ensures.put_off)

pub returns-in-Some : goal.returns-in-Some
returns-in-Some g c = record {
  home = c.answer_at_once.ensures.home;
  made_for = refl;
  answers = c.in-Some.ensures.answers g.E.Engine.ways.on;
  keeps = beside_keeps c.answer_at_once.ensures.beside;
}

pub returns-in-None : goal.returns-in-None
returns-in-None g c =
    let off = c.in-None.ensures.put_off in
    record {
      home = c.answer_put_off.ensures.home;
      made_for = c.answer_put_off.ensures.made_for;
      answers = put_off_then off c.answer_put_off.ensures.answers;
      keeps = put_off_keeps off c.answer_put_off.ensures.keeps;
    }
