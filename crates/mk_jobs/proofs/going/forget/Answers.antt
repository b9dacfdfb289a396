use Rattle.mk_jobs.proofs.{Clearing.{clear_stays_admitted, none_cleared, one_cleared}, Walking.ready_on}
use Rattle.mk_heap.proofs.Below.Laws.Vocabulary.{arith, refl}
use Rattle.mk_jobs.proofs.going.forget.Goals as goal

pub loop-register-init : goal.loop-register-init
loop-register-init g c = record {
  ready = c.requires.ready;
  clears = none_cleared c.args.caller.now.pass;
  exact = λ before. before;
}

pub answer_beside-requires-clause-admitted : goal.answer_beside-requires-clause-admitted
answer_beside-requires-clause-admitted g c =
    let ready = c.loop-register.invariant.ready in
    clear_stays_admitted g.O.Object.plan c.loop-register.register
    (omega (arith, c.loop-register-test.true, c.registers-register-end.ensures, g.met.O.Object.typed.few)) ready.may
    ready.made

pub loop-register-preserved : goal.loop-register-preserved
loop-register-preserved g c =
    let before = c.loop-register.invariant in
    let answers = c.answer_beside.ensures.answers g.E.Engine.ways.on in
    record {
      ready = ready_on g.O.Object.plan c.args.engine.now before.ready c.answer_beside.ensures.home answers.is refl;
      clears =
          one_cleared c.loop-register.register
          (omega (arith, c.loop-register-test.true, c.registers-register-end.ensures, g.met.O.Object.typed.few))
          before.clears answers;
      exact = λ first. answers.exact (before.exact first);
    }
