use Rattle.mk_heap.proofs.Below.Laws.Vocabulary.{Flight, Op, Step, ap, refl}
use Rattle.mk_clients.proofs.calls.clear.Goals as goal
use Rattle.mk_clients.proofs.Admitting.{own_step}

pub reg_store-requires-clause-admitted : goal.reg_store-requires-clause-admitted
reg_store-requires-clause-admitted c =
    let entered = c.in_ok-enter.ensures.goes in
    own_step Step.Reg (Op.Clear c.args.d) c.requires.admitted
    entered.makes entered.makes.pass.history (ap (λ (f : Flight). f.op) entered.call) (λ a. refl)
