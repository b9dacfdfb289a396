use Rattle.mk_words.proofs.Below.Laws.Vocabulary.{refl}
use Rattle.mk_caller.proofs.Chains.{called, go, go_on, loads_global, stores}
use Rattle.mk_caller.proofs.calls.get_global.Goals as goal

pub returns-clause-called : goal.returns-clause-called
returns-clause-called c =
    let one = go c.in_ok-enter.ensures.moves (loads_global c.global_load-value.result) refl
    c.global_load-value.ensures.moves in
    record {
      word = c.global_load-value.result;
      called = called (go_on one (stores c.global_load-value.result) refl refl c.store_and_leave.ensures) refl;
    }
