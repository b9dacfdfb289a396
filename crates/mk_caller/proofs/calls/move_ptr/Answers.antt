use Rattle.mk_words.proofs.Below.Laws.Vocabulary.{refl}
use Rattle.mk_caller.proofs.Chains.{called, go, loads, stores}
use Rattle.mk_caller.proofs.calls.move_ptr.Goals as goal

pub returns-clause-called : goal.returns-clause-called
returns-clause-called c =
    let one = go c.in_ok-enter.ensures.moves (loads c.load-value.result) refl c.load-value.ensures.moves in
    called (go one (stores c.load-value.result) refl c.store_and_leave.ensures) refl
