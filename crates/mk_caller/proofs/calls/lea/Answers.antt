use Rattle.mk_words.proofs.Below.Laws.Vocabulary.{refl}
use Rattle.mk_caller.proofs.Chains.{called, go, stores}
use Rattle.mk_caller.proofs.calls.lea.Goals as goal

pub returns-clause-called : goal.returns-clause-called
returns-clause-called c = called (go c.in_ok-u.ensures.begun (stores c.moved_on-value.result) refl
    c.store_and_leave.ensures) refl
