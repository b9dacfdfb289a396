use Rattle.mk_words.proofs.Below.Laws.Vocabulary.{refl}
use Rattle.mk_caller.proofs.Chains.{call_ends, called, go, go_on, loads}
use Rattle.mk_caller.proofs.calls.is_null.Goals as goal

pub returns-clause-called : goal.returns-clause-called
returns-clause-called c =
    let one = go c.in_ok-enter.ensures.moves (loads c.load-value.result) refl c.load-value.ensures.moves in
    called (go_on one call_ends refl refl c.leave.ensures.moves) refl
