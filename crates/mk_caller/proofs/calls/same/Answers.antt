use Rattle.mk_words.proofs.Below.Laws.Vocabulary.{refl}
use Rattle.mk_caller.proofs.Chains.{call_ends, called, go, go_on, loads}
use Rattle.mk_caller.proofs.calls.same.Goals as goal

pub returns-clause-called : goal.returns-clause-called
returns-clause-called c =
    let one = go c.in_ok-enter.ensures.moves (loads c.load-one.result) refl c.load-one.ensures.moves in
    let other = go one (loads c.load-other.result) refl c.load-other.ensures.moves in
    called (go_on other call_ends refl refl c.leave.ensures.moves) refl
