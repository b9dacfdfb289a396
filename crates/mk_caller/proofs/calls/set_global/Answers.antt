use Rattle.mk_words.proofs.Below.Laws.Vocabulary.{refl}
use Rattle.mk_caller.proofs.Chains.{call_ends, called, go, go_on, loads, writes}
use Rattle.mk_caller.proofs.calls.set_global.Goals as goal

pub returns-clause-called : goal.returns-clause-called
returns-clause-called c =
    let one = go c.in_ok-enter.ensures.moves (loads c.load-value.result) refl c.load-value.ensures.moves in
    let two = go one writes refl c.global_store.ensures.moves in
    called (go_on two call_ends refl refl c.leave.ensures.moves) refl
