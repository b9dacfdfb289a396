use Rattle.mk_words.proofs.Below.Laws.Vocabulary.{refl}
use Rattle.mk_caller.proofs.Chains.{call_ends, called, faults, go, go_on, loads, passes, reached, sees_further}
use Rattle.mk_caller.proofs.Chains.{sees_more, writes}
use Rattle.mk_caller.proofs.calls.set_ptr.Goals as goal

pub returns-in_default-clause-refused : goal.returns-in_default-clause-refused
returns-in_default-clause-refused c =
    let loaded_0 = go c.in_ok-u.ensures.begun (loads c.load-value.result) refl c.load-value.ensures.moves in
    let d = c.in_default.ensures in
    faults c.requires.ready refl loaded_0 refl refl d.refused d.unmapped

pub returns-clause-called : goal.returns-clause-called
returns-clause-called c =
    let loaded_0 = go c.in_ok-u.ensures.begun (loads c.load-value.result) refl c.load-value.ensures.moves in
    let probed = go loaded_0 passes refl c.in-Some.ensures.moves in
    let written = go probed writes refl c.write.ensures.moves in
    called (go_on written call_ends refl refl c.mark_and_leave.ensures) refl

pub returns-clause-reached : goal.returns-clause-reached
returns-clause-reached c =
    let loaded_0 = go c.in_ok-u.ensures.begun (loads c.load-value.result) refl c.load-value.ensures.moves in
    reached c.requires.ready refl loaded_0 refl c.in-Some.ensures.reached
    (sees_further (sees_more c.write.ensures.moves) c.mark_and_leave.ensures)
