use Rattle.mk_words.proofs.Below.Laws.Vocabulary.{refl}
use Rattle.mk_caller.proofs.Chains.{call_ends, called, exchanges, faults, go, go_on, loads, passes, reached}
use Rattle.mk_caller.proofs.Chains.{sees_further, sees_more}
use Rattle.mk_caller.proofs.Comparing.{compares_values}
use Rattle.mk_caller.proofs.calls.cas_ptr.Goals as goal

pub returns-in_default-clause-refused : goal.returns-in_default-clause-refused
returns-in_default-clause-refused c =
    let loaded_0 = go c.in_ok-u.ensures.begun (loads c.load-expected.result) refl c.load-expected.ensures.moves in
    let loaded_1 = go loaded_0 (loads c.load-new.result) refl c.load-new.ensures.moves in
    let d = c.in_default.ensures in
    faults c.requires.ready refl loaded_1 refl refl d.refused d.unmapped

pub returns-clause-called : goal.returns-clause-called
returns-clause-called c =
    let loaded_0 = go c.in_ok-u.ensures.begun (loads c.load-expected.result) refl c.load-expected.ensures.moves in
    let loaded_1 = go loaded_0 (loads c.load-new.result) refl c.load-new.ensures.moves in
    let probed = go loaded_1 passes refl c.in-Some.ensures.moves in
    let exchanged = go probed (exchanges c.cas-exchanged.result) refl c.cas-exchanged.ensures.moves in
    called (go_on exchanged call_ends refl refl c.mark_and_leave.ensures) refl

pub returns-clause-reached : goal.returns-clause-reached
returns-clause-reached c =
    let loaded_0 = go c.in_ok-u.ensures.begun (loads c.load-expected.result) refl c.load-expected.ensures.moves in
    let loaded_1 = go loaded_0 (loads c.load-new.result) refl c.load-new.ensures.moves in
    reached c.requires.ready refl loaded_1 refl c.in-Some.ensures.reached
    (sees_further (sees_more c.cas-exchanged.ensures.moves) c.mark_and_leave.ensures)

pub returns-clause-compares : goal.returns-clause-compares
returns-clause-compares c =
    compares_values c.args.q c.args.i c.args.p c.args.r c.cas-exchanged.result c.requires.ready.admits
    (returns-clause-called c)
