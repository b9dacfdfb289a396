use Rattle.mk_words.proofs.Below.Laws.Vocabulary.{refl}
use Rattle.mk_caller.proofs.Chains.{call_ends, called, faults, go, go_on, go_probed, reached, reads, sees_further}
use Rattle.mk_caller.proofs.Chains.{sees_more}
use Rattle.mk_caller.proofs.calls.get_num.Goals as goal

pub returns-in_default-clause-refused : goal.returns-in_default-clause-refused
returns-in_default-clause-refused c =
    let d = c.in_default.ensures in
    faults c.requires.ready refl c.in_ok-u.ensures.begun refl refl d.refused d.unmapped

pub returns-clause-called : goal.returns-clause-called
returns-clause-called c =
    let read = go (go_probed c.in_ok-u.ensures.begun refl c.in-Some.ensures.moves) (reads c.read-n.result) refl
    c.read-n.ensures.moves in
    called (go_on read call_ends refl refl c.leave.ensures.moves) refl

pub returns-clause-reached : goal.returns-clause-reached
returns-clause-reached c =
    reached c.requires.ready refl c.in_ok-u.ensures.begun refl c.in-Some.ensures.reached
    (sees_further (sees_more c.read-n.ensures.moves) c.leave.ensures.moves)
