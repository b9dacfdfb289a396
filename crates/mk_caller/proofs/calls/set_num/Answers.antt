use Rattle.mk_words.proofs.Below.Laws.Vocabulary.{refl}
use Rattle.mk_caller.proofs.Chains.{call_ends, called, faults, go, go_on, go_probed, reached, sees_further, sees_more}
use Rattle.mk_caller.proofs.Chains.{writes}
use Rattle.mk_caller.proofs.calls.set_num.Goals as goal

pub returns-in_default-clause-refused : goal.returns-in_default-clause-refused
returns-in_default-clause-refused c =
    let d = c.in_default.ensures in
    faults c.requires.ready refl c.in_ok-u.ensures.begun refl refl d.refused d.unmapped

pub returns-clause-called : goal.returns-clause-called
returns-clause-called c =
    let written = go (go_probed c.in_ok-u.ensures.begun refl c.in-Some.ensures.moves) writes refl c.write.ensures.moves
    in
    called (go_on written call_ends refl refl c.mark_and_leave.ensures) refl

pub returns-clause-reached : goal.returns-clause-reached
returns-clause-reached c =
    reached c.requires.ready refl c.in_ok-u.ensures.begun refl c.in-Some.ensures.reached
    (sees_further (sees_more c.write.ensures.moves) c.mark_and_leave.ensures)
