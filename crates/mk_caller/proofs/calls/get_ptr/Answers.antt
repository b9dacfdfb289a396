use Rattle.mk_words.proofs.Below.Laws.Vocabulary.{refl}
use Rattle.mk_caller.proofs.Chains.{called, faults, go, go_on, go_probed, reached, reads, sees_further, sees_more}
use Rattle.mk_caller.proofs.Chains.{stores}
use Rattle.mk_caller.proofs.calls.get_ptr.Goals as goal

pub returns-in_default-clause-refused : goal.returns-in_default-clause-refused
returns-in_default-clause-refused c =
    let d = c.in_default.ensures in
    faults c.requires.ready refl c.in_ok-u.ensures.begun refl refl d.refused d.unmapped

pub returns-clause-called : goal.returns-clause-called
returns-clause-called c =
    let read = go (go_probed c.in_ok-u.ensures.begun refl c.in-Some.ensures.moves) (reads c.read-value.result) refl
    c.read-value.ensures.moves in
    record {
      word = c.read-value.result;
      called = called (go_on read (stores c.read-value.result) refl refl c.store_and_leave.ensures) refl;
    }

pub returns-clause-reached : goal.returns-clause-reached
returns-clause-reached c =
    reached c.requires.ready refl c.in_ok-u.ensures.begun refl c.in-Some.ensures.reached
    (sees_further (sees_more c.read-value.ensures.moves) c.store_and_leave.ensures)
