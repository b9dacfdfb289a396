use Rattle.mk_heap.proofs.Below.Laws.Vocabulary.{ap, ◌++◌, ◌∙◌}
use Rattle.mk_heap.proofs.Below.Objects.Vocabulary.{PassState, caller_of_pass, own_calls}
use Rattle.mk_clients.{proofs.OwnedCalls.{done_behind, entry_now}, specs.Owned.{store_then_load}}
use Rattle.mk_clients.proofs.numbers.number_in_new_object.Goals as goal

pub returns-in-Ok-store_and_load-clause-did : goal.returns-in-Ok-store_and_load-clause-did
returns-in-Ok-store_and_load-clause-did g c =
    let p : PassState = c.args.caller.now.pass in
    let b : PassState = c.make_number.new.caller.pass in
    let called = c.in-Ok.ensures.made in
    done_behind _ _ _ _ _ (entry_now p b called.more _ called.is called.entry) (c.in-Ok-store_and_load.ensures.did ∙ ap
    (λ k. own_calls b b.seen ++ store_then_load k c.args.d c.args.n) (ap (λ (r : PassState). caller_of_pass r)
    called.is))
