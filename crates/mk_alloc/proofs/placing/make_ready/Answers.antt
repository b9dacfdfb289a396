use Rattle.mk_caller.proofs.Below.Laws.Vocabulary.{eqb-false, eqb-true, header_at, sym, ◌∙◌}
use Rattle.mk_caller.proofs.Below.Words.Sweeping.{nothing_sweeps}
use Rattle.mk_alloc.proofs.placing.make_ready.Goals as goal
use Rattle.mk_alloc.proofs.{ObjectVocabulary.{PassState, now_of}, Serves.{block_ready, knows_place}}

pub carve-requires-clause-free : goal.carve-requires-clause-free
carve-requires-clause-free c = eqb-true _ 0 (sym c.requires.free ∙ c.if-free.true)

pub returns-else-free-clause-ready : goal.returns-else-free-clause-ready
returns-else-free-clause-ready c =
    let p : PassState = c.args.turn.now.pass in
    let k = knows_place c.args.turn.now.in_order c.requires.goes.goes in
    block_ready k (eqb-false (header_at (now_of p).words c.args.place.page) 0 (sym c.requires.free ∙ c.if-free.false))

pub returns-else-free-clause-reached : goal.returns-else-free-clause-reached
returns-else-free-clause-reached c = nothing_sweeps c.args.turn.now.pass
