use Rattle.mk_alloc.proofs.retirement.set_tally.Goals as goal
use Rattle.mk_alloc.proofs.{ObjectVocabulary.PassState, Looks.acting_now, MayAct.may_tally, SetGates.sets_tally}

pub tally-requires-clause-enabled : goal.tally-requires-clause-enabled
tally-requires-clause-enabled c =
    let p : PassState = c.args.turn.now.pass in
    may_tally (acting_now c.args.turn.now.in_order c.requires.acting) c.args.tally c.args.value

pub returns : goal.returns
returns c = sets_tally c.args.turn.now.in_order c.requires.acting c.tally.ensures
