use Rattle.mk_heap.proofs.Below.Laws.Vocabulary.{length, ◌<◌}
use Rattle.mk_trace.proofs.{Vocabulary.rules, CountedAges.set_there}
use Rattle.mk_trace.proofs.ledger.count_age.Goals as goal

pub returns-then-age-found : goal.returns-then-age-found
returns-then-age-found c =
    let inside : c.loop-place.place < length c.loop-place.ages.items = search rules in
    set_there c.args.ages.now.items c.loop-place.ages.items c.loop-place.place c.args.age c.index.result.now
    c.loop-place.invariant.same c.loop-place.invariant.rest inside c.index.ensures
    c.saturating_add.result c.if-age-found.true c.saturating_add.ensures
