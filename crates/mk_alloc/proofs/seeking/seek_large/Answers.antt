use Rattle.mk_caller.proofs.Below.Laws.Vocabulary.{arith, histories_keep_lengths, length, ◌≡◌}
use Rattle.mk_alloc.proofs.seeking.seek_large.Goals as goal
use Rattle.mk_alloc.proofs.{ObjectVocabulary.{PassState, now_of}, FoundPlaces.resident_few}

pub overflow_add-resident : goal.overflow_add-resident
overflow_add-resident c =
    let p : PassState = c.args.turn.now.pass in
    let limits = rw c.requires.one_table at c.args.turn.now.in_order.history.within_limits in
    let many : length (now_of p).words.pages ≡ c.args.words.now.config.pages =
    cc ((histories_keep_lengths p.table.config p.seen).pages, c.requires.one_table) in
    omega (arith, c.resident.ensures, resident_few (now_of p).words.pages, many, limits.pages, c.requires.short)
