use Rattle.mk_sweep.proofs.Below.Laws.Vocabulary.{arith, ◌≡◌}
use Rattle.mk_why.proofs.Looks.{law_kept, looks_then, still_closed, sweepless_kept}
use Rattle.mk_why.proofs.{Counts.of_state, Pointed.apart, Telling.told_by, Telling.told_of}
use Rattle.mk_why.proofs.why.WhyEngine.close_marks.Goals as goal

pub close_marks-requires-clause-made_for : goal.close_marks-requires-clause-made_for
close_marks-requires-clause-made_for g c = grind (arith, of_state)

pub search-requires-clause-still : goal.search-requires-clause-still
search-requires-clause-still g c = still_closed c.close_marks.ensures.law c.requires.free

pub search-requires-clause-one_table : goal.search-requires-clause-one_table
search-requires-clause-one_table g c = grind arith

pub search-requires-clause-size : goal.search-requires-clause-size
search-requires-clause-size g c = grind (arith, of_state)

pub list_kept-requires-clause-one_table : goal.list_kept-requires-clause-one_table
list_kept-requires-clause-one_table g c = grind arith

pub returns-clause-law : goal.returns-clause-law
returns-clause-law g c =
    law_kept c.close_marks.ensures.law (looks_then c.search.ensures.on c.list_kept.ensures.looks)

pub returns-clause-reached : goal.returns-clause-reached
returns-clause-reached g c none =
    sweepless_kept c.close_marks.ensures.law
    (looks_then c.search.ensures.on c.list_kept.ensures.looks) (c.close_marks.ensures.reached none)

pub returns-clause-told : goal.returns-clause-told
returns-clause-told g c =
    let k = c.args.words.now in
    let t = c.close_marks.new.stop in
    let still = still_closed c.close_marks.ensures.law c.requires.free in
    let tables = told_by c.search.new.tables c.search.ensures.on c.search.ensures.explored (apart t still)
    c.forget_kept.ensures.found c.list_kept.ensures.on c.list_kept.ensures.each in
    let same : t.pass.table ≡ k = grind arith in
    told_of _ k (looks_then c.search.ensures.on c.list_kept.ensures.looks) c.close_marks.ensures.told same tables

pub returns-clause-closed : goal.returns-clause-closed
returns-clause-closed g c = grind (arith, looks_then)
