use Rattle.mk_words.proofs.Below.Laws.Vocabulary.{arith, cases_lt}
use Rattle.mk_marker.proofs.Looking.{none_both, some_then}
use Rattle.mk_marker.proofs.cells.find_cell.Goals as goal

pub returns-in-None-clause-none : goal.returns-in-None-clause-none
returns-in-None-clause-none c = grind (arith, none_both, cases_lt)

pub returns-in-None-clause-some : goal.returns-in-None-clause-some
returns-in-None-clause-some c =
    let f = c.find_between-in-None in
    some_then f.result f.new.pass c.in-None.ensures.none f.ensures.some
