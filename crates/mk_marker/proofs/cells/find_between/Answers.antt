use Rattle.mk_words.proofs.Below.Laws.Vocabulary.{arith, cases_lt}
use Rattle.mk_marker.proofs.Looking.{looked_at_none, looked_on, sees_then}
use Rattle.mk_marker.proofs.cells.find_between.Goals as goal

pub pages-init : goal.pages-init
pages-init c = looked_at_none c.args.pass.now c.args.first c.requires.between

pub returns-in-Some-clause-some : goal.returns-in-Some-clause-some
returns-in-Some-clause-some c = sees_then c.pages.invariant c.in-Some.ensures.some

pub pages-preserved : goal.pages-preserved
pages-preserved c = grind (arith, looked_on, cases_lt)
