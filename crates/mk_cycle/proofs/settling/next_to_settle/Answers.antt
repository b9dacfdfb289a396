use Rattle.mk_words.proofs.Below.Laws.Vocabulary.{arith}
use Rattle.mk_cycle.proofs.PageByPage.{next_in_run, next_past}
use Rattle.mk_cycle.proofs.settling.next_to_settle.Goals as goal

pub returns-then-from-known : goal.returns-then-from-known
returns-then-from-known c = grind (arith, next_in_run)

pub returns : goal.returns
returns c = grind (arith, next_past)
