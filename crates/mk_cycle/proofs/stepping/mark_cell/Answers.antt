use Rattle.mk_words.proofs.Below.Laws.Vocabulary.{arith}
use Rattle.mk_cycle.proofs.stepping.mark_cell.Goals as goal
use Rattle.mk_cycle.proofs.{StopSteps.{on_mark, reached_in_use, reached_within}, MaySteps.may_mark_cell}

pub bit-requires : goal.bit-requires
bit-requires c = (reached_within c.requires.reached).1

pub mark_in_use-requires-clause-in_use : goal.mark_in_use-requires-clause-in_use
mark_in_use-requires-clause-in_use c = reached_in_use c.args.stop.now c.requires.may.wanted c.requires.reached

pub mark_in_use-requires-clause-enabled : goal.mark_in_use-requires-clause-enabled
mark_in_use-requires-clause-enabled c = grind (arith, may_mark_cell, reached_within)

pub returns-clause-on : goal.returns-clause-on
returns-clause-on c =
    on_mark c.requires.may.wanted (rw c.bit.ensures at c.mark_in_use.ensures) c.requires.reached
