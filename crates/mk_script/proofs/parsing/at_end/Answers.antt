use Rattle.mk_script.proofs.{Vocabulary.arith, Ends.{ends_open, ends_well, ends_without}}
use Rattle.mk_script.proofs.parsing.at_end.Goals as goal

pub returns-then-has_open_block : goal.returns-then-has_open_block
returns-then-has_open_block c = grind (arith, ends_open)

pub returns-then-not-has_script : goal.returns-then-not-has_script
returns-then-not-has_script c = grind (arith, ends_without)

pub returns : goal.returns
returns c = grind (arith, ends_well)
