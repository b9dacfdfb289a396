use Rattle.mk_script.proofs.{Vocabulary.{sym, ◌∙◌}, FirstPlace.{cut, uncut}}
use Rattle.mk_script.proofs.operands.split_at_plus.Goals as goal

pub returns-in_err-plus : goal.returns-in_err-plus
returns-in_err-plus c =
    rw c.from_residual.ensures (uncut c.args.word.now (sym c.in_err-plus.was ∙ c.place_of_plus.ensures))

pub returns : goal.returns
returns c = cut c.args.word.now c.in_ok-plus.plus c.in_ok-plus.ensures
