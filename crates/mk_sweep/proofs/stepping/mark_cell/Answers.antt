use Rattle.mk_sweep.proofs.{Vocabulary.{IsEnabledTo, Step}, SweepSteps.{may_mark_reached, on_mark, reached_within}}
use Rattle.mk_cycle.proofs.{Below.Laws.Vocabulary.{subst, sym}, Stilled.mark_words}
use Rattle.mk_sweep.proofs.stepping.mark_cell.Goals as goal

pub bit-requires : goal.bit-requires
bit-requires c = (reached_within c.requires.reached).1

pub mark-requires-clause-enabled : goal.mark-requires-clause-enabled
mark-requires-clause-enabled c =
    subst (λ v. IsEnabledTo c.args.stop.now.pass (Step.Mark c.args.cell.page v)) (sym c.bit.ensures)
    (may_mark_reached c.args.stop.now c.requires.sweeping.wanted c.requires.reached)

pub returns-clause-on : goal.returns-clause-on
returns-clause-on c =
    on_mark c.requires.sweeping (rw c.bit.ensures at c.mark.ensures) c.requires.reached

pub returns-clause-words : goal.returns-clause-words
returns-clause-words c = mark_words c.requires.sweeping.wanted (rw c.bit.ensures at c.mark.ensures)
