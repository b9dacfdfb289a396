use Rattle.mk_words.proofs.Below.Laws.Vocabulary.{sym, ◌∙◌}
use Rattle.mk_cycle.proofs.CleaningSteps.{cleans_then}
use Rattle.mk_cycle.proofs.cleaning.clear_colours.Goals as goal

pub clear_marks-requires-clause-found : goal.clear_marks-requires-clause-found
clear_marks-requires-clause-found c none =
    c.look_before-blacks.ensures.cleans.unmarked c.args.page (sym c.look_before-marks.ensures.reads ∙ none)

pub clear_black-requires-clause-found : goal.clear_black-requires-clause-found
clear_black-requires-clause-found c none =
    c.clear_marks.ensures.cleans.unscanned c.args.page (sym c.look_before-blacks.ensures.reads ∙ none)

pub returns-clause-cleans : goal.returns-clause-cleans
returns-clause-cleans c =
    cleans_then (cleans_then c.look_before-marks.ensures.cleans c.look_before-blacks.ensures.cleans)
    (cleans_then c.clear_marks.ensures.cleans c.clear_black.ensures.cleans)

pub returns-clause-bare : goal.returns-clause-bare
returns-clause-bare c = record {
  unmarked = c.clear_black.ensures.cleans.unmarked c.args.page c.clear_marks.ensures.unmarked;
  unscanned = c.clear_black.ensures.unscanned;
}
