use Rattle.mk_words.proofs.Below.Laws.Vocabulary.{subst, sym, ◌<◌}
use Rattle.mk_marker.proofs.Moving.{blackened, moved}
use Rattle.mk_words.specs.States.{WordsState}
use Rattle.mk_marker.proofs.steps.blacken.Goals as goal

pub returns-clause-moves : goal.returns-clause-moves
returns-clause-moves c = moved c.marker_black.ensures.makes c.marker_black.ensures.marker

pub returns-clause-black : goal.returns-clause-black
returns-clause-black c =
    blackened c.marker_black.ensures.makes c.requires.cell (subst (λ (w : WordsState). c.args.cell.page
    < w.config.pages) (sym c.requires.marker.one_table) c.requires.page) c.requires.index
