use Rattle.mk_sweep.proofs.Vocabulary.{BlacksMore, CellsAreClosed, Words, cells_under, header_in, header_of}
use Rattle.mk_sweep.proofs.{Vocabulary.still_words, SweepSteps.quiet_then}
use Rattle.mk_cycle.proofs.Below.Laws.Vocabulary.{ap, subst, sym, ◌∙◌}
use Rattle.mk_sweep.proofs.blackening.blacken_page.Goals as goal

pub blacken_cells-requires-clause-count : goal.blacken_cells-requires-clause-count
blacken_cells-requires-clause-count c =
    c.cells_under.ensures.exact ∙ ap (λ h. cells_under (header_of h)) c.look_at-header.ensures.found
    ∙ sym (ap (λ (x : Words). cells_under (header_in x c.args.page))
    (c.look_at-marks.ensures.words ∙ c.look_at-header.ensures.words))

pub blacken_cells-requires-clause-closed : goal.blacken_cells-requires-clause-closed
blacken_cells-requires-clause-closed c =
    subst (CellsAreClosed c.args.words.now.config)
    (sym (c.look_at-marks.ensures.words ∙ c.look_at-header.ensures.words)) c.requires.closed

pub returns-clause-on : goal.returns-clause-on
returns-clause-on c =
    quiet_then (quiet_then c.look_at-header.ensures.on c.look_at-marks.ensures.on) c.blacken_cells.ensures.on

pub returns-clause-more : goal.returns-clause-more
returns-clause-more c =
    subst (λ (x : Words). BlacksMore x (still_words c.blacken_cells.new.stop.pass))
    (c.look_at-marks.ensures.words ∙ c.look_at-header.ensures.words) c.blacken_cells.ensures.more
