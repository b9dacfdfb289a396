use Rattle.mk_words.proofs.Below.Laws.Vocabulary.{Words, ap, slice_index, sym, without, ◌∙◌}
use Rattle.mk_cycle.proofs.grays.gray_bits.Goals as goal
use Rattle.mk_cycle.proofs.{FirstBits.no_marks, StopSteps.looks_then}
use Rattle.mk_cycle.specs.Stops.{still_words}

pub returns-then-marks-eq0-clause-bits : goal.returns-then-marks-eq0-clause-bits
returns-then-marks-eq0-clause-bits c =
    no_marks (still_words c.args.stop.now.pass) c.args.page (sym c.look_at-marks.ensures.found ∙ c.if-marks-eq0.true)

pub returns-clause-looks : goal.returns-clause-looks
returns-clause-looks c = looks_then c.look_at-marks.ensures.looks c.look_at-blacks.ensures.looks

pub returns-clause-bits : goal.returns-clause-bits
returns-clause-bits c =
    let marks = c.look_at-marks.ensures.found in
    let blacks = c.look_at-blacks.ensures.found ∙ ap (λ (w : Words). slice_index w.blacks c.args.page)
    c.look_at-marks.ensures.looks.words in
    c.without.ensures ∙ (λ i. without (marks i) (blacks i))
