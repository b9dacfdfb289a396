use Rattle.mk_cycle.proofs.noting.note.Goals as goal
use Rattle.mk_cycle.proofs.{Notes.{added_among, last_added, list_added, looks_alone, notes_then}, NotedCells.noted_cell}
use Rattle.mk_cycle.specs.Stops.{still_words}

pub returns-clause-marks : goal.returns-clause-marks
returns-clause-marks c =
    let look = c.look_at-header.ensures in
    let under = c.under.ensures in
    let wanted = look.looks.on.wanted in
    notes_then (looks_alone look.looks)
    (notes_then (last_added c.args.work.now c.under.result wanted
    (noted_cell _ _ (still_words c.look_at-header.new.stop.pass) c.args.cell _ c.under.result look.looks.words
    look.found c.requires.page c.requires.marked under.cell under.known under.words))
    (list_added c.args.work.now c.under.result c.extend.new.self wanted c.extend.ensures))

pub returns-clause-noted : goal.returns-clause-noted
returns-clause-noted c whole gray =
    let under = c.under.ensures in
    added_among c.args.work.now c.under.result c.extend.new.self c.extend.ensures whole under.cell under.none
    (rw c.look_at-header.ensures.found gray.index)
