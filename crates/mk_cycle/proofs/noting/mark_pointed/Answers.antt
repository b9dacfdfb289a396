use Rattle.mk_words.proofs.Below.Laws.Vocabulary.{Words, arith, pointed_cell, subst, sym, ◌%◌, ◌-◌, ◌/◌, ◌∙◌, ◌≡◌}
use Rattle.mk_cycle.proofs.Notes.{last_added, looks_alone, none_last, notes_as, notes_then, told_among, white_then}
use Rattle.mk_cycle.proofs.PointedCells.{hand_points, pointed_here, points_on, well_marked, well_nowhere}
use Rattle.mk_cycle.proofs.noting.mark_pointed.Goals as goal
use Rattle.mk_cycle.proofs.{FirstBits.if_told, NotedCells.noted_marked, noting.mark_pointed.Goals.After-in_block}
use Rattle.mk_cycle.specs.{Grays.MarksMore, Stops.still_words}
use Rattle.mk_geom.specs.Addresses.{cell_of_block}

pub returns-then-header-eq0-clause-marks : goal.returns-then-header-eq0-clause-marks
returns-then-header-eq0-clause-marks c =
    notes_as (sym (none_last c.mark_under.new.work))
    (notes_then (looks_alone c.look_at-header.ensures.looks) c.mark_under.ensures.marks)

pub returns-in_default-clause-marks : goal.returns-in_default-clause-marks
returns-in_default-clause-marks c =
    notes_as (sym (none_last c.args.work.now)) (looks_alone c.look_at-header.ensures.looks)

-- what the value points into, by the header word that was found
under : (c : After-in_block) → pointed_cell c.args.table.pages (still_words c.args.stop.now.pass).pages c.args.value
    ≡ cell_of_block (c.look_at-header.result - 1) c.args.page (c.args.value / 8 % 64)
under c = sym (pointed_here c.args.table.pages (still_words c.args.stop.now.pass) c.args.value c.args.page
    c.look_at-header.result c.requires.page c.requires.inside
    c.look_at-header.ensures.found (omega arith) (omega arith))

pub returns-in_default-clause-well : goal.returns-in_default-clause-well
returns-in_default-clause-well c =
    well_nowhere c.args.table.pages _ _ c.args.value c.look_at-header.ensures.looks.words
    (under (goal.at.returns-in_default-clause-well c).After-in_block ∙ c.in_default.ensures.none)

pub mark_white-requires-clause-reached : goal.mark_white-requires-clause-reached
mark_white-requires-clause-reached c =
    let look = c.look_at-header.ensures in
    points_on look.looks look.hand
    (hand_points c.args.stop.now.pass c.args.table.pages c.args.value c.in-Some.noted.cell (grind arith) c.requires.hand
    (under (goal.at.mark_white-requires-clause-reached c).After-in_block ∙ c.in-Some.ensures.some))

pub returns-clause-marks : goal.returns-clause-marks
returns-clause-marks c =
    let white = c.mark_white.ensures in
    notes_then (looks_alone c.look_at-header.ensures.looks)
    (white_then white.on white.more white.one (last_added c.args.work.now c.then_some.result white.on.wanted
    (grind (arith, if_told, noted_marked)))
    (λ was whole gray. told_among c.args.work.now.cells.items c.in-Some.noted c.then_some.ensures was))

pub returns-clause-well : goal.returns-clause-well
returns-clause-well c =
    let x = still_words c.mark_white.new.stop.pass in
    well_marked c.args.table.pages _ x c.args.value c.in-Some.noted.cell
    (subst (λ (y : Words). MarksMore y x) c.look_at-header.ensures.looks.words c.mark_white.ensures.more)
    (under (goal.at.returns-clause-well c).After-in_block ∙ c.in-Some.ensures.some) c.mark_white.ensures.marked
