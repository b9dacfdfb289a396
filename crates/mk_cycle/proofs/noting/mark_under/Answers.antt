use Rattle.mk_words.proofs.Below.Laws.Vocabulary.{Some, Words, ℕ, arith, pointed_cell, points_well, refl, subst, sym}
use Rattle.mk_words.proofs.Below.Laws.Vocabulary.{true, true≢false, ◌∙◌, ◌≡◌}
use Rattle.mk_cycle.proofs.PointedCells.{hand_points, pointed_under, well_marked, well_nowhere}
use Rattle.mk_cycle.proofs.noting.mark_under.Goals as goal
use Rattle.mk_cycle.proofs.{Notes.{marks_nothing, white_then}, noting.mark_under.Goals.In-Some}
use Rattle.mk_cycle.specs.Stops.{still_words}

pub returns-in_default-clause-marks : goal.returns-in_default-clause-marks
returns-in_default-clause-marks c = marks_nothing c.requires.may.wanted

pub returns-in_default-clause-well : goal.returns-in_default-clause-well
returns-in_default-clause-well c =
    let w = still_words c.args.stop.now.pass in
    well_nowhere c.args.table.pages w w c.args.value refl
    (sym (pointed_under c.args.table.pages w c.args.value c.args.header c.requires.header) ∙ sym c.in_default.ensures)

-- the cell into which the value points
points : (c : In-Some)
    → pointed_cell c.args.table.pages (still_words c.args.stop.now.pass).pages c.args.value ≡ Some c.in-Some.cell
points c =
    let w = still_words c.args.stop.now.pass in
    cc (pointed_under c.args.table.pages w c.args.value c.args.header c.requires.header, c.in-Some.ensures)

pub mark_white-requires-clause-reached : goal.mark_white-requires-clause-reached
mark_white-requires-clause-reached c =
    hand_points c.args.stop.now.pass c.args.table.pages c.args.value c.in-Some.cell (grind arith) c.requires.hand
    (points (goal.at.mark_white-requires-clause-reached c).In-Some)

pub returns-then-mark_white-clause-marks : goal.returns-then-mark_white-clause-marks
returns-then-mark_white-clause-marks c =
    let white = c.mark_white.ensures in
    white_then white.on white.more white.one c.note.ensures.marks (λ was. c.note.ensures.noted)

pub returns-then-mark_white-clause-well : goal.returns-then-mark_white-clause-well
returns-then-mark_white-clause-well c =
    let pages : ℕ = c.args.table.pages in
    subst (λ (y : Words). points_well pages y c.args.value ≡ true) (sym c.note.ensures.words)
    (well_marked pages _ _ c.args.value c.in-Some.cell c.mark_white.ensures.more
    (points (goal.at.returns-then-mark_white-clause-well c).In-Some) c.mark_white.ensures.marked)

pub returns-else-mark_white-clause-marks : goal.returns-else-mark_white-clause-marks
returns-else-mark_white-clause-marks c =
    let white = c.mark_white.ensures in
    white_then white.on white.more white.one (marks_nothing white.on.wanted)
    (λ was. absurd (true≢false (sym was ∙ c.if-mark_white.false)))

pub returns-else-mark_white-clause-well : goal.returns-else-mark_white-clause-well
returns-else-mark_white-clause-well c =
    well_marked _ _ _ c.args.value c.in-Some.cell c.mark_white.ensures.more
    (points (goal.at.returns-else-mark_white-clause-well c).In-Some) c.mark_white.ensures.marked
