use Rattle.mk_words.proofs.Below.Laws.Vocabulary.{ℕ, arith, ◌*◌, ◌+◌, ◌/◌, ◌≤◌}
use Rattle.mk_cycle.proofs.ScannedWords.{all_scanned, due_kept, none_scanned, scans_then, scans_to}
use Rattle.mk_cycle.proofs.scanning.scan_groups.Goals as goal
use Rattle.mk_cycle.proofs.{Notes.marks_nothing, scanning.scan_groups.Goals.After-scan_part}
use Rattle.mk_cycle.specs.Grays.{listed, Scans}

pub loop-part-init : goal.loop-part-init
loop-part-init c = none_scanned (omega arith) (marks_nothing c.requires.may.wanted)

pub scan_page-requires-clause-due : goal.scan_page-requires-clause-due
scan_page-requires-clause-due c = due_kept c.requires.due c.loop-part.invariant.marks.more

pub loop-part-preserved : goal.loop-part-preserved
loop-part-preserved c =
    scans_to (64 * (c.loop-part.part + 1)) (omega arith) (scans_then c.loop-part.invariant c.scan_page.ensures)

pub scan_part-requires-clause-due : goal.scan_part-requires-clause-due
scan_part-requires-clause-due c = due_kept c.requires.due c.loop-part.invariant.marks.more

-- All groups are scanned.
groups_scanned : (c : After-scan_part)
    → Scans c.args.table.pages c.args.stop.now (listed c.args.work.now) c.scan_part.new.stop
    (listed c.scan_part.new.work) c.args.gray.cell 0 (8 * (c.args.gray.words / 8))
groups_scanned c =
    let end = c.loop-part-test.false in
    let last : ℕ = c.args.gray.words / 64 in
    let whole : 64 * last ≤ 64 * c.loop-part.part = omega arith in
    scans_to _ (omega arith) (scans_then (scans_to (64 * last) whole c.loop-part.invariant) c.scan_part.ensures)

pub scan_from-requires-clause-due : goal.scan_from-requires-clause-due
scan_from-requires-clause-due c = grind (arith, due_kept, groups_scanned)

pub scan_from-requires-clause-part : goal.scan_from-requires-clause-part
scan_from-requires-clause-part c i lt = omega arith

pub returns-clause-marks : goal.returns-clause-marks
returns-clause-marks c =
    (scans_then (groups_scanned (goal.at.returns-clause-marks c).After-scan_part) c.scan_from.ensures).marks

pub returns-clause-well : goal.returns-clause-well
returns-clause-well c =
    all_scanned c.requires.due
    (scans_to c.args.gray.words (omega arith)
    (scans_then (groups_scanned (goal.at.returns-clause-well c).After-scan_part) c.scan_from.ensures))
