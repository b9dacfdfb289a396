use Rattle.mk_words.proofs.Below.Laws.Vocabulary.{arith, ◌*◌, ◌/◌}
use Rattle.mk_cycle.proofs.ScannedWords.{all_scanned, due_kept, scans_then, scans_to}
use Rattle.mk_cycle.proofs.scanning.scan_near.Goals as goal
use Rattle.mk_cycle.proofs.scanning.scan_near.Goals.{After-scan_from}
use Rattle.mk_cycle.specs.Grays.{listed, Scans}

pub scan_from-requires-clause-due : goal.scan_from-requires-clause-due
scan_from-requires-clause-due c = due_kept c.requires.due c.scan_part.ensures.marks.more

pub scan_from-requires-clause-part : goal.scan_from-requires-clause-part
scan_from-requires-clause-part c i lt = let few = c.requires.few in omega arith

-- all words are scanned
scanned : (c : After-scan_from)
    → Scans c.args.table.pages c.args.stop.now (listed c.args.work.now) c.scan_from.new.stop
    (listed c.scan_from.new.work) c.args.gray.cell 0 c.args.gray.words
scanned c =
    let few = c.requires.few in
    scans_to c.args.gray.words (omega arith)
    (scans_then (scans_to (8 * (c.args.gray.words / 8)) (omega arith) c.scan_part.ensures) c.scan_from.ensures)

pub returns-clause-marks : goal.returns-clause-marks
returns-clause-marks c = (scanned c).marks

pub returns-clause-well : goal.returns-clause-well
returns-clause-well c = all_scanned c.requires.due (scanned c)
