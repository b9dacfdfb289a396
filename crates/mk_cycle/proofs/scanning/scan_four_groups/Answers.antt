use Rattle.mk_words.proofs.Below.Laws.Vocabulary.{arith, ◌*◌, ◌+◌}
use Rattle.mk_cycle.proofs.scanning.scan_four_groups.Goals as goal
use Rattle.mk_cycle.proofs.ScannedWords.{due_kept, scans_then, scans_to}

pub scan_two_groups-requires-2-clause-due : goal.scan_two_groups-requires-2-clause-due
scan_two_groups-requires-2-clause-due c = due_kept c.requires.due c.scan_two_groups.ensures.marks.more

pub returns : goal.returns
returns c =
    scans_to (8 * c.args.group + 32) (omega arith)
    (scans_then (scans_to (8 * (c.args.group + 2)) (omega arith) c.scan_two_groups.ensures) c.scan_two_groups-2.ensures)
