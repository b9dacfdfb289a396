use Rattle.mk_words.proofs.Below.Laws.Vocabulary.{arith, ◌*◌, ◌+◌}
use Rattle.mk_cycle.proofs.scanning.scan_two_groups.Goals as goal
use Rattle.mk_cycle.proofs.ScannedWords.{due_kept, scans_then, scans_to}

pub scan_group-requires-2-clause-due : goal.scan_group-requires-2-clause-due
scan_group-requires-2-clause-due c = due_kept c.requires.due c.scan_group.ensures.marks.more

pub returns : goal.returns
returns c =
    scans_to (8 * c.args.group + 16) (omega arith)
    (scans_then (scans_to (8 * (c.args.group + 1)) (omega arith) c.scan_group.ensures) c.scan_group-2.ensures)
