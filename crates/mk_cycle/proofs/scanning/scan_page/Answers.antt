use Rattle.mk_words.proofs.Below.Laws.Vocabulary.{arith, ℕ, ◌*◌, ◌+◌}
use Rattle.mk_cycle.proofs.scanning.scan_page.Goals as goal
use Rattle.mk_cycle.proofs.ScannedWords.{due_kept, scans_after, scans_then, scans_to}

pub scan_four_groups-requires-2-clause-due : goal.scan_four_groups-requires-2-clause-due
scan_four_groups-requires-2-clause-due c = due_kept c.requires.due c.scan_four_groups.ensures.marks.more

pub returns : goal.returns
returns c =
    let group : ℕ = 8 * c.args.part in
    scans_after (64 * c.args.part) (omega arith) (scans_to (64 * c.args.part + 64) (omega arith)
    (scans_then (scans_to (8 * (group + 4)) (omega arith) c.scan_four_groups.ensures) c.scan_four_groups-2.ensures))
