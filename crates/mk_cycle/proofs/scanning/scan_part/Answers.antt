use Rattle.mk_words.proofs.Below.Laws.Vocabulary.{arith, ◌*◌, ◌+◌}
use Rattle.mk_cycle.proofs.scanning.scan_part.Goals as goal
use Rattle.mk_cycle.proofs.{ScannedWords.{due_kept, none_scanned, scans_then, scans_to}, Notes.marks_nothing}

pub loop-group-init : goal.loop-group-init
loop-group-init c = none_scanned (omega arith) (marks_nothing c.requires.may.wanted)

pub scan_group-requires-clause-due : goal.scan_group-requires-clause-due
scan_group-requires-clause-due c = due_kept c.requires.due c.loop-group.invariant.marks.more

pub loop-group-preserved : goal.loop-group-preserved
loop-group-preserved c =
    scans_to (8 * (c.loop-group.group + 1)) (omega arith) (scans_then c.loop-group.invariant c.scan_group.ensures)

pub returns : goal.returns
returns c = let end = c.loop-group-test.false in scans_to _ (omega arith) c.loop-group.invariant
