use Rattle.mk_words.proofs.Below.Laws.Vocabulary.{arith}
use Rattle.mk_cycle.proofs.ScannedWords.{due_kept, none_scanned, one_scanned, scans_then, scans_to}
use Rattle.mk_cycle.proofs.scanning.scan_rest.Goals as goal
use Rattle.mk_cycle.proofs.Notes.{marks_nothing}

pub loop-i-init : goal.loop-i-init
loop-i-init c = none_scanned (omega arith) (marks_nothing c.requires.may.wanted)

pub look_at_word-value-requires-clause-due : goal.look_at_word-value-requires-clause-due
look_at_word-value-requires-clause-due c = due_kept c.requires.due c.loop-i.invariant.marks.more

pub look_at_word-value-requires-clause-part : goal.look_at_word-value-requires-clause-part
look_at_word-value-requires-clause-part c = omega arith

pub loop-i-preserved : goal.loop-i-preserved
loop-i-preserved c =
    let look = c.look_at_word-value.ensures in
    let mark = c.mark_and_note-last.ensures in
    scans_then c.loop-i.invariant (one_scanned look.looks look.found mark.marks mark.well)

pub returns : goal.returns
returns c = let end = c.loop-i-test.false in scans_to c.args.gray.words (omega arith) c.loop-i.invariant
