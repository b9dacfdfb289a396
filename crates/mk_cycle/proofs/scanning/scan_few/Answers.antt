use Rattle.mk_words.proofs.Below.Laws.Vocabulary.{ap, arith, sym, ◌+◌, ◌∙◌}
use Rattle.mk_cycle.proofs.ScannedWords.{due_kept, none_scanned, one_scanned, scans_as, scans_then, scans_to}
use Rattle.mk_cycle.proofs.scanning.scan_few.Goals as goal
use Rattle.mk_cycle.proofs.{Notes.{marks_nothing, none_last}, scanning.scan_few.Goals.After-mark_value-noted}
use Rattle.mk_cycle.specs.Grays.{listed, with_last, Scans}

pub loop-i-init : goal.loop-i-init
loop-i-init c = none_scanned (omega arith) (marks_nothing c.requires.may.wanted)

pub look_at_word-value-requires-clause-due : goal.look_at_word-value-requires-clause-due
look_at_word-value-requires-clause-due c = due_kept c.requires.due c.loop-i.invariant.marks.more

pub look_at_word-value-requires-clause-part : goal.look_at_word-value-requires-clause-part
look_at_word-value-requires-clause-part c = omega arith

-- The words up to this one.
scanned : (c : After-mark_value-noted)
    → Scans c.args.table.pages c.args.stop.now (listed c.args.work.now) c.mark_value-noted.new.stop
    (with_last c.mark_value-noted.new.work c.mark_value-noted.result) c.args.gray.cell 0 (c.loop-i.i + 1)
scanned c =
    let look = c.look_at_word-value.ensures in
    let mark = c.mark_value-noted.ensures in
    scans_then c.loop-i.invariant (one_scanned look.looks look.found mark.marks mark.well)

pub loop-i-preserved : goal.loop-i-preserved
loop-i-preserved c =
    let work = c.mark_value-noted.new.work in
    scans_as (ap (with_last work) c.in_default.is ∙ none_last work)
    (scanned (goal.at.loop-i-preserved c).After-mark_value-noted)

pub scan_rest-last-requires-clause-due : goal.scan_rest-last-requires-clause-due
scan_rest-last-requires-clause-due c = grind (arith, due_kept, scanned)

pub returns-in-Some : goal.returns-in-Some
returns-in-Some c =
    scans_then (scans_as (ap (with_last c.mark_value-noted.new.work) c.in-Some.is)
    (scanned (goal.at.returns-in-Some c).After-mark_value-noted)) c.scan_rest-last.ensures

pub returns : goal.returns
returns c =
    let end = c.loop-i-test.false in
    scans_as (sym (none_last c.loop-i.work)) (scans_to c.args.gray.words (omega arith) c.loop-i.invariant)
