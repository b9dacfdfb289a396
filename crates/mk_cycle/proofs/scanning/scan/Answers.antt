use Rattle.mk_words.proofs.Below.Laws.Vocabulary.{sym}
use Rattle.mk_cycle.proofs.scanning.scan.Goals as goal
use Rattle.mk_cycle.proofs.{Notes.{none_last, notes_as}, ScannedWords.all_scanned}

pub returns-then-gray-lt-GROUP-clause-well : goal.returns-then-gray-lt-GROUP-clause-well
returns-then-gray-lt-GROUP-clause-well c = all_scanned c.requires.due c.scan_few.ensures

pub returns-then-gray-lt-PAGE_WORDS-clause-marks : goal.returns-then-gray-lt-PAGE_WORDS-clause-marks
returns-then-gray-lt-PAGE_WORDS-clause-marks c =
    notes_as (sym (none_last c.scan_near.new.work)) c.scan_near.ensures.marks

pub returns-clause-marks : goal.returns-clause-marks
returns-clause-marks c = notes_as (sym (none_last c.scan_groups.new.work)) c.scan_groups.ensures.marks
