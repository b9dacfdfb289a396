use Rattle.mk_cycle.proofs.noting.mark_address.Goals as goal
use Rattle.mk_cycle.proofs.{Notes.marks_nothing, RootMarks.before_well}
use Rattle.mk_cycle.specs.Stops.{still_words}

pub returns-then-value-lt-HEAP_START-clause-marks : goal.returns-then-value-lt-HEAP_START-clause-marks
returns-then-value-lt-HEAP_START-clause-marks c = marks_nothing c.requires.may.wanted

pub returns-then-value-lt-HEAP_START-clause-well : goal.returns-then-value-lt-HEAP_START-clause-well
returns-then-value-lt-HEAP_START-clause-well c =
    before_well c.args.table.pages (still_words c.args.stop.now.pass) c.args.value c.if-value-lt-HEAP_START.true
