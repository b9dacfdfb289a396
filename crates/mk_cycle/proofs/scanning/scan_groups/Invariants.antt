use Rattle.mk_words.proofs.Below.Laws.Vocabulary.{◌*◌}
use Rattle.mk_cycle.specs.Grays.{listed, Scans}
use Rattle.mk_cycle.proofs.scanning.scan_groups.Given as goal

abbrev pub invariant-loop-part : goal.invariant-loop-part
invariant-loop-part l =
    Scans l.table.pages l.fn.stop (listed l.fn.work) l.stop (listed l.work) l.gray.cell 0 (64 * l.part)
