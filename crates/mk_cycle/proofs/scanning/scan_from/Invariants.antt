use Rattle.mk_words.proofs.Below.Laws.Vocabulary.{◌+◌}
use Rattle.mk_cycle.specs.Grays.{listed, Scans}
use Rattle.mk_cycle.proofs.scanning.scan_from.Given as goal

abbrev pub invariant-loop-i : goal.invariant-loop-i
invariant-loop-i l =
    Scans l.table.pages l.fn.stop (listed l.fn.work) l.stop (listed l.work) l.gray.cell l.first (l.first + l.i)
