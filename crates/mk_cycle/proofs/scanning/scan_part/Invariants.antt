use Rattle.mk_words.proofs.Below.Laws.Vocabulary.{◌*◌}
use Rattle.mk_cycle.specs.Grays.{listed, Scans}
use Rattle.mk_cycle.proofs.scanning.scan_part.Given as goal

abbrev pub invariant-loop-group : goal.invariant-loop-group
invariant-loop-group l =
    Scans l.table.pages l.fn.stop (listed l.fn.work) l.stop (listed l.work) l.gray.cell (64 * l.part) (8 * l.group)
