use Rattle.mk_words.proofs.Below.Laws.Vocabulary.{Some}
use Rattle.mk_cycle.specs.Grays.{with_last, Scans}
use Rattle.mk_cycle.proofs.scanning.scan_rest.Given as goal

abbrev pub invariant-loop-i : goal.invariant-loop-i
invariant-loop-i l =
    Scans l.table.pages l.fn.stop (with_last l.fn.work (Some l.fn.noted)) l.stop (with_last l.work
    (Some l.last)) l.gray.cell
    l.from l.i
