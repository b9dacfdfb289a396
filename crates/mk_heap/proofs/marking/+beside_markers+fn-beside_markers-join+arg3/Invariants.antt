use Rattle.mk_alloc.proofs.Below.Laws.Vocabulary.{◌+◌, ◌-◌}
use Rattle.mk_heap.proofs.marking.+beside_markers+fn-beside_markers-join+arg3.Given as goal

abbrev pub decreases-beside_markers : goal.decreases-beside_markers
decreases-beside_markers g l = l.markers - l.number

abbrev pub decreases-join+arg3 : goal.decreases-join+arg3
decreases-join+arg3 g l = l.markers - (l.number + 1)
