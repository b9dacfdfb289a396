use Rattle.mk_trace.proofs.Vocabulary.{events_from}
use Rattle.mk_heap.proofs.Below.Laws.Vocabulary.{drop, [], ◌+◌, ◌≡◌}
use Rattle.mk_trace.proofs.resolving.events.Given as goal

-- the lines that are left decide
abbrev pub invariant-loop-index : goal.invariant-loop-index
invariant-loop-index l =
    events_from l.slots (l.first + l.index) (drop l.index l.lines) l.events.items
    ≡ events_from l.slots l.first l.lines []
