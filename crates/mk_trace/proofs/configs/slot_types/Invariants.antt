use Rattle.mk_trace.proofs.Vocabulary.{types_from}
use Rattle.mk_heap.proofs.Below.Laws.Vocabulary.{drop, ◌++◌, ◌≡◌}
use Rattle.mk_trace.proofs.configs.slot_types.Given as goal

-- the types so far, and those of the slots that are left
abbrev pub invariant-loop-slot : goal.invariant-loop-slot
invariant-loop-slot l = l.types ++ types_from l.slot (drop l.slot l.slots) ≡ types_from 0 l.slots
