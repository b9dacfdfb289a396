use Rattle.mk_heap.proofs.Below.Laws.Vocabulary.{drop}
use Rattle.mk_trace.proofs.SlotNumbers.{AreNumbersFrom}
use Rattle.mk_trace.proofs.resolving.slot_numbers.Given as goal

-- those after the bound are put in
abbrev pub invariant-loop-number : goal.invariant-loop-number
invariant-loop-number l = AreNumbersFrom l.numbers l.number (drop l.number l.slots)
