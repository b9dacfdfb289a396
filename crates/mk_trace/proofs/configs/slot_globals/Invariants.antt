use Rattle.mk_heap.proofs.Below.Laws.Vocabulary.{length, ◌++◌, ◌-◌, ◌≡◌}
use Rattle.mk_trace.proofs.Vocabulary.{range_with_len}
use Rattle.mk_trace.proofs.configs.slot_globals.Given as goal

-- the globals so far, and those that are left
abbrev pub invariant-loop-slot : goal.invariant-loop-slot
invariant-loop-slot l = record {
  count : length l.globals ≡ l.slot;
  whole : l.globals ++ range_with_len l.slot (l.count - l.slot) ≡ range_with_len 0 l.count;
}
