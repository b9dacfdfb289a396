use Rattle.mk_trace.proofs.Vocabulary.{To, replicate}
use Rattle.mk_heap.proofs.Below.Laws.Vocabulary.{Number as Num, ◌-◌, ◌∷◌, ◌≡◌, ◌≤◌}
use Rattle.mk_trace.proofs.configs.slot_type.Given as goal

-- a pointer, and a number for each word so far
abbrev pub invariant-loop-word : goal.invariant-loop-word
invariant-loop-word l = record {
  least : 1 ≤ l._word;
  most : l._word - 1 ≤ l.words - 1;
  kinds : l.kinds.items ≡ To l.slot 0 ∷ replicate (l._word - 1) Num;
}
