use Rattle.mk_trace.proofs.Vocabulary.{FreedObject, in_a_word, sum_by}
use Rattle.mk_heap.proofs.Below.Laws.Vocabulary.{take, ◌≡◌}
use Rattle.mk_trace.proofs.ledger.totals_of.Given as goal

-- those of the objects so far
abbrev pub invariant-loop-object : goal.invariant-loop-object
invariant-loop-object l =
    (l.storage ≡ in_a_word (sum_by (λ (x : FreedObject). x.storage) (take l.object-index l.kept)))
    × (l.reserved ≡ in_a_word (sum_by (λ (x : FreedObject). x.reserved) (take l.object-index l.kept)))
