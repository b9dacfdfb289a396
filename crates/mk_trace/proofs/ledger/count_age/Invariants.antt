use Rattle.mk_trace.proofs.Vocabulary.{with_one}
use Rattle.mk_heap.proofs.Below.Laws.Vocabulary.{drop, take, ◌++◌, ◌≡◌}
use Rattle.mk_trace.proofs.ledger.count_age.Given as goal

-- all ages so far are less
abbrev pub invariant-loop-place : goal.invariant-loop-place
invariant-loop-place l = record {
  same : l.ages.items ≡ l.fn.ages.items;
  rest : with_one l.fn.ages.items l.age ≡ take l.place l.fn.ages.items ++ with_one (drop l.place l.fn.ages.items) l.age;
}
