use Rattle.mk_check.proofs.Vocabulary.{drop, kinds_among, type_names, ◌++◌, ◌≡◌}
use Rattle.mk_check.proofs.numbers.TypeNumbers.types.Given as goal

abbrev pub invariant-loop-item : goal.invariant-loop-item
invariant-loop-item l = l.types ++ kinds_among (type_names l.self) (drop l.item-index l.item-items)
    ≡ kinds_among (type_names l.self) l.item-items
