use Rattle.mk_check.proofs.Vocabulary.{drop, globals_among, type_names, ◌++◌, ◌≡◌}
use Rattle.mk_check.proofs.numbers.TypeNumbers.globals.Given as goal

abbrev pub invariant-loop-item : goal.invariant-loop-item
invariant-loop-item l = l.globals ++ globals_among (type_names l.self) (drop l.item-index l.item-items)
    ≡ globals_among (type_names l.self) l.item-items
