use Rattle.mk_check.proofs.Vocabulary.{drop, ◌++◌, ◌≡◌}
use Rattle.mk_script.specs.Scopes.{names_of}
use Rattle.mk_check.proofs.name_table.names_among.Given as goal

abbrev pub invariant-loop-item : goal.invariant-loop-item
invariant-loop-item l = l.names ++ names_of l.sort (drop l.item-index l.items) ≡ names_of l.sort l.items
