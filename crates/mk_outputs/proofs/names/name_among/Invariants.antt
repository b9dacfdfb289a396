use Rattle.mk_run.proofs.Below.Laws.Vocabulary.{drop, slice_index_or, [], ◌≡◌}
use Rattle.mk_script.specs.Scopes.{names_of}
use Rattle.mk_outputs.proofs.names.name_among.Given as goal

-- the name among the lines that are left
abbrev pub invariant-loop-item : goal.invariant-loop-item
invariant-loop-item l =
    slice_index_or (names_of l.sort (drop l.item-index l.items)) l.left []
    ≡ slice_index_or (names_of l.sort l.items) l.number []
