use Rattle.mk_sweep.proofs.Below.Laws.Vocabulary.{None, ap, slice_index_or, ◌*◌, ◌∙◌}
use Rattle.mk_why.proofs.{Counts.none_counted, LazyTables.read_copies}
use Rattle.mk_why.proofs.tables.Tables.new.Goals as goal

pub invariant_of-result-clause-full : goal.invariant_of-result-clause-full
invariant_of-result-clause-full c =
    none_counted c.in_ok-found.found.items (λ i. ap (λ xs. slice_index_or xs i None) c.in_ok-found.ensures.items
    ∙ read_copies (64 * c.args.pages) i None)
