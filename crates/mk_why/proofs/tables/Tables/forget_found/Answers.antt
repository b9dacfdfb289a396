use Rattle.mk_sweep.proofs.Below.Laws.Vocabulary.{None, ap, length, slice_index_or, ◌∙◌}
use Rattle.mk_why.proofs.{Counts.none_counted, LazyTables.read_copies}
use Rattle.mk_why.proofs.tables.Tables.forget_found.Goals as goal

pub returns-clause-none : goal.returns-clause-none
returns-clause-none c base =
    ap (λ xs. slice_index_or xs base None) c.clear.ensures.items
    ∙ read_copies (length c.args.self.now.found.items) base None

pub invariant_of-self-clause-full : goal.invariant_of-self-clause-full
invariant_of-self-clause-full c =
    none_counted c.clear.new.self.items (λ i. ap (λ xs. slice_index_or xs i None) c.clear.ensures.items
    ∙ read_copies (length c.args.self.now.found.items) i None)
