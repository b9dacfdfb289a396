use Rattle.mk_sweep.proofs.Below.Laws.Vocabulary.{None, ap, length, slice_index_or, ◌∙◌}
use Rattle.mk_why.proofs.LazyTables.{read_copies}
use Rattle.mk_why.proofs.tables.Tables.forget_kept.Goals as goal

pub returns-clause-none : goal.returns-clause-none
returns-clause-none c base =
    ap (λ xs. slice_index_or xs base None) c.clear.ensures.items
    ∙ read_copies (length c.args.self.now.kept.items) base None
