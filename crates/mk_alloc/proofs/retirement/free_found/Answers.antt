use Rattle.mk_caller.proofs.Below.Laws.Vocabulary.{Option, ap, header_of, heads_run, sym, ℕ, ◌∙◌}
use Rattle.mk_alloc.proofs.retirement.free_found.Goals as goal
use Rattle.mk_alloc.proofs.{ObjectVocabulary.option_map, LargeFrees.heads_none}

pub free_small-requires-clause-small : goal.free_small-requires-clause-small
free_small-requires-clause-small g c =
    let header = c.args.target.header in
    ap (λ (n : ℕ). heads_run (header_of n)) (sym c.requires.header) ∙ heads_none (header_of header) 0
    (c.run_under.ensures 0 ∙ ap (λ (x : Option ℕ). option_map (λ n. record { page = 0; count = n }) x) c.in-None.is)
