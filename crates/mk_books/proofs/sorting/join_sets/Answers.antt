use Rattle.mk_books.proofs.Vocabulary.{Nothing, PartOfRun, arith, false, refl, sym, ◌∙◌}
use Rattle.mk_books.proofs.sorting.join_sets.Goals as goal
use Rattle.mk_books.proofs.BlockSets.{joined_blocks, nothing_of_set, run_of_set, sorted_free}

pub returns-in-Free-clause-sorts : goal.returns-in-Free-clause-sorts
returns-in-Free-clause-sorts c = rw c.in-Free.is (sorted_free (PartOfRun false) Nothing c.put_free.ensures
    (λ s block. run_of_set s block ∙ sym (nothing_of_set s block)) c.requires.sorted)

pub returns-in-Block-clause-sorts : goal.returns-in-Block-clause-sorts
returns-in-Block-clause-sorts c = rw c.in-Block.is (joined_blocks c.in-Block.class c.args.used c.in-Block.leaf
    (PartOfRun false) (rw c.in-Block.is at c.requires.class) c.block_set.ensures.place c.has_free_cell.ensures
    c.put.ensures (λ _ _ _. refl) c.requires.sorted)

pub returns-in-Block-clause-uncleaned : goal.returns-in-Block-clause-uncleaned
returns-in-Block-clause-uncleaned c =
    rw c.in-Block.is (c.put.ensures.other_sets 19 (omega arith)
    (λ same. absurd (omega (arith, same, c.block_set.ensures.within))))
