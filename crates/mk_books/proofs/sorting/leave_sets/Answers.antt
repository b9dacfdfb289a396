use Rattle.mk_books.proofs.Vocabulary.{Nothing, PartOfRun, arith, false, sym, ◌∙◌}
use Rattle.mk_books.proofs.sorting.leave_sets.Goals as goal
use Rattle.mk_books.proofs.BlockSets.{left_blocks, nothing_of_set, run_of_set, sorted_free}

pub returns-in-Free-clause-sorts : goal.returns-in-Free-clause-sorts
returns-in-Free-clause-sorts c =
    let (_, sorted) = c.requires.sorted in
    sorted_free Nothing (PartOfRun false) c.put_in_use.ensures
    (λ s block. nothing_of_set s block ∙ sym (run_of_set s block)) (rw c.in-Free.is at sorted)

pub returns-in-Block-clause-sorts : goal.returns-in-Block-clause-sorts
returns-in-Block-clause-sorts c =
    let (used, sorted) = c.requires.sorted in
    left_blocks c.in-Block.class used c.in-Block.leaf (rw c.in-Block.is at c.requires.class) c.block_set.ensures.place
    c.remove.ensures (rw c.in-Block.is at sorted)

pub returns-in-Free-clause-uncleaned : goal.returns-in-Free-clause-uncleaned
returns-in-Free-clause-uncleaned c used = rw c.in-Free.is c.put_in_use.ensures.uncleaned

pub returns-in-Block-clause-uncleaned : goal.returns-in-Block-clause-uncleaned
returns-in-Block-clause-uncleaned c used =
    rw c.in-Block.is (c.remove.ensures.other_sets 19 (omega arith)
    (λ same. absurd (omega (arith, same, c.block_set.ensures.within))))
