use Rattle.mk_books.proofs.sorting.sort_by_used.Goals as goal
use Rattle.mk_books.proofs.{Vocabulary.{PageKind, arith, use_of_kind}, BlockSets.{block_elsewhere, joined_blocks}}

pub returns-then-has_free_cell-is_open-clause-sorts : goal.returns-then-has_free_cell-is_open-clause-sorts
returns-then-has_free_cell-is_open-clause-sorts c =
    let class = c.in-Block.class in
    let leaf = c.in-Block.leaf in
    rw c.in-Block.is (joined_blocks class c.args.after leaf (use_of_kind (PageKind.Block class leaf) c.args.before)
    (rw c.in-Block.is at c.requires.class) c.block_set.ensures.place c.has_free_cell-is_open.ensures c.put.ensures
    (block_elsewhere class c.args.before leaf c.block_set.ensures.place) (rw c.in-Block.is at c.requires.sorted))

pub returns-then-has_free_cell-is_open-clause-uncleaned : goal.returns-then-has_free_cell-is_open-clause-uncleaned
returns-then-has_free_cell-is_open-clause-uncleaned c =
    c.put.ensures.other_sets 19 (omega arith) (λ same. absurd (omega (arith, same, c.block_set.ensures.within)))
