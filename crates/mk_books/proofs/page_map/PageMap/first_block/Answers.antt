use Rattle.mk_books.proofs.{Vocabulary.{ap, arith, has_free_cell, is_of_set, ◌∙◌}, BlockSets.of_own_set}
use Rattle.mk_books.proofs.page_map.PageMap.first_block.Goals as goal
use Rattle.mk_books.proofs.Reading.{first_shown}

pub returns : goal.returns
returns c pages freed shows = first_shown c.block_set.result (has_free_cell c.args.class c.args.leaf) shows
    (λ stands. ap (λ s. is_of_set s stands) c.block_set.ensures.place ∙ of_own_set c.args.class c.args.leaf stands
    c.requires) (c.next_of.ensures.sorted (omega (arith, c.block_set.ensures.within)))
