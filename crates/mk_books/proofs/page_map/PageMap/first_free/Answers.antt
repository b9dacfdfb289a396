use Rattle.mk_books.proofs.page_map.PageMap.first_free.Goals as goal
use Rattle.mk_books.proofs.{Vocabulary.{arith, is_free_page, refl}, Reading.first_shown}

pub returns : goal.returns
returns c pages freed shows =
    first_shown 16 is_free_page shows (λ stands. refl) (c.next_of.ensures.sorted (omega arith))
