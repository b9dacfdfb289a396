-- Cells have whole pairs of words.
use Rattle.mk_words.proofs.Below.Laws.Vocabulary.{Header, Option, arith, words_under, ◌*◌, ◌/◌, ◌≡◌}

pub have_whole_pairs : (x : Option Header) → 2 * (words_under x / 2) ≡ words_under x
have_whole_pairs x0 = grind arith
