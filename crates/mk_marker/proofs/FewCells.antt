-- A page has at most 32 cells.
use Rattle.mk_words.proofs.Below.Laws.Vocabulary.{Header, None, Option, Some, ℕ, arith, cell_ends, cells_of}
use Rattle.mk_words.proofs.Below.Laws.Vocabulary.{cells_under, header_of, mul-le, refl, ◌<◌, ◌≡◌}
use Rattle.mk_geom.proofs.{ClassTable.class_words_within, HeaderLemmas.word_of-header_of}

few_of_class : (class k : ℕ) → class < 8 → k < cells_of class → k < 32
few_of_class class k known lt = grind (arith, class_words_within, cell_ends, mul-le)

pub few_cells : (word k : ℕ) → k < cells_under (header_of word) → k < 32
few_cells word k lt = by (header_of word) refl lt
  where
    by : (h : Option Header) → header_of word ≡ h → k < cells_under h → k < 32
    by (Some h) is lt = grind (arith, word_of-header_of, few_of_class)
    by None is lt = absurd (omega arith)
