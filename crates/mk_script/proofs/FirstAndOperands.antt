-- The words of a line: the first, and the operands after it.
use Rattle.std.proofs.Common.{slice_index_or}
use Rattle.mk_script.proofs.Vocabulary.{Item, List, ℕ, ap, append_assoc, drop, joined_words, refl, spaced_words}
use Rattle.mk_script.proofs.Vocabulary.{words_of_item, [], ◌++◌, ◌∙◌, ◌≡◌}
use Rattle.mk_script.specs.declared.items.Item.TheVariants.{Else}

first_and_others : (item : Item)
    → slice_index_or (words_of_item item) 0 [] ++ spaced_words (drop 1 (words_of_item item))
    ≡ joined_words (words_of_item item)
first_and_others Else = refl
first_and_others _ = refl

-- so they are printed
pub first_and_operands : (text : List ℕ) (item : Item)
    → (text ++ slice_index_or (words_of_item item) 0 []) ++ spaced_words (drop 1 (words_of_item item))
    ≡ text ++ joined_words (words_of_item item)
first_and_operands text item =
    append_assoc text (slice_index_or (words_of_item item) 0 []) (spaced_words (drop 1 (words_of_item item)))
    ∙ ap (λ (t : List ℕ). text ++ t) (first_and_others item)
