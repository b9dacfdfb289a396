-- The lines of a canonical text are those of its items.
use Rattle.std.{proofs.lemmas.List.Splits.slice_split_at, specs.List.slice_split}
use Rattle.mk_script.proofs.Vocabulary.{Item, List, ℕ, ap, append_assoc, canonical_text, joined_words, lines_of, map}
use Rattle.mk_script.proofs.Vocabulary.{nat_eq, refl, without_empty_last, words_of_item, [], ◌++◌, ◌∙◌, ◌∷◌, ◌≡◌}
use Rattle.mk_script.proofs.{LineWords.AreWords, LineWords.without_newline, Spacing.line_text-joined}

-- the lines of items, without their newlines
abbrev pub lines_of_items : List Item → List (List ℕ)
lines_of_items items = map (λ item. joined_words (words_of_item item)) items

abbrev pub HaveWords : List Item → Type 0
HaveWords [] = Unit {0}
HaveWords (item ∷ items) = AreWords (words_of_item item) × HaveWords items

split_lines : (items : List Item) → HaveWords items
    → slice_split (λ byte. nat_eq byte 10) (canonical_text items) ≡ lines_of_items items ++ [] ∷ []
split_lines [] ws = refl
split_lines (item ∷ items) ws =
    let line = joined_words (words_of_item item) in
    let text : canonical_text (item ∷ items) ≡ line ++ 10 ∷ canonical_text items =
    rw (line_text-joined (words_of_item item)) (simp append_assoc) in
    ap (λ bytes. slice_split (λ byte. nat_eq byte 10) bytes) text
    ∙ slice_split_at (λ byte. nat_eq byte 10) line 10 (canonical_text items) (without_newline (words_of_item item) ws.0)
    refl ∙ ap (λ lines. line ∷ lines) (split_lines items ws.1)

pub without_last : (lines : List (List ℕ)) → without_empty_last (lines ++ [] ∷ []) ≡ lines
without_last [] = refl
without_last (line ∷ []) = refl
without_last (line ∷ next ∷ lines) = ap (λ rest. line ∷ rest) (without_last (next ∷ lines))

pub lines_of-canonical_text : (items : List Item) → HaveWords items
    → lines_of (canonical_text items) ≡ lines_of_items items
lines_of-canonical_text items ws = ap without_empty_last (split_lines items ws) ∙ without_last (lines_of_items items)
