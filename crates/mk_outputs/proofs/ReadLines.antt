-- A text is read as these items, where each line is, after those before it.
use Rattle.std.{proofs.Common.length-append, proofs.Common.nat_eq, proofs.Common.nat_lt, proofs.lemmas.Bool.cond-true}
use Rattle.std.{proofs.lemmas.List.Splits.slice_split_at, specs.List.All, specs.List.slice_split}
use Rattle.mk_outputs.proofs.Vocabulary.{Item, List, Ok, ℕ, ap, append-nil, append_assoc, arith, checked_item, false}
use Rattle.mk_outputs.proofs.Vocabulary.{le-leb, leb-true, length, line_item, nat_le, program_of, refl, subst, sym}
use Rattle.mk_outputs.proofs.Vocabulary.{text_of_lines, true, words_of_line, [], ◌*◌, ◌++◌, ◌+◌, ◌∙◌, ◌∷◌, ◌≡◌, ◌≤◌}
use Rattle.mk_script.proofs.{CanonicalLines.without_last, Said.then_again}
use Rattle.mk_script.specs.{Grammar.at_end, Grammar.go_on, Grammar.items_behind, Lines.line_of}

-- a line of at most 40 bytes, without a newline, which is read as the item
pub record IsRead (before : List Item) (line : List ℕ) (item : Item) : Type 0 where
  pub says : line_item before (words_of_line line) ≡ Ok item
  pub passes : checked_item before item ≡ Ok item
  pub is_whole : All (λ byte. nat_eq byte 10 ≡ false) line
  pub is_short : length line ≤ 40

abbrev pub AreRead : List Item → List (List ℕ) → List Item → Type 0
AreRead before [] [] = Unit {0}
AreRead before [] (item ∷ items) = ⊥
AreRead before (line ∷ lines) [] = ⊥
AreRead before (line ∷ lines) (item ∷ items) = IsRead before line item × AreRead (before ++ item ∷ []) lines items

-- lines after lines
pub AreRead-append : (lines more : List (List ℕ)) (before items behind : List Item) → AreRead before lines items
    → AreRead (before ++ items) more behind → AreRead before (lines ++ more) (items ++ behind)
AreRead-append [] more before [] behind are are' = subst (λ b. AreRead b more behind) (append-nil before) are'
AreRead-append [] more before (item ∷ items) behind are are' = absurd are
AreRead-append (line ∷ lines) more before [] behind are are' = absurd are
AreRead-append (line ∷ lines) more before (item ∷ items) behind are are' = (
  are.0,
  AreRead-append lines more (before ++ item ∷ []) items behind are.1
      (subst (λ b. AreRead b more behind) (sym (append_assoc before (item ∷ []) items)) are'),
)

split_lines : (lines : List (List ℕ)) (before items : List Item) → AreRead before lines items
    → slice_split (λ byte. nat_eq byte 10) (text_of_lines lines) ≡ lines ++ [] ∷ []
split_lines [] before items are = refl
split_lines (line ∷ lines) before [] are = absurd are
split_lines (line ∷ lines) before (item ∷ items) are =
    slice_split_at (λ byte. nat_eq byte 10) line 10 (text_of_lines lines) are.0.is_whole refl
    ∙ ap (λ rest. line ∷ rest) (split_lines lines (before ++ item ∷ []) items are.1)

length-text : (lines : List (List ℕ)) (before items : List Item) → AreRead before lines items
    → length (text_of_lines lines) ≤ 41 * length lines
length-text [] before items are = omega arith
length-text (line ∷ lines) before [] are = absurd are
length-text (line ∷ lines) before (item ∷ items) are =
    let behind = length-text lines (before ++ item ∷ []) items are.1 in
    omega (arith, length-append line (10 ∷ text_of_lines lines), are.0.is_short, behind)

is_line : {before : List Item} {line : List ℕ} {item : Item} → IsRead before line item
    → line_of before (words_of_line line) ≡ Ok item
is_line is = grind (arith, then_again)

items_are : (lines : List (List ℕ)) (before items : List Item) → AreRead before lines items
    → at_end (before ++ items) ≡ Ok (before ++ items) → items_behind lines before ≡ Ok (before ++ items)
items_are [] before [] are end = subst (λ b. at_end b ≡ Ok (before ++ [])) (append-nil before) end
items_are [] before (item ∷ items) are end = absurd are
items_are (line ∷ lines) before [] are end = absurd are
items_are (line ∷ lines) before (item ∷ items) are end =
    let same = append_assoc before (item ∷ []) items in
    ap (λ r. go_on (length before + 1) r (λ x. items_behind lines (before ++ x ∷ []))) (is_line are.0)
    ∙ items_are lines (before ++ item ∷ []) items are.1 (subst (λ b. at_end b ≡ Ok b) (sym same) end) ∙ ap Ok same

-- a text of 1 to 1,000 lines that are read
pub program_of-lines : (lines : List (List ℕ)) (items : List Item) → AreRead [] lines items → at_end items ≡ Ok items
    → nat_lt 0 (length lines) ≡ true → nat_le (length lines) 1000 ≡ true → program_of (text_of_lines lines) ≡ Ok items
program_of-lines x0 items are end some few =
    grind (arith, length-text, leb-true, cond-true, le-leb, items_are, split_lines, without_last)
