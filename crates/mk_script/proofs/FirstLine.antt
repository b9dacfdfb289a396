-- The lines of a text: its first, and those after it.
use Rattle.std.proofs.Common.{length-drop}
use Rattle.std.proofs.lemmas.List.{drop_all, Splits.{length-slice_split, slice_split_first, slice_split_none}}
use Rattle.std.proofs.lemmas.List.Sums.{fails_before_first}
use Rattle.std.specs.List.{slice_split}
use Rattle.mk_script.proofs.Vocabulary.{Err, Item, List, ℕ, ap, arith, at_end, drop, false, items_behind}
use Rattle.mk_script.proofs.Vocabulary.{items_of_lines, length, lines_of, nat_tests, refl, sym, take}
use Rattle.mk_script.proofs.Vocabulary.{take_all, true, without_empty_last, [], ◌+◌, ◌-◌, ◌<◌}
use Rattle.mk_script.proofs.Vocabulary.{◌==◌, ◌∙◌, ◌∷◌, ◌≡◌, ◌≤◌}
use Rattle.mk_script.specs.{Grammar.{first_line, later_lines, newline_or_end}, declared.faults.TextKind.TextKind}
use Rattle.mk_script.specs.declared.faults.TextStop.{TextStop}

keeps_first : (x : List ℕ) (ys : List (List ℕ)) → 0 < length ys
    → without_empty_last (x ∷ ys) ≡ x ∷ without_empty_last ys
keeps_first x [] some = absurd (omega arith)
keeps_first x (y ∷ more) some = refl

one_line : (text : List ℕ) → 0 < length text → without_empty_last (text ∷ []) ≡ text ∷ []
one_line [] some = absurd (omega arith)
one_line (byte ∷ text) some = grind (arith, nat_tests)

-- a text whose first line has a newline
with_newline : (text : List ℕ) → newline_or_end text < length text
    → lines_of text ≡ first_line text ∷ lines_of (later_lines text)
with_newline text inside = ap without_empty_last (slice_split_first (λ byte. byte == 10) text 0 inside)
    ∙ keeps_first (first_line text) (slice_split (λ byte. byte == 10) (later_lines text))
    (omega (arith, length-slice_split (λ byte. byte == 10) (later_lines text)))

-- a text that has none
without_one : (text : List ℕ) → 0 < length text → length text ≤ newline_or_end text
    → lines_of text ≡ first_line text ∷ lines_of (later_lines text)
without_one text some none =
    let whole : first_line text ≡ text = take_all (newline_or_end text) text none in
    let rest : later_lines text ≡ [] = drop_all (newline_or_end text + 1) text (omega arith) in
    ap without_empty_last (slice_split_none (λ byte. byte == 10) text
    (λ k d below. fails_before_first (λ byte. byte == 10) text k d (omega arith))) ∙ one_line text some
    ∙ ap (λ (line : List ℕ). line ∷ []) (sym whole)
    ∙ ap (λ (later : List ℕ). first_line text ∷ lines_of later) (sym rest)

-- the lines of a text that has a byte
pub first_and_later : (text : List ℕ) → 0 < length text
    → lines_of text ≡ first_line text ∷ lines_of (later_lines text)
first_and_later text some = grind (arith, with_newline, without_one)

-- the slice after the first line
pub later_is : (text : List ℕ) (end : ℕ) → end ≡ newline_or_end text → end < length text
    → take (length text - (end + 1)) (drop (end + 1) text) ≡ later_lines text
later_is text end is inside =
    take_all (length text - (end + 1)) (drop (end + 1) text) (omega (arith, length-drop (end + 1) text))
    ∙ ap (λ n. drop (n + 1) text) is

pub none_later : (text : List ℕ) (end : ℕ) → end ≡ newline_or_end text → length text ≤ end → [] ≡ later_lines text
none_later text end is past = sym (drop_all (newline_or_end text + 1) text (omega arith))

pub shorter : (text : List ℕ) → 0 < length text → length (later_lines text) < length text
shorter text some = omega (arith, length-drop (newline_or_end text + 1) text)

pub some_byte : (text : List ℕ) → (length text == 0) ≡ false → 0 < length text
some_byte text some = grind (arith, nat_tests)

pub no_line : (text : List ℕ) → (length text == 0) ≡ true
    → items_of_lines (lines_of text) ≡ Err (TextStop.Text 1 TextKind.Header)
no_line [] empty = refl
no_line (byte ∷ text) empty = absurd (grind (arith, nat_tests))

-- what the end of a text finds
pub no_more : (text : List ℕ) (before : List Item) → (length text == 0) ≡ true
    → items_behind (lines_of text) before ≡ at_end before
no_more [] before empty = refl
no_more (byte ∷ text) before empty = absurd (grind (arith, nat_tests))

-- a text that has a byte has a line
pub from_first : (text : List ℕ) → 0 < length text → items_of_lines (lines_of text) ≡ items_behind (lines_of text) []
from_first text some = ap items_of_lines (first_and_later text some)
    ∙ sym (ap (λ (lines : List (List ℕ)). items_behind lines []) (first_and_later text some))
