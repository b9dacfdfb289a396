-- The bytes before a line of a text: their lines are those before it.
use Rattle.std.proofs.lemmas.List.Splits.{length-slice_split, slice_split_at, slice_split_none}
use Rattle.std.proofs.lemmas.List.Sums.{fails_before_first, passes_at_first, split_at_first}
use Rattle.std.{proofs.lemmas.Grind.{common_steps}, specs.List.{All, after_first, before_first, position_or_len}}
use Rattle.mk_replay.proofs.Vocabulary.{length-append, text_length}
use Rattle.mk_laws.proofs.Vocabulary.{Bool, List, ℕ, ap, arith, cases_lt, false, get_or, if◌then◌else◌, inl, inr}
use Rattle.mk_laws.proofs.Vocabulary.{length, refl, subst, suc, sym, take, true, zero, [], ◌++◌, ◌+◌, ◌<◌, ◌==◌, ◌∙◌}
use Rattle.mk_laws.proofs.Vocabulary.{◌∷◌, ◌≡◌, ◌≤◌}
use Rattle.mk_script.specs.Grammar.{lines_of, without_empty_last}

abbrev is_newline : ℕ → Bool
is_newline byte = byte == 10

-- The lines of a text's first bytes, where each of them has its newline.
pub record IsCut (text : List ℕ) (before : List (List ℕ)) : Type 0 where
  pub within : text_length before ≤ length text
  pub lines : lines_of (take (text_length before) text) ≡ before

behind_first : (piece : List ℕ) (pieces : List (List ℕ)) → 0 < length pieces
    → without_empty_last (piece ∷ pieces) ≡ piece ∷ without_empty_last pieces
behind_first piece x1 some = grind arith

-- the lines of a text that begins with a line and its newline
lines_of_line : (line : List ℕ) (newline : ℕ) (text : List ℕ) → All (λ byte. is_newline byte ≡ false) line
    → is_newline newline ≡ true → lines_of (line ++ newline ∷ text) ≡ line ∷ lines_of text
lines_of_line line newline text without is = grind (arith, slice_split_at, is_newline, behind_first, length-slice_split)

-- the first line of a text that has a newline
record BeginsWith (text : List ℕ) : Type 0 where
  line : List ℕ
  newline : ℕ
  rest : List ℕ
  whole : text ≡ line ++ newline ∷ rest
  without : All (λ byte. is_newline byte ≡ false) line
  is_newline : newline == 10 ≡ true

take_line : (line : List ℕ) (newline : ℕ) (text : List ℕ) (size : ℕ)
    → take (length line + 1 + size) (line ++ newline ∷ text) ≡ line ++ newline ∷ take size text
take_line [] newline text size = grind arith
take_line (byte ∷ line) newline text size =
    let one_more : length (byte ∷ line) + 1 + size ≡ suc (length line + 1 + size) = omega arith in
    ap (λ n. take n (byte ∷ (line ++ newline ∷ text))) one_more
    ∙ ap (λ rest. byte ∷ rest) (take_line line newline text size)

cut : (line : List ℕ) (newline : ℕ) {text : List ℕ} {before : List (List ℕ)} → All (λ byte. is_newline byte ≡ false)
    line → is_newline newline ≡ true → IsCut text before → IsCut (line ++ newline ∷ text) (line ∷ before)
cut line newline {text = text} {before = before} without is inner = record {
  within = omega (arith, inner.within, length-append line (newline ∷ text));
  lines =
      ap lines_of (take_line line newline text (text_length before))
      ∙ lines_of_line line newline (take (text_length before) text) without is ∙ ap (λ rest. line ∷ rest) inner.lines;
}

at_most_one : (is_empty : Bool) (line : List ℕ) → length (if is_empty then [] else line ∷ []) ≤ 1
at_most_one x0 line = grind arith

pub lines_before : (place : ℕ) (text : List ℕ) → place < length (lines_of text)
    → IsCut text (take place (lines_of text))
lines_before zero text inside = record { within = omega arith; lines = refl }
lines_before (suc place) text inside = elim (cases_lt (position_or_len is_newline text) (length text)) [
  | inl some ↦
      let first : BeginsWith text = record {
        line = before_first is_newline text;
        newline = get_or text (position_or_len
            is_newline text) 0;
        rest = after_first is_newline text;
        whole = split_at_first is_newline text 0 some;
        without
            = λ k d m. let fails = fails_before_first is_newline text k d (grind (arith, common_steps)) in grind
            (arith, common_steps);
        is_newline = passes_at_first is_newline text 0 some;
      } in
      let lines : lines_of text ≡ first.line ∷ lines_of first.rest = ap lines_of first.whole
      ∙ lines_of_line first.line first.newline first.rest first.without first.is_newline in
      let inside' : place < length (lines_of first.rest) = omega (arith, ap length lines) in
      let whole = cut first.line first.newline first.without first.is_newline (lines_before place first.rest inside') in
      subst (λ ls. IsCut text (take (suc place) ls)) (sym lines)
      (subst (λ t. IsCut t (first.line ∷ take place (lines_of first.rest))) (sym first.whole) whole)
  | inr none ↦ let few : length (lines_of text) ≤ 1 = grind
      (arith, is_newline, fails_before_first, slice_split_none, at_most_one) in absurd (omega arith)
]
