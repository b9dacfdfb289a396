-- The pieces of a line, found from left to right.
use Rattle.std.proofs.{lemmas.List.{at_drop_more, drop_all, take_more}, Common.{drop-drop, nat_eq}}
use Rattle.std.specs.{Cmp.Lexicographic.pointwise, List.{onto_first, starts_with}}
use Rattle.mk_laws.proofs.Vocabulary.{Bool, List, ℕ, ap, append-nil, append_assoc, arith, drop, false, get_or}
use Rattle.mk_laws.proofs.Vocabulary.{if◌then◌else◌, length, sym, take, true, [], ◌&&◌, ◌++◌, ◌+◌, ◌-◌, ◌<◌, ◌==◌, ◌∙◌}
use Rattle.mk_laws.proofs.Vocabulary.{◌∷◌, ◌≡◌, ◌≤◌}
use Rattle.mk_replay.proofs.Vocabulary.{length-drop, nat_tests, take_all}
use Rattle.mk_replay.specs.Schedules.{IsEndOfPiece, pieces_of}

-- a text in front of the first piece
abbrev pub glue : List ℕ → List (List ℕ) → List (List ℕ)
glue text [] = text ∷ []
glue text (piece ∷ pieces) = (text ++ piece) ∷ pieces

glue_nothing : (is_cut : Bool) (byte : ℕ) (cut uncut : List (List ℕ))
    → glue [] (if is_cut then [] ∷ cut else onto_first byte uncut)
    ≡ (if is_cut then [] ∷ cut else onto_first byte uncut)
glue_nothing x0 byte cut uncut = grind (arith, uncut)

pub glue_first : (text : List ℕ) → pieces_of text ≡ glue [] (pieces_of text)
unfolding pieces_of
glue_first x0 = grind (arith, glue_nothing)

-- whether a cut begins at the head
abbrev pub is_cut : List ℕ → Bool
is_cut [] = false
is_cut (byte ∷ []) = false
is_cut (byte ∷ next ∷ rest) = (byte == 59) && (next == 32)

uncut : (byte : ℕ) (rest : List ℕ) → is_cut (byte ∷ rest) ≡ false
    → pieces_of (byte ∷ rest) ≡ onto_first byte (pieces_of rest)
unfolding pieces_of
uncut byte x1 is = grind arith

cut : (text : List ℕ) → is_cut text ≡ true → pieces_of text ≡ [] ∷ pieces_of (drop 2 text)
unfolding pieces_of
cut x0 is = grind arith

-- one byte further
pub goes_on : (text : List ℕ) (i : ℕ) → i < length text → is_cut (drop i text) ≡ false → pieces_of text ≡ glue
    (take i text) (pieces_of (drop i text)) → pieces_of text ≡ glue (take (i + 1) text) (pieces_of (drop (i + 1) text))
goes_on text i inside is so_far =
    let here : is_cut (get_or text i 0 ∷ drop (i + 1) text) ≡ false = sym (at_drop_more is_cut text i 0 inside) ∙ is in
    so_far ∙ ap (glue (take i text)) (at_drop_more pieces_of text i 0 inside ∙ uncut (get_or text i 0)
    (drop (i + 1) text) here) ∙ (grind (arith, append_assoc))
    ∙ ap (λ front. glue front (pieces_of (drop (i + 1) text))) (sym (take_more text i 0 inside))

long : (text : List ℕ) → is_cut text ≡ true → 2 ≤ length text
long x0 is = grind arith

-- the end of a piece
pub ends : (text : List ℕ) (i : ℕ) → i < length text → is_cut (drop i text) ≡ true
    → pieces_of text ≡ glue (take i text) (pieces_of (drop i text)) → IsEndOfPiece text i
ends text i inside is so_far = record {
  inside = omega (arith, long (drop i text) is, length-drop i text);
  pieces =
      so_far ∙ ap (glue (take i text)) (cut (drop i text) is)
      ∙ ap (λ front. front ∷ pieces_of (drop 2 (drop i text))) (append-nil (take i text))
      ∙ ap (λ rest. take i text ∷ pieces_of rest) (drop-drop 2 i text);
}

-- a line with no cut
pub no_end : (text : List ℕ) (i : ℕ) → length text ≤ i → pieces_of text ≡ glue (take i text) (pieces_of (drop i text))
    → pieces_of text ≡ text ∷ []
unfolding pieces_of
no_end text i whole so_far =
    so_far ∙ ap (λ rest. glue (take i text) (pieces_of rest)) (drop_all i text whole)
    ∙ ap (λ front. front ∷ []) (append-nil (take i text) ∙ take_all i text whole)

-- the test for a cut
compared : (text : List ℕ) → is_cut text ≡ pointwise nat_eq (59 ∷ 32 ∷ []) (take 2 text)
compared x0 = grind (arith, nat_tests)

pub tested : (text needle : List ℕ) (i : ℕ) (result : Bool) → needle ≡ 59 ∷ 32 ∷ []
    → result ≡ starts_with nat_eq (take (length text - i) (drop i text)) needle → is_cut (drop i text) ≡ result
tested text needle i result needle_is is =
    compared (drop i text) ∙ sym (is ∙ ap (starts_with nat_eq (take (length text - i) (drop i text))) needle_is
    ∙ ap (λ rest. starts_with nat_eq rest (59 ∷ 32 ∷ []))
    (take_all (length text - i) (drop i text) (omega (arith, length-drop i text))))
