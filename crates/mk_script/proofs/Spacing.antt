-- Words with a space before each, and lines of them.
use Rattle.std.proofs.Common.{OnOk, add-one, drop-cons}
use Rattle.mk_script.proofs.Vocabulary.{At, List, Result, ℕ, ap, append-nil, append_assoc, arith, at_text, codes, drop}
use Rattle.mk_script.proofs.Vocabulary.{get_or, joined_words, length, refl, spaced_words, suc, sym, [], ◌++◌, ◌+◌, ◌<◌}
use Rattle.mk_script.{proofs.Vocabulary.{◌∙◌, ◌∷◌, ◌≡◌}, specs.Canonical.{line_text, numbers_before}}

pub spaced_words-append : (xs ys : List (List ℕ)) → spaced_words (xs ++ ys) ≡ spaced_words xs ++ spaced_words ys
spaced_words-append [] ys = refl
spaced_words-append (x ∷ xs) ys = ap (λ t. codes " " ++ (x ++ t)) (spaced_words-append xs ys) ∙ simp append_assoc

pub numbers_before-append : (count : ℕ) (fields : List (List ℕ))
    → numbers_before count fields ≡ numbers_before count [] ++ fields
numbers_before-append x0 fields = grind arith

-- a line is its words with spaces between them, and a newline
pub line_text-joined : (words : List (List ℕ)) → line_text words ≡ joined_words words ++ codes "\n"
line_text-joined [] = refl
line_text-joined (word ∷ []) = simp append-nil
line_text-joined (word ∷ next ∷ words) = ap (λ t. word ++ (codes " " ++ t)) (line_text-joined (next ∷ words))
    ∙ simp append_assoc

-- where a text is at hand, another form of it is
pub then_same : {A E : Type 0} (r : Result A E) (p x y : List ℕ) → OnOk r (p ≡ x) → x ≡ y → OnOk r (p ≡ y)
then_same x0 p x y e f = grind arith

-- what is left of a list begins with its next item
pub drop_next : {A : Type 0} (xs : List A) (i : ℕ) (x : A) → i < length xs → x ≡ get_or xs i x
    → drop i xs ≡ x ∷ drop (i + 1) xs
drop_next xs i x lt is = rw (add-one, drop-cons xs i x) (ap (λ y. y ∷ drop (suc i) xs) (sym is))

-- the numbers before a pointer, and the pointer
pub pointer_behind : (p q r s : List ℕ) (count : ℕ) (at : At) (fields : List (List ℕ))
    → q ≡ p ++ spaced_words (numbers_before count []) → r ≡ q ++ (codes " " ++ codes "p:") → s ≡ r ++ at_text at
    → p ++ spaced_words (numbers_before count ((codes "p:" ++ at_text at) ∷ fields)) ≡ s ++ spaced_words fields
pointer_behind p q r s count at fields e f g =
    rw (
      g,
      f,
      e,
      ap spaced_words (numbers_before-append count ((codes "p:" ++ at_text at) ∷ fields))
          ∙ spaced_words-append (numbers_before count []) ((codes "p:" ++ at_text at) ∷ fields),
    ) (simp append_assoc)
