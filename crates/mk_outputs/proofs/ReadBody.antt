-- The lines of a script after its name line are read.
use Rattle.std.proofs.{Common.{length-append, nat_eq, not, ◌&&◌}, lemmas.{Fmt.length-decimal-le, Bool.not-true}}
use Rattle.std.{proofs.{lemmas.List.Elements.All-weaker, lemmas.List.Sums.AllPass-from_list_all}, specs.List.{list_all}}
use Rattle.mk_outputs.proofs.Vocabulary.{Bool, Item, List, Ok, Script, ℕ, and_parts, ap, append-nil, arith, body_lines}
use Rattle.mk_outputs.proofs.Vocabulary.{checked_item, codes, decimal, false, leb-true, length, line_item, nat_le, refl}
use Rattle.mk_outputs.proofs.Vocabulary.{script_body, sym, true, words_of_line, [], ◌++◌, ◌<◌, ◌^◌, ◌and◌, ◌∷◌, ◌≡◌}
use Rattle.mk_outputs.proofs.{Vocabulary.◌≤◌, ReadLines.{AreRead, IsRead}}
use Rattle.mk_script.proofs.LineWords.{AreWords, is_word-decimal, without_newline, words_of-joined}
use Rattle.mk_script.{proofs.PrintedForms.{read_number}, specs.{Operands.item_from, Canonical.joined_words}}

-- at most 40 bytes, without a newline
abbrev pub is_plain : List ℕ → Bool
is_plain line = list_all (λ byte. not (nat_eq byte 10)) line && nat_le (length line) 40

-- a line of which all is known
pub plain : {before : List Item} {line : List ℕ} {item : Item} → line_item before (words_of_line line) ≡ Ok item
    → checked_item before item ≡ Ok item → is_plain line ≡ true → IsRead before line item
plain {before} {line} {item} says passes whole =
    let parts = and_parts _ _ whole in
    let each = AllPass-from_list_all (λ byte. not (nat_eq byte 10)) line parts.0 in
    record {
      says = says;
      passes = passes;
      is_whole = All-weaker (λ byte. not (nat_eq byte 10) ≡ true) (λ byte. nat_eq byte 10 ≡ false)
          (λ byte. not-true (nat_eq byte 10)) line each;
      is_short = leb-true _ _ parts.1;
    }

-- a line by its words
pub by_words : {before : List Item} {line : List ℕ} {item : Item} (words : List (List ℕ)) → line ≡ joined_words words
    → AreWords words
    → line_item before words ≡ Ok item → checked_item before item ≡ Ok item → length line ≤ 40 → IsRead before line item
by_words {before} {line} {item} words is apart says passes short = grind (arith, words_of-joined, without_newline)

pub length-decimal : (n : ℕ) → n < 2 ^ 64 → length (decimal n) ≤ 20
length-decimal n small = length-decimal-le 20 n (omega arith) (omega arith) small

ends_with : (front digits : List ℕ) → front ++ digits ≡ front ++ (digits ++ [])
ends_with front digits = ap (λ text. front ++ text) (sym (append-nil digits))

pub body_is_read : (turns number place : ℕ) → turns < 2 ^ 64 → number < 2 ^ 64 → place < 2 ^ 64
    → AreRead (Script [] ∷ []) (body_lines turns number place) (script_body turns number place)
unfolding item_from
body_is_read turns number place t a i =
    plain refl refl refl and plain refl refl refl and plain refl refl refl and plain refl refl refl and plain refl refl
    refl and by_words (codes "repeat" ∷ decimal turns ∷ []) (ends_with (codes "repeat ") (decimal turns))
    (refl, (is_word-decimal turns t, tt)) (read_number turns t _ refl) refl (omega (arith, length-decimal turns t)) and
    plain refl refl refl and by_words (codes "const" ∷ codes "n" ∷ decimal number ∷ []) (ends_with (codes "const n ") _)
    (refl, (refl, (is_word-decimal number a, tt))) (read_number number a _ refl) refl
    (omega (arith, length-decimal number a)) and plain refl refl refl and plain refl refl refl and plain refl refl refl
    and plain refl refl refl and plain refl refl refl and plain refl refl refl and by_words (codes "setn" ∷ codes "b" ∷
    decimal place ∷ codes "n" ∷ []) refl (refl, (refl, (is_word-decimal place i, (refl, tt)))) (read_number place i _
    refl) refl (omega (arith, length-decimal place i, length-append (decimal place) (codes " n"))) and plain refl refl
    refl and plain refl refl refl and plain refl refl refl and plain refl refl refl and plain refl refl refl and tt
