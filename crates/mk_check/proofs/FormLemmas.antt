-- A type has a word.
use Rattle.std.{proofs.Common.{leb-true, nat_le}, specs.List.{list_all}}
use Rattle.mk_check.proofs.Vocabulary.{Bool, Item, List, None, Ok, Option, Result, Some, TypeWord, ℕ, and_parts, ap}
use Rattle.mk_check.proofs.Vocabulary.{arith, false, false≢true, if◌then◌else◌, is_some, length, length-append, refl}
use Rattle.mk_check.proofs.Vocabulary.{replicate, suc, sym, true, unwrap_or, [], ◌&&◌, ◌∙◌, ◌∷◌, ◌≡◌, ◌≤◌}
use Rattle.mk_check.proofs.GrammarLemmas.{heap_line-item, passed_then}
use Rattle.mk_script.specs.Operands.{field_of, fields_of, have_form, item_from, name, number, number_field}
use Rattle.mk_script.specs.{Operands.{pointer_field, ◌>>=◌}, declared.keywords.Keyword.TheVariants.{Casp, TypeLine}}
use Rattle.mk_script.specs.{Keywords.has_word_count, Lines.{is_placed, line_item, placed_item}}
use Rattle.mk_script.specs.{declared.items.TypeWord.TheVariants.Number, declared.keywords.Keyword.Keyword}
use Rattle.mk_script.specs.{declared.faults.LineFault.LineFault, declared.items.Item.TheVariants.TypeLine as TypeItem}

-- The words of a field, where it has a form.

abbrev HasWord : Option (List TypeWord) → Type 0
HasWord words = is_some words ≡ true → 1 ≤ length (unwrap_or words [])

none-HasWord : HasWord None
none-HasWord some = absurd (false≢true some)

if-HasWord : (b : Bool) (words others : Option (List TypeWord)) → HasWord words → HasWord others
    → HasWord (if b then words else others)
if-HasWord x0 words others h k = grind arith

replicate-HasWord : (count : ℕ) (b : Bool) → b ≡ nat_le 1 count
    → HasWord (if b then Some (replicate count Number) else None)
replicate-HasWord count x1 h some = grind (arith, leb-true)

number_field-HasWord : (bytes : List ℕ) → HasWord (number_field bytes)
number_field-HasWord x0 = grind (arith, if-HasWord, none-HasWord, replicate-HasWord)

pointer_field-HasWord : (bytes : List ℕ) → HasWord (pointer_field bytes)
pointer_field-HasWord x0 = grind (arith, none-HasWord, if-HasWord)

field-HasWord : (field : List ℕ) → HasWord (field_of field)
field-HasWord x0 = grind (arith, none-HasWord, if-HasWord, number_field-HasWord, pointer_field-HasWord)

fields-word : (fields : List (List ℕ)) → nat_le 2 (suc (length fields)) ≡ true
    → list_all (λ field. is_some (field_of field)) fields ≡ true → 1 ≤ length (fields_of fields)
fields-word [] two forms = absurd (omega (arith, leb-true 2 1 two))
fields-word (field ∷ fields) two forms =
    omega (
      arith,
      field-HasWord field (and_parts (is_some (field_of field)) (list_all (λ f. is_some (field_of f)) fields) forms).0,
      length-append (unwrap_or (field_of field) []) (fields_of fields),
    )

-- Other forms are of no type.

abbrev is_type : Result Item LineFault → Bool
is_type (Ok (TypeItem name' words)) = true
is_type r = false

bind : {A : Type 0} (r : Result A LineFault) (f : A → Result Item LineFault) → ((x : A) → is_type (f x) ≡ false)
    → is_type (r >>= f) ≡ false
bind x0 f other = grind arith

abbrev is_type_form : Keyword → Bool
is_type_form TypeLine = true
is_type_form form = false

other_form : (form : Keyword) (operands : List (List ℕ)) → is_type_form form ≡ false
    → is_type (item_from form operands) ≡ false
unfolding item_from
other_form Casp (a ∷ b ∷ c ∷ d ∷ e ∷ []) other =
    bind _ _ (λ x. bind (name b) _ (λ y. bind (number c) _ (λ z. bind (name d) _ (λ v. bind (name e) _ (λ w. refl)))))
other_form form operands other = grind (arith, bind)

words_in : List TypeWord → Result Item LineFault → List TypeWord
words_in others (Ok (TypeItem name' words)) = words
words_in others r = others

type_from : (found : Result (List ℕ) LineFault) (fields : List (List ℕ)) (t : List ℕ) (words : List TypeWord)
    → (found >>= (λ t'. Ok (TypeItem t' (fields_of fields)))) ≡ Ok (TypeItem t words) → fields_of fields ≡ words
unfolding words_in
type_from x0 fields t words h = grind (arith, words_in)

form-word : (form : Keyword) (operands : List (List ℕ)) (t : List ℕ) (words : List TypeWord)
    → has_word_count form (length operands) ≡ true → have_form form operands ≡ true
    → item_from form operands ≡ Ok (TypeItem t words) → 1 ≤ length words
unfolding item_from
form-word TypeLine [] t words two forms h = cc
form-word TypeLine (first ∷ fields) t words two forms h = grind (arith, type_from, fields-word)
form-word form operands t words two forms h = absurd (false≢true (sym (other_form form operands refl) ∙ ap is_type h))

placed-word : (before : List Item) (form : Option Keyword) (operands : List (List ℕ)) (t : List ℕ)
    (words : List TypeWord) → placed_item before form operands ≡ Ok (TypeItem t words) → 1 ≤ length words
placed-word before None operands t words h = cc
placed-word before (Some form) operands t words h =
    let both = passed_then (has_word_count form (length operands) && have_form form operands && is_placed before form) _
    (item_from form operands) _ h in
    let fits = and_parts (has_word_count form (length operands) && have_form form operands) _ both.0 in
    let parts = and_parts (has_word_count form (length operands)) (have_form form operands) fits.0 in
    form-word form operands t words parts.0 parts.1 both.1

-- a type that a line says has a word
pub line_item-word : (before : List Item) (words : List (List ℕ)) (t : List ℕ) (kinds : List TypeWord)
    → line_item before words ≡ Ok (TypeItem t kinds) → 1 ≤ length kinds
line_item-word [] words t kinds h = let heap =
    heap_line-item words (TypeItem t kinds) h in absurd (false≢true (sym (ap (λ item. is_type (Ok item)) heap.is)))
line_item-word (first ∷ before) words t kinds h = grind (arith, placed-word)
