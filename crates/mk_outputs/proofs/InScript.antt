-- The lines of a script are read by what stands after its first line alone.
use Rattle.std.{proofs.{lemmas.Bool.or_right, lemmas.List.Folds.list_any-append}, specs.List.{list_all}}
use Rattle.mk_outputs.proofs.Vocabulary.{Bool, Item, List, None, Option, Script, Some, ℕ, and_parts, arith, false}
use Rattle.mk_outputs.proofs.Vocabulary.{false≢true, line_item, refl, sym, this_script, this_script-push, true, []}
use Rattle.mk_outputs.proofs.{Vocabulary.{◌++◌, ◌+◌, ◌∙◌, ◌∷◌, ◌≡◌}, ReadLines.{AreRead, IsRead}}
use Rattle.mk_script.{proofs.Pushed.{open_blocks-push}, specs.declared.keywords.Keyword.{Keyword}}
use Rattle.mk_script.specs.{declared.items.Item.TheVariants.{Global, TypeLine}, Keywords.keyword_of}
use Rattle.mk_script.specs.{Lines.{has_script, is_twice, other_line, placed_item}, Scopes.{is_script, open_blocks}}

-- the same script is open after both, at the same line and with the same open blocks
pub record AreAlike (a b : List Item) : Type 0 where
  pub script : has_script a ≡ true
  pub script' : has_script b ≡ true
  pub lines : this_script a ≡ this_script b
  pub blocks : open_blocks a ≡ open_blocks b

-- neither a type, a global nor the first line of a script
abbrev pub is_inside : Item → Bool
is_inside (TypeLine name words) = false
is_inside (Global name ty) = false
is_inside (Script name) = false
is_inside item = true

pub alike_push : {a b : List Item} (item : Item) → AreAlike a b → AreAlike (a ++ item ∷ []) (b ++ item ∷ [])
alike_push {a} {b} item alike = grind (arith, this_script-push, open_blocks-push, list_any-append)

-- after the first line of a script nothing else counts
pub alike_at_first : (before : List Item) (name : List ℕ) → AreAlike (Script [] ∷ []) (before ++ Script name ∷ [])
alike_at_first before name = record {
  script = refl;
  script' = list_any-append is_script before (Script name ∷ []) ∙ or_right _ _ refl;
  lines = sym (this_script-push before (Script name));
  blocks = sym (open_blocks-push before (Script name));
}

other_line_of : (before : List Item) (words : List (List ℕ)) → has_script before ≡ true
    → line_item before words ≡ other_line before words
other_line_of [] words has = absurd (false≢true has)
other_line_of (first ∷ before) words has = refl

module _ {a b : List Item} (alike : AreAlike a b) where
  form_alike : (form : Option Keyword) (operands : List (List ℕ))
      → placed_item a form operands ≡ placed_item b form operands
  form_alike None operands = refl
  form_alike (Some form) operands = grind arith

  other_alike : (words : List (List ℕ)) → other_line a words ≡ other_line b words
  other_alike [] = refl
  other_alike (word ∷ operands) = form_alike (keyword_of word) operands

  twice_alike : (item : Item) → is_inside item ≡ true → is_twice a item ≡ is_twice b item
  twice_alike item inside = grind arith

  pub read_alike : {line : List ℕ} {item : Item} → is_inside item ≡ true → IsRead a line item → IsRead b line item
  read_alike {line} {item} inside is = grind (arith, other_line_of, other_alike, twice_alike)

pub AreRead-alike : (lines : List (List ℕ)) (items : List Item) {a b : List Item} → AreAlike a b
    → list_all is_inside items ≡ true → AreRead a lines items → AreRead b lines items
AreRead-alike [] [] alike inside are = tt
AreRead-alike [] (item ∷ items) alike inside are = absurd are
AreRead-alike (line ∷ lines) [] alike inside are = absurd are
AreRead-alike (line ∷ lines) (item ∷ items) {a} {b} alike inside are =
    let each = and_parts _ _ inside in (
      read_alike alike each.0 are.0,
      AreRead-alike lines items (alike_push item alike) each.1 are.1,
    )
