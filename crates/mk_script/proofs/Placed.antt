-- Lines in their places.
use Rattle.std.proofs.Math.Bool.{and-false}
use Rattle.mk_script.proofs.Vocabulary.{Bool, Err, Item, Keyword, LineFault, List, Ok, Result, Some, ℕ, are_fields}
use Rattle.mk_script.proofs.Vocabulary.{arith, false, fields_of, has_word_count, have_form, if◌then◌else◌, is_placed}
use Rattle.mk_script.proofs.Vocabulary.{item_from, le-leb, length, name, refl, true, ◌&&◌, ◌<◌, ◌>>=◌, ◌∷◌, ◌≡◌, ◌≢◌}
use Rattle.mk_script.proofs.Layouts.{have_form-plain, layout_says}
use Rattle.mk_script.specs.{Lines.placed_item, declared.faults.LineFault.TheVariants.Text}
use Rattle.mk_script.specs.{declared.faults.TextKind.TheVariants.Word, declared.keywords.Keyword.TheVariants.TypeLine}

-- a line that isn't a type's and stands in its place
pub placed_plain : (before : List Item) (keyword : Keyword) (words : List (List ℕ)) → keyword ≢ TypeLine
    → is_placed before keyword ≡ true → placed_item before (Some keyword) words ≡ item_from keyword words
placed_plain before keyword words other placed = grind (arith, have_form-plain, layout_says)

refused : (counts formed placed : Bool) (found : Result Item LineFault) → placed ≡ false
    → (if counts && formed && placed then found else Err (Text Word)) ≡ Err (Text Word)
refused counts formed placed found is = rw (is, and-false) refl

pub unplaced : (before : List Item) (keyword : Keyword) (words : List (List ℕ)) → is_placed before keyword ≡ false
    → placed_item before (Some keyword) words ≡ Err (Text Word)
unplaced before keyword words = refused (has_word_count keyword (length words)) (have_form keyword words)
    (is_placed before keyword) (item_from keyword words)

formed_and_placed : (counts formed placed : Bool) (found : Result Item LineFault) → counts ≡ true → formed ≡ true
    → placed ≡ true → (if counts && formed && placed then found else Err (Text Word)) ≡ found
formed_and_placed counts formed placed found is is' is'' = rw (is, is', is'') refl

-- a type's line in its place, with a field or more
pub placed_type : (before : List Item) (word : List ℕ) (fields : List (List ℕ)) → 0 < length fields
    → is_placed before TypeLine ≡ true → are_fields fields ≡ true
    → placed_item before (Some TypeLine) (word ∷ fields) ≡ item_from TypeLine (word ∷ fields)
placed_type before word fields some placed formed = grind (arith, le-leb, formed_and_placed)

-- what the name of a type's line says
pub named_type : (word : List ℕ) (fields : List (List ℕ))
    → item_from TypeLine (word ∷ fields) ≡ (name word >>= (λ t. Ok (Item.TypeLine t (fields_of fields))))
unfolding item_from
named_type word fields = refl
