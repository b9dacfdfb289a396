-- Tables of types and globals, as lines are read.
use Rattle.mk_check.proofs.Vocabulary.{Item, List, ℕ, ap, arith, drop, drop_more, get_or, global_names, globals_among}
use Rattle.mk_check.proofs.Vocabulary.{kinds_among, length, length-append, sym, type_names, ◌++◌, ◌+◌, ◌<◌, ◌∙◌}
use Rattle.mk_check.proofs.Vocabulary.{◌∷◌, ◌≡◌}
use Rattle.mk_check.proofs.DeclaredPlaces.{length-declared, type_named, word_named}
use Rattle.mk_check.specs.Declarations.{declared_type, declared_words}
use Rattle.mk_script.specs.{declared.items.Item.TheVariants.Global, declared.sorts.Sort.Sort}

pub length-globals_among : (types : List (List ℕ)) (items : List Item)
    → length (globals_among types items) ≡ length (global_names items)
length-globals_among types items = length-declared Sort.Global declared_type type_named _ items

pub length-kinds_among : (types : List (List ℕ)) (items : List Item)
    → length (kinds_among types items) ≡ length (type_names items)
length-kinds_among types items = length-declared Sort.Type declared_words word_named _ items

-- a table of globals has room for one more line's
pub room_left : (types : List (List ℕ)) (done : List ℕ) (items : List Item) (i : ℕ) (item : Item) → i < length items
    → item ≡ get_or items i item → {name ty : List ℕ} → item ≡ Global name ty
    → done ++ globals_among types (drop i items) ≡ globals_among types items → length done < length (global_names items)
room_left types done items i item within read {name} {ty} is whole =
    let rest : drop i items ≡ Global name ty ∷ drop (i + 1) items =
    drop_more items i item within ∙ ap (λ first. first ∷ drop (i + 1) items) (sym read ∙ is) in
    let size : length done + length (globals_among types (drop i items)) ≡ length (globals_among types items) =
    sym (length-append done _) ∙ ap length whole in
    omega (arith, size, ap (λ xs. length (globals_among types xs)) rest, length-globals_among types items)
