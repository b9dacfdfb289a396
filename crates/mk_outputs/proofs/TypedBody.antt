-- The lines of a script after its name line are well typed.
use Rattle.std.proofs.{lemmas.List.{get_or-replicate, length-replicate}, Common.slice_get, lemmas.Option.slice_get_read}
use Rattle.mk_outputs.proofs.Vocabulary.{Item, List, Some, ℕ, arith, declarations, replicate, script_body, sym, []}
use Rattle.mk_outputs.proofs.{Vocabulary.{◌++◌, ◌+◌, ◌<◌, ◌≡◌}, TypedLines.{AreTyped, typed}}

slice_get-replicate : {A : Type 0} (n i : ℕ) (x : A) → i < n → slice_get (replicate n x) i ≡ Some x
slice_get-replicate n i x inside =
    slice_get_read (replicate n x) n i x (sym (length-replicate n x)) inside (sym (get_or-replicate n i x x inside))

pub body_is_typed : (numbers turns number place : ℕ) (rest : List Item) → place < numbers
    → AreTyped (declarations numbers ++ rest) [] (script_body turns number place)
body_is_typed numbers turns number place rest inside = grind (arith, typed, slice_get-replicate)
