-- The generated program is well typed.
use Rattle.mk_outputs.proofs.Vocabulary.{Item, List, None, Number, Script, ℕ, all_names, arith, count_of_numbers}
use Rattle.mk_outputs.proofs.Vocabulary.{declarations, draw, le-leb, next_state, refl, replicate, script_body, scripts}
use Rattle.mk_outputs.proofs.Vocabulary.{suc, this_script, this_script-push, turns_of, zero, [], ◌++◌, ◌+◌, ◌<◌, ◌∷◌}
use Rattle.mk_outputs.proofs.{Vocabulary.{◌≡◌, ◌≤◌}, ReadScripts.draw-lt, ReadText.numbers_some}
use Rattle.mk_outputs.proofs.{TypedBody.body_is_typed, TypedLines.{go_on, typed_then}}
use Rattle.mk_outputs.specs.Generated.{generated_program}
use Rattle.mk_check.specs.{Blocks.before_next_script, Typing.Around, Typing.IsWellTyped, Typing.fault_from}
use Rattle.mk_check.specs.Typing.{◌or◌, inside_fault, length_fault, type_fault, typing_fault, words_fault}
use Rattle.mk_check.specs.declared.typing_faults.TypeKind.{TypeKind}
use Rattle.mk_script.specs.declared.items.{At.At}
use Rattle.std.specs.Prelude.{Option, Some}

none_before_scripts : (turns numbers x : ℕ) (names : List (List ℕ))
    → before_next_script (scripts turns numbers x names) ≡ []
none_before_scripts turns numbers x [] = refl
none_before_scripts turns numbers x (name ∷ names) = refl

length_fault-none : (count : ℕ) → count ≤ 1000000 → length_fault count ≡ None
length_fault-none count small = rw (le-leb count 1000000 small) refl

-- the first line of a script
first_is_typed : (a : Around) (line turns number place : ℕ) (more : List Item) (name : List ℕ) → turns ≤ 62500
    → before_next_script more ≡ [] → typing_fault a line (script_body turns number place ++ more) (Script name) ≡ None
first_is_typed a line turns number place more name few none = grind (arith, length_fault-none)

module _ (turns numbers : ℕ) (rest : List Item) (few : turns ≤ 62500) (some : 0 < numbers) where
  program : List Item
  program = declarations numbers ++ rest

  scripts_are_typed : (names : List (List ℕ)) (x line : ℕ) (before : List Item)
      → fault_from program line before (scripts turns numbers x names) ≡ None
  unfolding program
  scripts_are_typed [] x line before = refl
  scripts_are_typed (name ∷ names) x line before =
      let number = draw (next_state x) 1000 in
      let behind = next_state (next_state x) in
      let place = draw behind numbers in
      let more = scripts turns numbers behind names in
      let around : Around = record { program = program; script = this_script before } in
      go_on line _ _ (first_is_typed around line turns number place more name few
      (none_before_scripts turns numbers behind names)) (typed_then program [] (before ++ Script name ∷ [])
      (script_body turns number place) more (line + 1) (this_script-push before (Script name))
      (body_is_typed numbers turns number place rest (draw-lt behind numbers some))
      (λ later. scripts_are_typed names behind later ((before ++ Script name ∷ []) ++ script_body turns number place)))

no_numbers_fault : (fault : At → Option TypeKind) (count : ℕ) → words_fault fault (replicate count Number) ≡ None
no_numbers_fault fault zero = refl
no_numbers_fault fault (suc more) = no_numbers_fault fault more

-- a type of numbers alone
numbers_are_typed : (a : Around) (count : ℕ) → words_fault (λ at. type_fault a at.name) (replicate count Number)
    or words_fault (λ at. inside_fault a (Some at)) (replicate count Number) ≡ None
numbers_are_typed a count =
    rw (no_numbers_fault (λ at. type_fault a at.name) count, no_numbers_fault (λ at. inside_fault a (Some at)) count)
    refl

declarations_are_typed : (numbers : ℕ) (rest : List Item) → fault_from (declarations numbers ++ rest) 5
    (declarations numbers) rest ≡ None → IsWellTyped (declarations numbers ++ rest)
declarations_are_typed numbers rest none =
    let around : Around = record { program = declarations numbers ++ rest; script = [] } in
    go_on 3 _ _ (numbers_are_typed around numbers) none

pub generated_is_well_typed : (start count : ℕ) → count ≤ 3000000 → IsWellTyped (generated_program start count)
unfolding generated_program program
generated_is_well_typed start count most =
    let numbers = count_of_numbers start in
    let rest = scripts (turns_of count) numbers (next_state start) all_names in
    declarations_are_typed numbers rest (scripts_are_typed (turns_of count) numbers rest (omega (arith, most))
    (omega (arith, numbers_some start)) all_names (next_state start) 5 (declarations numbers))
