-- What the generated programs are.
use Rattle.std.proofs.Common.{map}
use Rattle.mk_outputs.proofs.Vocabulary.{Item, List, Number, Ok, ℕ, ap, arith, blocks_from, count_of_numbers}
use Rattle.mk_outputs.proofs.Vocabulary.{generated_text, program_of, refl, replicate, script_body, suc, turns_of, zero}
use Rattle.mk_outputs.proofs.{Vocabulary.{[], ◌*◌, ◌∷◌, ◌≡◌, ◌≤◌}, Calls.{HasNoIf, calls_of, ended_calls}}
use Rattle.mk_outputs.proofs.{ReadText.program_of-generated_text, TypedProgram.generated_is_well_typed}
use Rattle.mk_outputs.specs.{Generated.{buf, generated_program, node}, Laws.{DeclaresNodes, MakesTurns}}
use Rattle.mk_never.specs.declared.types.Kind.TheVariants.{Num, To}
use Rattle.mk_check.specs.{Blocks.script_of, Declarations.kind_of, Laws.{IsChecked, IsScript}}

pub generated_is_of_its_text : (start count : ℕ) → count ≤ 3000000
    → program_of (generated_text start count) ≡ Ok (generated_program start count)
generated_is_of_its_text = program_of-generated_text

pub generated_is_checked : (start count : ℕ) → count ≤ 3000000 → IsChecked (generated_program start count)
generated_is_checked start count most = record {
  well_typed = generated_is_well_typed start count most;
  of_some_text = (generated_text start count, program_of-generated_text start count most);
}

kinds_of-numbers : (types : List (List ℕ)) (count : ℕ)
    → map (kind_of types) (replicate count Number) ≡ replicate count Num
kinds_of-numbers types zero = refl
kinds_of-numbers types (suc more) = ap (λ kinds. Num ∷ kinds) (kinds_of-numbers types more)

pub generated_declares_nodes : (start count : ℕ)
    → DeclaresNodes (generated_program start count) (count_of_numbers start)
unfolding generated_program
generated_declares_nodes start count = record {
  pages = refl;
  resident = refl;
  types = ap (λ kinds. (Num ∷ To 0 0 ∷ []) ∷ kinds ∷ []) (kinds_of-numbers (node ∷ buf ∷ []) (count_of_numbers start));
  globals = refl;
  scripts = refl;
}

body_calls : (line turns number place : ℕ) → calls_of (blocks_from line (script_body turns number place)) ≡ 12 * turns
body_calls line turns number place = omega arith

body_has_no_if : (line turns number place : ℕ) → HasNoIf (blocks_from line (script_body turns number place))
body_has_no_if line turns number place = (tt, tt)

-- a script of these lines
body_makes_turns : (program : List Item) (k line turns number place : ℕ) → (script_of program k).line ≡ line
    → (script_of program k).items ≡ script_body turns number place → MakesTurns program k turns
body_makes_turns program k line turns number place starts is =
    grind (arith, body_has_no_if, ended_calls, calls_of, body_calls)

pub generated_makes_turns : (start count k : ℕ) → IsScript (generated_program start count) k
    → MakesTurns (generated_program start count) k (turns_of count)
unfolding generated_program
generated_makes_turns start count zero is = body_makes_turns _ 0 6 (turns_of count) _ _ refl refl
generated_makes_turns start count (suc zero) is = body_makes_turns _ 1 27 (turns_of count) _ _ refl refl
generated_makes_turns start count (suc (suc zero)) is = body_makes_turns _ 2 48 (turns_of count) _ _ refl refl
generated_makes_turns start count (suc (suc (suc zero))) is = body_makes_turns _ 3 69 (turns_of count) _ _ refl refl
generated_makes_turns start count (suc (suc (suc (suc k)))) is = absurd (omega (arith, is))
