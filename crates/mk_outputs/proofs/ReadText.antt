-- The generated text is a text of the generated program.
use Rattle.mk_outputs.proofs.Vocabulary.{Item, List, Ok, ℕ, all_names, arith, count_of_numbers, declaration_lines}
use Rattle.mk_outputs.proofs.Vocabulary.{declarations, lines_of_scripts, next_state, program_of, refl, scripts}
use Rattle.mk_outputs.proofs.{Vocabulary.{turns_of, [], ◌++◌, ◌<◌, ◌^◌, ◌≡◌, ◌≤◌}, ReadLines.{AreRead, AreRead-append}}
use Rattle.mk_outputs.proofs.{ReadLines.program_of-lines, ReadDeclarations.declarations_are_read}
use Rattle.mk_outputs.proofs.ReadScripts.{draw-lt, scripts_are_read}
use Rattle.mk_outputs.specs.Generated.{generated_program, generated_text}
use Rattle.mk_script.specs.Grammar.{at_end}

pub numbers_some : (start : ℕ) → 1 ≤ count_of_numbers start
numbers_some start = omega arith

module _ (turns numbers x : ℕ) where
  lines : List (List ℕ)
  lines = declaration_lines numbers ++ lines_of_scripts turns numbers x all_names

  items : List Item
  items = declarations numbers ++ scripts turns numbers x all_names

  lines_are_read : turns < 2 ^ 64 → 1 ≤ numbers → numbers ≤ 100 → AreRead [] lines items
  unfolding lines items
  lines_are_read small some few =
      AreRead-append (declaration_lines numbers) (lines_of_scripts turns numbers x all_names) []
      (declarations numbers) (scripts turns numbers x all_names) (declarations_are_read numbers some few)
      (scripts_are_read turns numbers small (omega (arith, some)) few x all_names [] (declarations numbers)
      (record { some = refl; names_are = refl; closed = refl }) (refl, (refl, (refl, (refl, tt)))))

  -- no block is open after all lines, and there are scripts
  ends : at_end items ≡ Ok items
  unfolding items
  ends = refl

pub program_of-generated_text : (start count : ℕ) → count ≤ 3000000
    → program_of (generated_text start count) ≡ Ok (generated_program start count)
unfolding generated_program generated_text lines items
program_of-generated_text start count most =
    program_of-lines (lines (turns_of count) (count_of_numbers start) (next_state start))
    (generated_program start count) (lines_are_read (turns_of count) (count_of_numbers start) (next_state start)
    (omega (arith, most)) (numbers_some start) (omega (arith, draw-lt (next_state start) 100 (omega arith))))
    (ends (turns_of count) (count_of_numbers start) (next_state start)) refl refl
