-- The generated text is refused by no step.
use Rattle.std.proofs.Common.{Err}
use Rattle.mk_outputs.proofs.Vocabulary.{Item, List, Ok, Some, ℕ, ap, generated_text, program_of, subst, ◌∙◌, ◌≡◌, ◌≤◌}
use Rattle.mk_outputs.proofs.{ReadText.program_of-generated_text, TypedProgram.generated_is_well_typed}
use Rattle.mk_outputs.specs.Generated.{generated_program}
use Rattle.mk_check.specs.Typing.{NamesFirstFault, first_typing_fault}
use Rattle.mk_check.specs.declared.typing_faults.TypeStop.TheVariants.{IllTyped}
use Rattle.mk_check.specs.{declared.typing_faults.TypeKind.TypeKind, declared.typing_faults.TypeStop.TypeStop}
use Rattle.mk_script.specs.declared.faults.TextStop.{TextStop}

module _ (start count : ℕ) (most : count ≤ 3000000) (text : List ℕ) (is : text ≡ generated_text start count) where
  program_is : program_of text ≡ Ok (generated_program start count)
  program_is = ap program_of is ∙ program_of-generated_text start count most

  -- it is of the grammar
  pub is_read : (stop : TextStop) → program_of text ≡ Err stop → ⊥
  is_read stop refused = cc (program_is)

  module _ (program : List Item) (read : program_of text ≡ Ok program) where
    pub is_generated : program ≡ generated_program start count
    is_generated = cc (program_is)

    -- and its program is well typed
    pub is_typed : (line : ℕ) (kind : TypeKind) (stop : TypeStop) → stop ≡ IllTyped line kind
        → NamesFirstFault program stop → ⊥
    is_typed line kind stop ill names =
        let fault : first_typing_fault program ≡ Some (record { line = line; kind = kind }) =
        subst (NamesFirstFault program) ill names in
        let none = ap first_typing_fault is_generated ∙ generated_is_well_typed start count most in
        cc
