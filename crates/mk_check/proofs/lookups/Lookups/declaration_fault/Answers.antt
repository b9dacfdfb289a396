use Rattle.mk_check.proofs.{Among.{offsets_fault, pointers_fault}, Vocabulary.{List, Option, TypeKind, TypeWord}}
use Rattle.mk_check.proofs.Vocabulary.{ap, around, option_or, ◌∙◌}
use Rattle.mk_check.proofs.lookups.Lookups.declaration_fault.Goals as goal

pub returns-in-TypeLine : goal.returns-in-TypeLine
returns-in-TypeLine c =
    let a = around c.args.self.now in
    let pointers = c.pointers_fault.ensures ∙ ap (λ (ws : List TypeWord). pointers_fault a ws) c.as_slice.ensures in
    let offsets = c.offsets_fault.ensures
    ∙ ap (λ (ws : List TypeWord). offsets_fault a ws) c.as_slice-in-TypeLine.ensures in
    rw c.in-TypeLine.is (c.or.ensures ∙ ap (λ (f : Option TypeKind). option_or f c.offsets_fault.result) pointers
    ∙ ap (λ (f : Option TypeKind). option_or (pointers_fault a c.in-TypeLine.words) f) offsets)
