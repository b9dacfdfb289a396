use Rattle.mk_script.proofs.Vocabulary.{Ok, ap, are_fields, arith, fields_of, length, length-map, nat_tests}
use Rattle.mk_script.proofs.Vocabulary.{subst, sym, texts_of, true, ◌<◌, ◌>>=◌, ◌∙◌, ◌≡◌}
use Rattle.mk_script.proofs.{Converted.hands_fault, Placed.{named_type, placed_type}}
use Rattle.mk_script.specs.{Lines.Reads, Grammar.checked_behind, declared.items.Item.TheVariants.TypeLine}
use Rattle.mk_script.proofs.line.type_line.Goals as goal

pub returns-in_err-name : goal.returns-in_err-name
returns-in_err-name c = λ scope placed.
    let before = c.args.items.now.items in
    let fields = texts_of c.args.fields.now in
    let some : 0 < length fields = grind (arith, nat_tests, length-map c.args.fields.now (λ text. text.now)) in
    let formed : are_fields fields ≡ true = grind arith in
    let is = placed_type before c.args.word.now fields some placed formed ∙ named_type c.args.word.now fields in
    hands_fault before _ c.from_residual-in_err-name.result _ _ c.in_err-name.field-0.0 (ap (checked_behind before) (is
    ∙ ap (λ named. named >>= (λ t. Ok (TypeLine t (fields_of fields)))) (sym c.name.ensures ∙ c.in_err-name.was)))
    c.from_residual-in_err-name.ensures.1

pub returns : goal.returns
returns c = λ scope placed.
    let before = c.args.items.now.items in
    let fields = texts_of c.args.fields.now in
    let some : 0 < length fields = grind (arith, nat_tests, length-map c.args.fields.now (λ text. text.now)) in
    let formed : are_fields fields ≡ true = grind arith in
    let is = placed_type before c.args.word.now fields some placed formed ∙ named_type c.args.word.now fields
    ∙ ap (λ named. named >>= (λ t. Ok (TypeLine t (fields_of fields)))) (sym c.name.ensures ∙ c.in_ok-name.was) in
    subst (λ found. Reads before (checked_behind before found) c.checked_type.result c.checked_type.new.items.items
    c.checked_type.new.scope) (sym is) (c.checked_type.ensures scope)
