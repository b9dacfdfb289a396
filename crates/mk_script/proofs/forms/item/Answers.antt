use Rattle.mk_script.proofs.{Vocabulary.{arith, length-map, sym}, NoForm.of_no_form}
use Rattle.mk_script.proofs.forms.item.Goals as goal

pub returns-in_default : goal.returns-in_default
returns-in_default c =
    let count = length-map c.args.words.now (λ word. word.now) in
    sym (of_no_form c.args.keyword _ c.requires (grind arith) (grind arith) (grind arith) (grind arith) (grind arith))
