use Rattle.mk_check.proofs.{Vocabulary.{HasFew, Scope, ap, refl, scope_of, subst, sym, ◌∙◌}, FewNames.text_has_few}
use Rattle.mk_check.proofs.numbering.NumberedScript.of_program.Goals as goal

pub elements-requires : goal.elements-requires
elements-requires c =
    let named = c.in_ok-names.ensures c.args.items.now c.in_ok-declarations.ensures
    ∙ ap (scope_of c.args.items.now) c.in-Some.ensures.some.items_are in
    subst (λ (s : Scope). HasFew s) (sym named) (text_has_few c.args.items.now c.args.k c.requires.text)

pub returns : goal.returns
returns c =
    let named = c.in_ok-names.ensures c.args.items.now c.in_ok-declarations.ensures in
    rw (c.in_ok-elements.ensures, named, c.in-Some.ensures.some.items_are) refl
