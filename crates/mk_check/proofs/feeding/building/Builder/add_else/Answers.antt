use Rattle.mk_check.proofs.Vocabulary.{AddsLine, Built, Element, IfOk-weaker, List, Node, ℕ, ap, subst, sym, with_part}
use Rattle.mk_check.proofs.{Vocabulary.{[], ◌++◌, ◌∙◌, ◌∷◌, ◌≡◌}, Builds.else_added}
use Rattle.mk_check.proofs.feeding.building.Builder.add_else.Goals as goal

pub returns : goal.returns
returns c =
    let b = c.args.self.now in
    let part = c.in-Some.branch in
    let parts = c.pop.new.self.items in
    let was : b.parts ≡ parts ++ part ∷ [] = sym (ap (λ (x : Built). x.parts) c.self.view_is)
    ∙ c.in-Some.ensures.items in
    let new = λ (ns : List Node). with_part (record { nodes = ns; parts = parts }) 0 part.steps in
    IfOk-weaker c.put.result (λ _. c.put.new.self ≡ new c.self.inside.tree) (λ _. (line : ℕ) → AddsLine line
    Element.Else b c.put.new.self) (λ _ e line. subst (λ (x : Built). AddsLine line Element.Else b x) (sym
    (e ∙ ap (λ (x : Built). new x.nodes) c.self.view_is)) (else_added parts part line c.requires was)) c.put.ensures
