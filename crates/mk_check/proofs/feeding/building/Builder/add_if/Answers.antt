use Rattle.mk_check.proofs.Vocabulary.{AddsLine, Built, Element, IfOk-weaker, List, Node, ℕ, ap, subst, sym}
use Rattle.mk_check.proofs.Vocabulary.{with_node_and_part, [], ◌++◌, ◌∙◌, ◌∷◌, ◌≡◌}
use Rattle.mk_check.proofs.{Builds.if_added, Builds.two_popped, feeding.building.Builder.add_if.Goals.In-Some-pop}
use Rattle.mk_check.specs.declared.feeding.building.Part.{Part}
use Rattle.mk_check.proofs.feeding.building.Builder.add_if.Goals as goal

was : (c : In-Some-pop)
    → c.args.self.now.parts ≡ (c.pop-2.new.self.items ++ c.in-Some-pop.part ∷ []) ++ c.in-Some.branches ∷ []
was c =
    sym (ap (λ (x : Built). x.parts) c.self.view_is)
    ∙ (c.in-Some.ensures.items ∙ ap (λ (ps : List Part). ps ++ c.in-Some.branches ∷ []) c.in-Some-pop.ensures.items)

pub grow-requires : goal.grow-requires
grow-requires c =
    let two = two_popped c.in-Some-pop.part c.in-Some.branches c.pop-2.new.self.items c.self.inside.tree
    c.requires (was ((goal.at.grow-requires c).In-Some-pop)) (ap (λ (x : Built). x.nodes) c.self.view_is) in
    two

pub returns : goal.returns
returns c =
    let b = c.args.self.now in
    let inner = c.in-Some.branches in
    let part = c.in-Some-pop.part in
    let parts = c.pop-2.new.self.items in
    let n = Node.Choice c.args.number inner.steps inner.second part.steps in
    let new = λ (ns : List Node). with_node_and_part (record { nodes = ns; parts = parts }) n part.second in
    IfOk-weaker c.grow.result (λ _. c.grow.new.self ≡ new c.self.inside.tree) (λ _. (line : ℕ) → AddsLine line
    (Element.If c.args.number) b c.grow.new.self) (λ _ e line. subst (λ (x : Built). AddsLine line
    (Element.If c.args.number) b x) (sym (e ∙ ap (λ (x : Built). new x.nodes) c.self.view_is))
    (if_added parts part inner line c.args.number c.requires (was ((goal.at.returns c).In-Some-pop)))) c.grow.ensures
