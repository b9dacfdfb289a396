use Rattle.mk_check.proofs.Vocabulary.{AddsLine, Built, Element, IfOk-weaker, List, Node, ap, length, subst, sym}
use Rattle.mk_check.proofs.{Vocabulary.{with_node_and_part, [], ◌++◌, ◌<◌, ◌∙◌, ◌∷◌, ◌≡◌}, Builds.{line_added, popped}}
use Rattle.mk_check.proofs.feeding.building.Builder.add_line.Goals as goal

pub grow-requires : goal.grow-requires
grow-requires c =
    let b = c.args.self.now in
    let part = c.in-Some.part in
    let parts = c.pop.new.self.items in
    let was : b.parts ≡ parts ++ part ∷ [] = sym (ap (λ (x : Built). x.parts) c.self.view_is)
    ∙ c.in-Some.ensures.items in
    let p = popped part parts c.requires was in
    subst (λ (ns : List Node). part.steps < length ns) (sym (ap (λ (x : Built). x.nodes) c.self.view_is)) p.1

pub returns : goal.returns
returns c =
    let b = c.args.self.now in
    let part = c.in-Some.part in
    let parts = c.pop.new.self.items in
    let was : b.parts ≡ parts ++ part ∷ [] = sym (ap (λ (x : Built). x.parts) c.self.view_is)
    ∙ c.in-Some.ensures.items in
    let n = Node.Line c.args.line c.args.instruction part.steps in
    let new = λ (ns : List Node). with_node_and_part (record { nodes = ns; parts = parts }) n part.second in
    IfOk-weaker c.grow.result (λ _. c.grow.new.self ≡ new c.self.inside.tree) (λ _. AddsLine c.args.line
    (Element.Line c.args.instruction) b c.grow.new.self) (λ _ e. subst (λ (x : Built). AddsLine c.args.line
    (Element.Line c.args.instruction) b x) (sym (e ∙ ap (λ (x : Built). new x.nodes) c.self.view_is))
    (line_added parts part c.args.line c.args.instruction c.requires was)) c.grow.ensures
