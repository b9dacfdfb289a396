use Rattle.mk_check.proofs.Vocabulary.{AddsLine, Built, Element, IfOk-weaker, ℕ, subst, sym, with_part, ◌≡◌}
use Rattle.mk_check.proofs.Builds.{end_added}
use Rattle.mk_check.proofs.feeding.building.Builder.add_end.Goals as goal

pub returns : goal.returns
returns c =
    let b = c.args.self.now in
    IfOk-weaker c.put.result (λ _. c.put.new.self ≡ with_part b 0 0)
    (λ _. (line : ℕ) → AddsLine line Element.End b c.put.new.self)
    (λ _ e line. subst (λ (x : Built). AddsLine line Element.End b x) (sym e) (end_added line c.requires)) c.put.ensures
