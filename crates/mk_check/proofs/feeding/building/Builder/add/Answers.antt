use Rattle.std.specs.declared.result.Result.{Result}
use Rattle.mk_check.proofs.Vocabulary.{AddsLine, Built, Element, IfOk-weaker, OnOk, ℕ, subst, sym, ◌≡◌}
use Rattle.mk_never.specs.declared.never_heap.NoMemory.{NoMemory}
use Rattle.mk_check.proofs.feeding.building.Builder.add.Goals as goal

-- a line that is added at any place is added at this one
at_line : (r : Result (Unit {0}) NoMemory) (line : ℕ) (e e' : Element) (old new : Built) → e ≡ e'
    → OnOk r ((at : ℕ) → AddsLine at e' old new) → OnOk r (AddsLine line e old new)
at_line r line e e' old new is h =
    IfOk-weaker r (λ _. (at : ℕ) → AddsLine at e' old new) (λ _. AddsLine line e old new)
    (λ _ a. subst (λ (x : Element). AddsLine line x old new) (sym is) (a line)) h

pub returns-in-Repeat : goal.returns-in-Repeat
returns-in-Repeat c =
    at_line c.add_repeat.result c.args.line c.args.element (Element.Repeat c.in-Repeat.rounds) c.args.self.now
    c.add_repeat.new.self c.in-Repeat.is c.add_repeat.ensures

pub returns-in-If : goal.returns-in-If
returns-in-If c =
    at_line c.add_if.result c.args.line c.args.element (Element.If c.in-If.number) c.args.self.now c.add_if.new.self
    c.in-If.is c.add_if.ensures

pub returns-in-Else : goal.returns-in-Else
returns-in-Else c =
    at_line c.add_else.result c.args.line c.args.element Element.Else c.args.self.now c.add_else.new.self c.in-Else.is
    c.add_else.ensures

pub returns-in-End : goal.returns-in-End
returns-in-End c =
    at_line c.add_end.result c.args.line c.args.element Element.End _ c.add_end.new.self c.in-End.is c.add_end.ensures
