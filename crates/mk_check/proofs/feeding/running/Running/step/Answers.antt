use Rattle.mk_check.proofs.Vocabulary.{HasStopped, MovesOn, Place, after_line, ap, false, is_some, kept_in, op_asked}
use Rattle.mk_check.proofs.{Vocabulary.{subst, sym, true, with_kept, ◌∙◌, ◌≡◌}, Moves.{asks_at, begun_block}}
use Rattle.mk_check.proofs.{Moves.{end_goes_on, ends_at, line_goes_on}, TreeNodes.{found_at, found_block}}
use Rattle.mk_check.proofs.feeding.running.Running.step.Goals as goal

pub returns-then-is_some-clause-stops : goal.returns-then-is_some-clause-stops
returns-then-is_some-clause-stops c =
    let e = c.in-Line.ensures in
    let asks : is_some (op_asked c.args.self.now.numbers c.in-Line.instruction) ≡ true = cc in
    λ f. asks_at c.args.tree.now (found_at c.self.view_is e.tree c.requires.within e.value) asks

pub returns-in-Done-clause-goes_on : goal.returns-in-Done-clause-goes_on
returns-in-Done-clause-goes_on c =
    let e = c.in-Done.ensures in
    λ t. end_goes_on c.args.tree.now (found_at c.self.view_is e.tree c.requires.within e.value) (c.leave.ensures.left t)

pub returns-in-Done-clause-stops : goal.returns-in-Done-clause-stops
returns-in-Done-clause-stops c =
    let e = c.in-Done.ensures in
    λ f. subst (λ (p : Place). HasStopped c.args.tree.now c.args.self.now p) (sym (c.leave.ensures.none f).1)
    (ends_at c.args.tree.now (found_at c.self.view_is e.tree c.requires.within e.value) (c.leave.ensures.none f).0)

pub returns-in_ok-run_line-in-Line-clause-goes_on : goal.returns-in_ok-run_line-in-Line-clause-goes_on
returns-in_ok-run_line-in-Line-clause-goes_on c =
    let p = c.args.self.now in
    let e = c.in-Line.ensures in
    let none : is_some (op_asked c.args.self.now.numbers c.in-Line.instruction) ≡ false = cc in
    let new : c.run_line.new.self
    ≡ with_kept (record p { at = c.in-Line.next }) (after_line c.in-Line.instruction (kept_in p)) =
    c.in_ok-run_line-in-Line.ensures ∙ ap (λ (q : Place). with_kept (record q { at = c.in-Line.next })
    (after_line c.in-Line.instruction (kept_in q))) c.self.view_is in
    λ t. subst (λ (q : Place). MovesOn c.args.tree.now p q) (sym new)
    (line_goes_on c.args.tree.now (found_at c.self.view_is e.tree c.requires.within e.value) none)

pub returns-in_default-clause-goes_on : goal.returns-in_default-clause-goes_on
returns-in_default-clause-goes_on c = λ t. begun_block c.args.tree.now (found_block c.self.view_is c.node.ensures.tree
    c.requires.within c.node.ensures.value c.in_default.not-Done c.in_default.not-Line) c.begin_block.ensures
