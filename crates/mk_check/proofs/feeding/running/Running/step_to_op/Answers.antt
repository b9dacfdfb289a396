use Rattle.mk_check.proofs.Vocabulary.{MovesOn, Node, Place, after_line, ap, asks_first, false, is_asking, is_print}
use Rattle.mk_check.proofs.Vocabulary.{kept_in, steps_at, subst, sym, trees, true, with_kept, ◌∙◌, ◌≡◌}
use Rattle.mk_check.proofs.AsksFirst.{first_done, first_later, line_to_op, no_print_here, stops_at_op}
use Rattle.mk_check.proofs.TreeNodes.{IsAt, found_at, found_block}
use Rattle.mk_check.proofs.{feeding.running.Running.step_to_op.Goals.{After-calculate, In-Line}, Moves.begun_block}
use Rattle.mk_check.proofs.feeding.running.Running.step_to_op.Goals as goal

pub unreachable-requires : goal.unreachable-requires
unreachable-requires c =
    let e = c.in-Done.ensures in
    let none : asks_first (steps_at (trees c.args.tree.now) c.args.self.now.at) ≡ false =
    first_done c.args.tree.now (found_at c.self.view_is e.tree c.requires.within e.value) in
    let never : true ≡ false = sym c.requires.first ∙ none in
    absurd cc

-- A line.

at_line : (c : In-Line) → IsAt c.args.tree.now c.args.self.now
    (Node.Line c.in-Line.line c.in-Line.instruction c.in-Line.next)
at_line c = found_at c.self.view_is c.in-Line.ensures.tree c.requires.within c.in-Line.ensures.value

pub returns-then-asks-clause-stops : goal.returns-then-asks-clause-stops
returns-then-asks-clause-stops c =
    λ f. stops_at_op c.args.tree.now (at_line ((goal.at.returns-then-asks-clause-stops c).In-Line))
    (sym c.asks.ensures ∙ c.if-asks.true)

pub calculate-requires : goal.calculate-requires
calculate-requires c =
    no_print_here c.args.tree.now (at_line ((goal.at.calculate-requires c).In-Line))
    (sym c.asks.ensures ∙ c.if-asks.false) c.requires.first

-- a line that asks for nothing, and the place after it
record GoesOn (c : After-calculate) : Type 0 where
  asks : is_asking c.in-Line.instruction ≡ false
  new : c.calculate.new.self
      ≡ with_kept (record c.args.self.now { at = c.in-Line.next })
      (after_line c.in-Line.instruction (kept_in c.args.self.now))

goes_on : (c : After-calculate) → GoesOn c
goes_on c = record {
  asks = sym c.asks.ensures ∙ c.if-asks.false;
  new = c.calculate.ensures ∙ ap (λ (q : Place). with_kept (record q { at = c.in-Line.next })
      (after_line c.in-Line.instruction (kept_in q))) c.self.view_is;
}

pub returns-else-asks-clause-goes_on : goal.returns-else-asks-clause-goes_on
returns-else-asks-clause-goes_on c =
    let on = goes_on ((goal.at.returns-else-asks-clause-goes_on c).After-calculate) in
    λ t. subst (λ (q : Place). MovesOn c.args.tree.now c.args.self.now q) (sym on.new)
    (line_to_op c.args.tree.now (at_line ((goal.at.returns-else-asks-clause-goes_on c).In-Line)) on.asks)

pub returns-else-asks-clause-first : goal.returns-else-asks-clause-first
returns-else-asks-clause-first c =
    let nodes = c.args.tree.now in
    let on = goes_on ((goal.at.returns-else-asks-clause-first c).After-calculate) in
    let at = at_line ((goal.at.returns-else-asks-clause-first c).In-Line) in
    let prints : is_print c.in-Line.instruction ≡ false = no_print_here nodes at on.asks c.requires.first in
    λ t. ap (λ (q : Place). asks_first (steps_at (trees nodes) q.at)) on.new
    ∙ (sym (first_later nodes at on.asks prints) ∙ c.requires.first)

pub returns-in_default-clause-goes_on : goal.returns-in_default-clause-goes_on
returns-in_default-clause-goes_on c = λ t. begun_block c.args.tree.now (found_block c.self.view_is c.node.ensures.tree
    c.requires.within c.node.ensures.value c.in_default.not-Done c.in_default.not-Line) c.begin_block.ensures
