use Rattle.mk_check.proofs.Vocabulary.{FeedState, IsAtStop, IsTree, Op, Option, ap, instruction_of_node, is_some}
use Rattle.mk_check.proofs.Vocabulary.{node_at, op_asked, op_in, subst, sym, ◌∙◌, ◌≡◌}
use Rattle.mk_check.proofs.{Spots.op_by_instruction, Stands.op_stands, feeding.Feed.op.Goals.After-asked}
use Rattle.mk_check.proofs.feeding.Feed.op.Goals as goal

asks : (c : After-asked) → c.asked.result ≡ op_in c.args.self.now
asks c =
    let nodes = c.self.inside.tree in
    let numbers = c.self.inside.running.numbers in
    c.asked.ensures ∙ (ap (op_asked numbers) (c.instruction-instruction.ensures.value
    ∙ ap (λ (at : _). instruction_of_node (node_at nodes at)) c.at.ensures)
    ∙ (op_by_instruction numbers (node_at nodes c.self.inside.running.at) ∙ ap op_in c.self.view_is))

pub returns : goal.returns
returns c =
    let stop = subst (λ (s : FeedState). IsAtStop s) c.self.view_is c.self.invariant.stop in
    let tree = subst (λ (s : FeedState). IsTree s.nodes) c.self.view_is c.instruction-instruction.ensures.tree in
    let value = asks ((goal.at.returns c).After-asked) in
    record {
      next = λ program k answers st. value ∙ (op_stands tree stop st).op;
      none = λ program k answers st.
          let t = op_stands tree stop st in
          let e = ap (λ (o : Option Op). is_some o) value in
          (λ h. t.ended (sym e ∙ h), λ h. e ∙ t.none h);
    }
