use Rattle.mk_check.proofs.{Vocabulary.{Node, ap, node_at, sym, ◌∙◌, ◌≡◌}, Moves.line_fits, Sequels.silent}
use Rattle.mk_check.proofs.{TreeNodes.is_at, feeding.running.Running.go_on_further.Goals.In-Line}
use Rattle.mk_check.proofs.feeding.running.Running.go_on_further.Goals as goal

here : (c : In-Line) → node_at c.args.tree.now c.args.self.now.at
    ≡ Node.Line c.in-Line.line c.in-Line.instruction c.in-Line.next
here c = ap (node_at c.args.tree.now) (sym c.at.ensures) ∙ sym c.in-Line.ensures.value

pub take_to_op-requires-clause-fits : goal.take_to_op-requires-clause-fits
take_to_op-requires-clause-fits c =
    let l = c.in-Line in
    line_fits _
    (is_at l.ensures.tree c.requires.may.within (here ((goal.at.take_to_op-requires-clause-fits c).In-Line)))
    c.requires.may.fits

pub take_to_op-requires-clause-silent : goal.take_to_op-requires-clause-silent
take_to_op-requires-clause-silent c =
    silent c.in-Line.instruction c.args.answer c.requires.may.accepted (sym c.shows.ensures ∙ c.if-shows.false)
