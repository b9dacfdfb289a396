use Rattle.mk_check.proofs.Vocabulary.{Node, arith, refl, sym, ◌∙◌}
use Rattle.mk_check.proofs.feeding.running.Running.begin_to_op.Goals.{In-Rounds}
use Rattle.mk_check.proofs.{Moves.block_finds_room, NextRounds.stops_in_round, TreeNodes.IsAt, TreeNodes.is_at}
use Rattle.mk_check.proofs.feeding.running.Running.begin_to_op.Goals as goal

at_repeat : (c : In-Rounds) → IsAt c.args.tree.now (record c.args.self.now { at = c.args.next })
    (Node.Rounds c.in-Rounds.rounds c.in-Rounds.body c.in-Rounds.after)
at_repeat c = is_at c.in-Rounds.ensures.tree c.requires.within (sym c.in-Rounds.ensures.value)

pub enter-requires : goal.enter-requires
enter-requires c =
    block_finds_room c.args.tree.now
    (record { at = at_repeat ((goal.at.enter-requires c).In-Rounds); begins = refl }) c.requires.fits

pub returns-clause-begun : goal.returns-clause-begun
returns-clause-begun c =
    let l = c.in-Rounds in
    λ t. stops_in_round c.args.tree.now c.args.self.now c.args.next l.rounds l.body l.after
    (at_repeat ((goal.at.returns-clause-begun c).In-Rounds)) (grind arith)
    (sym c.asks.ensures ∙ c.if-not-asks.false) c.enter.ensures
