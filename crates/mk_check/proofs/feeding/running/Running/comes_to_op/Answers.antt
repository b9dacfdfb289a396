use Rattle.mk_check.proofs.{Vocabulary.{ℕ, length, subst, sym, ◌<◌}, AsksFirst.resumed_within}
use Rattle.mk_check.proofs.feeding.running.Running.comes_to_op.Goals as goal

pub asks_first-requires : goal.asks_first-requires
asks_first-requires c =
    subst (λ (at : ℕ). at < length c.args.tree.now) (sym c.resumed_node.ensures)
    (resumed_within c.args.tree.now c.requires)
