use Rattle.mk_check.proofs.Vocabulary.{List, Node, asks_first, length, steps_at, subst, sym, trees, ◌<◌, ◌≡◌}
use Rattle.mk_check.proofs.Spots.{mark_there}
use Rattle.mk_check.proofs.feeding.tree.Tree.asks_first.Goals as goal

pub returns : goal.returns
returns c =
    subst (λ (nodes : List Node). c.index.result.now.asks_first ≡ asks_first (steps_at (trees nodes) c.args.at))
    c.self.view_is (mark_there c.args.at c.index.result.now c.self.invariant
    (subst (λ (nodes : List Node). c.args.at < length nodes) (sym c.self.view_is) c.requires) c.index.ensures).2
