use Rattle.mk_check.proofs.Vocabulary.{IsBelow, List, Node, length, subst, sym}
use Rattle.mk_check.{proofs.Spots.IsMarkedTree_push, specs.{Trees.IsMarkedTree, declared.feeding.tree.Spot.Spot}}
use Rattle.mk_check.proofs.feeding.tree.Tree.push.Goals as goal

pub invariant_of-self-2 : goal.invariant_of-self-2
invariant_of-self-2 c =
    let spots = c.self.inside.spots.items in
    subst (λ (xs : List Spot). IsMarkedTree xs) (sym c.in_ok-push.ensures.items) (IsMarkedTree_push (record {
      instruction = c.instruction.result;
      node = c.args.node;
      sequels = c.sequels_from.result;
      asks_first = c.asks_first_from.result;
    }) c.self.invariant
    (subst (λ (nodes : List Node). IsBelow (length nodes) c.args.node) (sym c.self.view_is) c.requires) (record {
      instruction = c.instruction.ensures;
      sequels = cc (c.sequels_from.ensures, c.self.view_is);
      first = cc (c.asks_first_from.ensures, c.self.view_is);
    }))
