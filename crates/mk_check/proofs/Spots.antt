-- A tree with marks that gets one more node.
use Rattle.std.proofs.lemmas.List.{get_or-map, get_or_default}
use Rattle.mk_check.proofs.Vocabulary.{IsBelow, IsTree, List, Node, ℕ, ap, arith, asks_first, cases_lt, get_or}
use Rattle.mk_check.proofs.Vocabulary.{get_or_append_left, get_or_at, inl, inr, instruction_of_node, length, length-map}
use Rattle.mk_check.proofs.Vocabulary.{length_push, map-append, node_at, op_asked, op_of_node, refl, sequels_of}
use Rattle.mk_check.proofs.Vocabulary.{steps_at, steps_from, subst, sym, trees, [], ◌++◌, ◌<◌, ◌∷◌, ◌≡◌}
use Rattle.mk_check.proofs.TreeNodes.{IsBelow-more, IsTree_push, steps_at-trees, steps_from_same}
use Rattle.mk_check.{proofs.Builds.{steps_at_push}, specs.declared.feeding.tree.Spot.{Spot}}
use Rattle.mk_check.specs.Trees.{IsMarked, IsMarkedTree, end_spot, nodes_of, sequels_before, spot_at}

-- the operation that it asks for
pub op_by_instruction : (numbers : List ℕ) (n : Node) → op_asked numbers (instruction_of_node n) ≡ op_of_node numbers n
op_by_instruction numbers x1 = grind arith

pub length-nodes_of : (spots : List Spot) → length (nodes_of spots) ≡ length spots
length-nodes_of spots = length-map spots (λ (s : Spot). s.node)

pub node_of_spot : (spots : List Spot) (at : ℕ) → at < length spots
    → node_at (nodes_of spots) at ≡ (spot_at spots at).node
node_of_spot spots at h = grind (arith, get_or-map)

nodes_of_push : (spots : List Spot) (s : Spot) → nodes_of (spots ++ s ∷ []) ≡ nodes_of spots ++ s.node ∷ []
nodes_of_push spots s = map-append (λ (s : Spot). s.node) spots (s ∷ [])

same_mark : (nodes more : List Node) (n : Node) → IsBelow (length nodes) n
    → sequels_of (nodes ++ more) n ≡ sequels_of nodes n
same_mark nodes more (Node.Line line instruction next) below =
    ap (λ (m : Node). sequels_before next m instruction) (get_or_append_left nodes more Node.Done next below)
same_mark nodes more _ below = refl

-- the node of a spot names nodes before it
spot_below : (spots : List Spot) (at : ℕ) → IsMarkedTree spots → at < length spots
    → IsBelow (length spots) (spot_at spots at).node
spot_below spots at m h =
    subst (λ (n : Node). IsBelow (length spots) n) (node_of_spot spots at h) (IsBelow-more at (length spots)
    (node_at (nodes_of spots) at) (omega arith) (m.tree at (omega (arith, length-nodes_of spots))))

same_steps_pushed : (spots : List Spot) (s : Spot) (n : Node) → IsBelow (length spots) n
    → steps_from (trees (nodes_of spots)) n ≡ steps_from (trees (nodes_of (spots ++ s ∷ []))) n
same_steps_pushed spots s n below = grind (arith, length-nodes_of, steps_from_same, steps_at_push, nodes_of_push)

-- what is known at a place stays so
marked_still : (spots : List Spot) (s : Spot) {x : Spot} → IsBelow (length spots) x.node → IsMarked (nodes_of spots) x
    → IsMarked (nodes_of (spots ++ s ∷ [])) x
marked_still spots s below m = grind (arith, same_steps_pushed, length-nodes_of, nodes_of_push, same_mark)

pub IsMarkedTree_push : {spots : List Spot} (s : Spot) → IsMarkedTree spots → IsBelow (length (nodes_of spots)) s.node
    → IsMarked (nodes_of spots) s → IsMarkedTree (spots ++ s ∷ [])
IsMarkedTree_push {spots} s m below mark = record {
  tree = subst (λ (nodes : List Node). IsTree nodes) (sym (nodes_of_push spots s))
      (IsTree_push (nodes_of spots) s.node m.tree below);
  marks = λ at h. elim (cases_lt at (length spots)) [
    | inl lt ↦
        subst (λ (x : Spot). IsMarked (nodes_of (spots ++ s ∷ [])) x)
        (sym (get_or_append_left spots (s ∷ []) end_spot at lt))
        (marked_still spots s (spot_below spots at m lt) (m.marks at lt))
    | inr ge ↦
        let e : length spots ≡ at = omega (arith, length_push spots s) in
        subst (λ (x : Spot). IsMarked (nodes_of (spots ++ s ∷ [])) x) (sym (get_or_at spots s [] end_spot at e))
        (marked_still spots s (subst (λ (c : ℕ). IsBelow c s.node) (length-nodes_of spots) below) mark)
  ];
}

-- what is known at a place of the list, whatever would stand where there is none
pub mark_there : {spots : List Spot} (at : ℕ) (s : Spot) → IsMarkedTree spots → at < length (nodes_of spots) → s
    ≡ get_or spots at s → (s.instruction ≡ instruction_of_node (node_at (nodes_of spots) at)) × (s.sequels ≡ sequels_of
    (nodes_of spots) (node_at (nodes_of spots) at)) × (s.asks_first ≡ asks_first (steps_at (trees (nodes_of spots)) at))
mark_there at s m h is = grind (arith, length-nodes_of, get_or_default, node_of_spot, steps_at-trees)
