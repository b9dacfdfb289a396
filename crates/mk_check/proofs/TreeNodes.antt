-- A tree's nodes: the steps from each, one node more, and where a place is.
use Rattle.std.proofs.Common.{fold}
use Rattle.mk_check.proofs.Vocabulary.{Bool, Instruction, IsBelow, IsTree, List, Node, Place, PlaceIsWithin, Steps, ℕ}
use Rattle.mk_check.proofs.Vocabulary.{ap, arith, cases_lt, false, fold_push, get_or_append_left, get_or_at, inl, inr}
use Rattle.mk_check.proofs.Vocabulary.{length, length_push, node_at, refl, steps_at, steps_from, subst, suc, sym, trees}
use Rattle.mk_check.proofs.Vocabulary.{true, zero, [], ◌++◌, ◌+◌, ◌<◌, ◌∙◌, ◌∷◌, ◌≡◌, ◌≤◌}
use Rattle.mk_check.specs.{Steps.Done, Trees.with_node}

-- The steps from a node are those that it names.

pub steps_from_same : (count : ℕ) (a b : List Steps) (n : Node) → ((j : ℕ) → j < count → steps_at a j ≡ steps_at b j)
    → IsBelow count n → steps_from a n ≡ steps_from b n
steps_from_same count a b x3 h below = grind arith

trees_keep : (built : List Steps) (nodes : List Node) (j : ℕ) → j < length built
    → steps_at (fold with_node built nodes) j ≡ steps_at built j
trees_keep built [] j h = refl
trees_keep built (n ∷ nodes) j h =
    trees_keep (with_node built n) nodes j (omega (arith, length_push built (steps_from built n)))
    ∙ get_or_append_left built (steps_from built n ∷ []) Done j h

trees_behind : (built : List Steps) (nodes : List Node) (i : ℕ)
    → ((k : ℕ) → k < length nodes → IsBelow (length built + k) (node_at nodes k)) → i < length nodes → steps_at
    (fold with_node built nodes) (length built + i) ≡ steps_from (fold with_node built nodes) (node_at nodes i)
trees_behind built [] i below h = absurd (omega arith)
trees_behind built (n ∷ nodes) zero below h =
    let here : IsBelow (length built) n = subst (λ (c : ℕ). IsBelow c n) (omega arith) (below 0 h) in
    let all = fold with_node (with_node built n) nodes in
    let at : length built + 0 ≡ length built = omega arith in
    ap (λ (j : ℕ). steps_at all j) at ∙ (trees_keep (with_node built n) nodes (length built) (omega
    (arith, length_push built (steps_from built n))) ∙ (get_or_at built (steps_from built n) [] Done (length built) refl
    ∙ steps_from_same (length built) built all n (λ j g. sym (trees_keep built (n ∷ nodes) j g)) here))
trees_behind built (n ∷ nodes) (suc i) below h =
    let longer : length (with_node built n) ≡ length built + 1 = length_push built (steps_from built n) in
    let at : length built + suc i ≡ length (with_node built n) + i = omega arith in
    ap (λ (j : ℕ). steps_at (fold with_node (with_node built n) nodes) j) at ∙ trees_behind (with_node built n) nodes i
    (λ k g. subst (λ (c : ℕ). IsBelow c (node_at nodes k)) (omega arith) (below (suc k) (omega arith))) (omega arith)

pub steps_at-trees : (nodes : List Node) (at : ℕ) → IsTree nodes → at < length nodes
    → steps_at (trees nodes) at ≡ steps_from (trees nodes) (node_at nodes at)
steps_at-trees nodes at tree h =
    let e : 0 + at ≡ at = omega arith in
    cc (e, trees_behind [] nodes at (λ k g. subst (λ (c : ℕ). IsBelow c (node_at nodes k)) (omega arith) (tree k g)) h)

pub IsBelow-more : (few many : ℕ) (n : Node) → few ≤ many → IsBelow few n → IsBelow many n
IsBelow-more few many x2 h below = grind arith

-- One more node, which names those before it.
pub IsTree_push : (nodes : List Node) (n : Node) → IsTree nodes → IsBelow (length nodes) n → IsTree (nodes ++ n ∷ [])
IsTree_push nodes n tree below at h = elim (cases_lt at (length nodes)) [
  | inl lt ↦ subst (λ (m : Node). IsBelow at m) (sym (get_or_append_left nodes (n ∷ []) Node.Done at lt)) (tree at lt)
  | inr ge ↦
      let e : length nodes ≡ at = omega (arith, length_push nodes n) in
      subst (λ (m : Node). IsBelow at m) (sym (get_or_at nodes n [] Node.Done at e))
      (subst (λ (c : ℕ). IsBelow c n) e below)
]

pub trees_push : (nodes : List Node) (n : Node)
    → trees (nodes ++ n ∷ []) ≡ trees nodes ++ steps_from (trees nodes) n ∷ []
trees_push nodes n = fold_push with_node [] nodes n

-- The place's node, in a tree.
pub record IsAt (nodes : List Node) (p : Place) (n : Node) : Type 0 where
  pub tree : IsTree nodes
  pub within : PlaceIsWithin (length nodes) p
  pub node : node_at nodes p.at ≡ n

pub is_at : {nodes : List Node} {p : Place} {n : Node} → IsTree nodes → PlaceIsWithin (length nodes) p
    → node_at nodes p.at ≡ n → IsAt nodes p n
is_at tree within node = record { tree = tree; within = within; node = node }

-- so a function finds it, which reads the node by the place's parts
pub found_at : {nodes : List Node} {p q : Place} {n : Node} → q ≡ p → IsTree nodes → PlaceIsWithin (length nodes) p
    → n ≡ node_at nodes q.at → IsAt nodes p n
found_at {nodes} same tree within is = is_at tree within (ap (λ (x : Place). node_at nodes x.at) (sym same) ∙ sym is)

abbrev pub begins_block : Node → Bool
begins_block Node.Done = false
begins_block (Node.Line line instruction next) = false
begins_block n = true

-- the place's node begins a block
pub record IsAtBlock (nodes : List Node) (p : Place) (n : Node) : Type 0 where
  pub at : IsAt nodes p n
  pub begins : begins_block n ≡ true

-- so a function finds it, where the node is no other
pub found_block : {nodes : List Node} {p q : Place} {n : Node} → q ≡ p → IsTree nodes → PlaceIsWithin (length nodes) p
    → n ≡ node_at nodes q.at → (n ≡ Node.Done → ⊥) → ((line : ℕ) (instruction : Instruction) (next : ℕ)
    → n ≡ Node.Line line instruction next → ⊥) → IsAtBlock nodes p n
found_block same tree within is done line = record { at = found_at same tree within is; begins = grind arith }
