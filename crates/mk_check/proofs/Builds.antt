-- One more line of a tree that is being built.
use Rattle.std.proofs.Common.{fold}
use Rattle.mk_check.proofs.Vocabulary.{AddsLine, Built, Element, Instruction, List, Node, Steps, ℕ, ap, arith}
use Rattle.mk_check.proofs.Vocabulary.{fold_push, get_or_append_left, get_or_at, length, length_push, parts_in, refl}
use Rattle.mk_check.proofs.Vocabulary.{steps_at, steps_from, subst, sym, trees, with_element, with_node_and_part}
use Rattle.mk_check.proofs.{Vocabulary.{with_part, [], ◌++◌, ◌+◌, ◌<◌, ◌∙◌, ◌∷◌, ◌≡◌, ◌≤◌}, TreeNodes.trees_push}
use Rattle.mk_check.specs.{Building.{IsSoundlyBuilt, PartsAreWithin, StepPart, part_at, parts_at}, Steps.Done}
use Rattle.mk_check.specs.{Trees.with_node, declared.feeding.building.Part.Part}

length-fold_with_node : (built : List Steps) (nodes : List Node)
    → length (fold with_node built nodes) ≡ length built + length nodes
length-fold_with_node built [] = omega arith
length-fold_with_node built (n ∷ nodes) =
    omega (arith, length-fold_with_node (with_node built n) nodes, length_push built (steps_from built n))

pub length-trees : (nodes : List Node) → length (trees nodes) ≡ length nodes
length-trees nodes = omega (arith, length-fold_with_node [] nodes)

-- what stands for a node stays, and what the next stands for
pub steps_at_push : (nodes : List Node) (n : Node) (j : ℕ) → j < length nodes
    → steps_at (trees (nodes ++ n ∷ [])) j ≡ steps_at (trees nodes) j
steps_at_push nodes n j h =
    ap (λ (ts : List Steps). steps_at ts j) (trees_push nodes n)
    ∙ get_or_append_left (trees nodes) (steps_from (trees nodes) n ∷ []) Done j (omega (arith, length-trees nodes))

pub parts_at_push : (built : List Steps) (parts : List Part) (part : Part)
    → parts_at built (parts ++ part ∷ []) ≡ part_at built part ∷ parts_at built parts
parts_at_push built parts part = grind (arith, fold_push)

parts_keep : (nodes : List Node) (n : Node) (behind : List StepPart) (parts : List Part) → PartsAreWithin (length nodes)
    parts → fold (λ (more : List StepPart) (p : Part). part_at (trees (nodes ++ n ∷ [])) p ∷ more) behind parts ≡ fold
    (λ (more : List StepPart) (p : Part). part_at (trees nodes) p ∷ more) behind parts
parts_keep nodes n behind [] w = refl
parts_keep nodes n behind (part ∷ parts) w =
    let e : part_at (trees (nodes ++ n ∷ [])) part ≡ part_at (trees nodes) part =
    (let f = steps_at_push nodes n part.steps w.0 in let g = steps_at_push nodes n part.second w.1 in cc) in
    cc (e, parts_keep nodes n (part_at (trees nodes) part ∷ behind) parts w.2)

PartsAreWithin-more : (few many : ℕ) (parts : List Part) → few ≤ many → PartsAreWithin few parts
    → PartsAreWithin many parts
PartsAreWithin-more few many [] h w = tt
PartsAreWithin-more few many (part ∷ parts) h w = (omega arith, omega arith, PartsAreWithin-more few many parts h w.2)

PartsAreWithin_push : (count : ℕ) (parts : List Part) (part : Part) → PartsAreWithin count parts → part.steps < count
    → part.second < count → PartsAreWithin count (parts ++ part ∷ [])
PartsAreWithin_push count [] part w s t = (s, t, tt)
PartsAreWithin_push count (p ∷ parts) part w s t = (w.0, w.1, PartsAreWithin_push count parts part w.2 s t)

PartsAreWithin_pop : (count : ℕ) (parts : List Part) (part : Part) → PartsAreWithin count (parts ++ part ∷ [])
    → PartsAreWithin count parts × (part.steps < count) × (part.second < count)
PartsAreWithin_pop count [] part w = (tt, w.0, w.1)
PartsAreWithin_pop count (p ∷ parts) part w = let rest =
    PartsAreWithin_pop count parts part w.2 in ((w.0, w.1, rest.0), rest.1, rest.2)

-- the innermost part is taken away
pub popped : {b : Built} (part : Part) (parts : List Part) → IsSoundlyBuilt b → b.parts ≡ parts ++ part ∷ []
    → IsSoundlyBuilt (record b { parts = parts }) × (part.steps < length b.nodes) × (part.second < length b.nodes)
    × (parts_in b ≡ part_at (trees b.nodes) part ∷ parts_at (trees b.nodes) parts)
popped {b} part parts sound was =
    let w = PartsAreWithin_pop (length b.nodes) parts part
    (subst (λ (ps : List Part). PartsAreWithin (length b.nodes) ps) was sound.parts) in (
      record { some = sound.some; first = sound.first; parts = w.0 },
      w.1,
      w.2,
      ap (parts_at (trees b.nodes)) was ∙ parts_at_push (trees b.nodes) parts part,
    )

-- The two innermost parts name nodes that there are.
pub two_popped : {b : Built} (part inner : Part) (parts : List Part) (nodes : List Node) → IsSoundlyBuilt b
    → b.parts ≡ (parts ++ part ∷ []) ++ inner ∷ [] → nodes ≡ b.nodes
    → (inner.steps < length nodes) × (inner.second < length nodes) × (part.steps < length nodes)
two_popped {b} part inner parts nodes sound was same =
    let p = popped inner (parts ++ part ∷ []) sound was in
    let q = popped part parts p.0 refl in
    subst (λ (ns : List Node). (inner.steps < length ns) × (inner.second < length ns) × (part.steps < length ns))
    (sym same) (p.1, p.2, q.1)

-- one more node, which begins a part
grown_sound : {b : Built} (n : Node) (second : ℕ) → IsSoundlyBuilt b → second < length b.nodes
    → IsSoundlyBuilt (with_node_and_part b n second)
grown_sound {b} n second sound h =
    let longer = length_push b.nodes n in
    let some = sound.some in
    record {
      some = omega arith;
      first = steps_at_push b.nodes n 0 sound.some ∙ sound.first;
      parts = PartsAreWithin_push (length (b.nodes ++ n ∷ [])) b.parts
          (record { steps = length b.nodes; second = second }) (PartsAreWithin-more (length b.nodes)
          (length (b.nodes ++ n ∷ [])) b.parts (omega arith) sound.parts) (omega arith) (omega arith);
    }

grown_parts : {b : Built} (n : Node) (second : ℕ) → IsSoundlyBuilt b → second < length b.nodes
    → parts_in (with_node_and_part b n second)
    ≡ record { steps = steps_from (trees b.nodes) n; second = steps_at (trees b.nodes) second } ∷ parts_in b
grown_parts {b} n second sound h =
    let f = ap (λ (ts : List Steps). steps_at ts (length b.nodes)) (trees_push b.nodes n)
    ∙ get_or_at (trees b.nodes) (steps_from (trees b.nodes) n) [] Done (length b.nodes) (length-trees b.nodes) in
    let g = steps_at_push b.nodes n second h in
    let k = parts_keep b.nodes n [] b.parts sound.parts in
    let at : StepPart = part_at (trees (b.nodes ++ n ∷ [])) (record { steps = length b.nodes; second = second }) in
    let e : at ≡ record { steps = steps_from (trees b.nodes) n; second = steps_at (trees b.nodes) second } = cc in
    parts_at_push (trees (b.nodes ++ n ∷ [])) b.parts (record { steps = length b.nodes; second = second })
    ∙ (ap (λ (p : StepPart). p ∷ parts_at (trees (b.nodes ++ n ∷ [])) b.parts) e ∙ ap (λ (ps : List StepPart). record {
      steps = steps_from (trees b.nodes) n;
      second = steps_at (trees b.nodes) second;
    } ∷ ps) k)

pub line_added : {b : Built} (parts : List Part) (part : Part) (line : ℕ) (instruction : Instruction) → IsSoundlyBuilt b
    → b.parts ≡ parts ++ part ∷ [] → AddsLine line (Element.Line instruction) b
    (with_node_and_part (record b { parts = parts }) (Node.Line line instruction part.steps) part.second)
line_added {b} parts part line instruction sound was =
    let p = popped part parts sound was in
    record {
      sound = grown_sound (Node.Line line instruction part.steps) part.second p.0 p.2;
      parts = grown_parts (Node.Line line instruction part.steps) part.second p.0 p.2
          ∙ sym (ap (with_element line (Element.Line instruction)) p.3);
    }

pub repeat_added : {b : Built} (parts : List Part) (part body : Part) (line rounds : ℕ) → IsSoundlyBuilt b
    → b.parts ≡ (parts ++ part ∷ []) ++ body ∷ [] → AddsLine line (Element.Repeat rounds) b
    (with_node_and_part (record b { parts = parts }) (Node.Rounds rounds body.steps part.steps) part.second)
repeat_added {b} parts part body line rounds sound was =
    let p = popped body (parts ++ part ∷ []) sound was in
    let q = popped part parts p.0 refl in
    record {
      sound = grown_sound (Node.Rounds rounds body.steps part.steps) part.second q.0 q.2;
      parts = grown_parts (Node.Rounds rounds body.steps part.steps) part.second q.0 q.2 ∙ sym (ap (with_element line
          (Element.Repeat rounds)) (p.3 ∙ ap (λ (ps : List StepPart). part_at (trees b.nodes) body ∷ ps) q.3));
    }

pub if_added : {b : Built} (parts : List Part) (part branches : Part) (line number : ℕ) → IsSoundlyBuilt b
    → b.parts ≡ (parts ++ part ∷ []) ++ branches ∷ [] → AddsLine line (Element.If number) b (with_node_and_part
    (record b { parts = parts }) (Node.Choice number branches.steps branches.second part.steps) part.second)
if_added {b} parts part branches line number sound was =
    let p = popped branches (parts ++ part ∷ []) sound was in
    let q = popped part parts p.0 refl in
    record {
      sound = grown_sound (Node.Choice number branches.steps branches.second part.steps) part.second q.0 q.2;
      parts = grown_parts (Node.Choice number branches.steps branches.second part.steps)
          part.second q.0 q.2 ∙ sym (ap (with_element line (Element.If number)) (p.3
          ∙ ap (λ (ps : List StepPart). part_at (trees b.nodes) branches ∷ ps) q.3));
    }

put_parts : {b : Built} (second : ℕ) → IsSoundlyBuilt b
    → parts_in (with_part b 0 second) ≡ record { steps = Done; second = steps_at (trees b.nodes) second } ∷ parts_in b
put_parts second sound = grind (arith, parts_at_push)

pub else_added : {b : Built} (parts : List Part) (part : Part) (line : ℕ) → IsSoundlyBuilt b → b.parts ≡ parts
    ++ part ∷ [] → AddsLine line Element.Else b (with_part (record b { parts = parts }) 0 part.steps)
else_added {b} parts part line sound was =
    let p = popped part parts sound was in
    record {
      sound = record {
        some = sound.some;
        first = sound.first;
        parts = PartsAreWithin_push (length b.nodes) parts (record { steps = 0; second = part.steps }) p.0.parts
            sound.some p.1;
      };
      parts = put_parts part.steps p.0 ∙ sym (ap (with_element line Element.Else) p.3);
    }

pub end_added : {b : Built} (line : ℕ) → IsSoundlyBuilt b → AddsLine line Element.End b (with_part b 0 0)
end_added {b} line sound = record {
  sound = record {
    some = sound.some;
    first = sound.first;
    parts = PartsAreWithin_push (length b.nodes) b.parts (record { steps = 0; second = 0 }) sound.parts sound.some
        sound.some;
  };
  parts = cc (put_parts 0 sound, sound.first);
}
