-- A script's tree, built from its last line on.
-- Private functions alone cite these words.
use Rattle.std.specs.Prelude.{◌≡◌, ℕ, ◌+◌, ◌<◌, ◌++◌, List, [], ◌∷◌, length, fold}
use Rattle.mk_check.specs.{declared.feeding.instructions.Element.Element, declared.feeding.tree.Node.Node}
use Rattle.mk_check.specs.{declared.feeding.building.Part.Part, Steps.{Steps, Done, Line}}
use Rattle.mk_check.specs.{Steps.{Rounds, Choice}, Trees.{steps_at, trees}}
use Rattle.mk_check.specs.declared.feeding.instructions.Element.TheVariants as element

-- A part of a script, as Blocks has it: its steps, and the second branch's, none where no `else` was read.
pub record StepPart : Type 0 where
  pub steps : Steps
  pub second : Steps

-- a line before the parts
abbrev pub with_element : ℕ → Element → List StepPart → List StepPart
with_element line (element.Line instruction) [] = []
with_element line (element.Line instruction) (part ∷ parts) =
    record part { steps = Line line instruction part.steps } ∷ parts
with_element line (element.Repeat rounds) [] = []
with_element line (element.Repeat rounds) (body ∷ []) = []
with_element line (element.Repeat rounds) (body ∷ part ∷ parts) =
    record part { steps = Rounds rounds body.steps part.steps } ∷ parts
with_element line (element.If number) [] = []
with_element line (element.If number) (first ∷ []) = []
with_element line (element.If number) (first ∷ part ∷ parts) =
    record part { steps = Choice number first.steps first.second part.steps } ∷ parts
with_element line element.Else [] = []
with_element line element.Else (second ∷ parts) = record { steps = Done; second = second.steps } ∷ parts
with_element line element.End parts = record { steps = Done; second = Done } ∷ parts

-- what was read of the innermost open block
abbrev pub innermost_steps : List StepPart → Steps
innermost_steps [] = Done
innermost_steps (part ∷ parts) = part.steps

-- the open parts before the lines, the innermost first; the first line has this number
abbrev pub parts_before : ℕ → List Element → List StepPart
parts_before line [] = record { steps = Done; second = Done } ∷ []
parts_before line (e ∷ elements) = with_element line e (parts_before (line + 1) elements)

-- the steps of a script's lines
abbrev pub steps_before : ℕ → List Element → Steps
steps_before line elements = innermost_steps (parts_before line elements)

-- The nodes so far, and the open parts, the outermost first.
pub record Built : Type 0 where
  pub nodes : List Node
  pub parts : List Part

-- an open block, whose blocks are these nodes
abbrev pub part_at : List Steps → Part → StepPart
part_at built part = record { steps = steps_at built part.steps; second = steps_at built part.second }

-- the parts, the innermost first
abbrev pub parts_at : List Steps → List Part → List StepPart
parts_at built parts = fold (λ behind part. part_at built part ∷ behind) [] parts

-- the open blocks of a tree that is being built
abbrev pub parts_in : Built → List StepPart
parts_in b = parts_at (trees b.nodes) b.parts

-- The open blocks name nodes that are there.
abbrev pub PartsAreWithin : ℕ → List Part → Type 0
PartsAreWithin count [] = Unit {0}
PartsAreWithin count (part ∷ parts) = (part.steps < count) × (part.second < count) × PartsAreWithin count parts

-- the first node is the end of a block, and the parts name nodes that are there
pub record IsSoundlyBuilt (b : Built) : Type 0 where
  pub some : 0 < length b.nodes
  pub first : steps_at (trees b.nodes) 0 ≡ Done
  pub parts : PartsAreWithin (length b.nodes) b.parts

-- one open block more
abbrev pub with_part : Built → ℕ → ℕ → Built
with_part b steps second = record b { parts = b.parts ++ record { steps = steps; second = second } ∷ [] }

-- one more node, which begins a part
abbrev pub with_node_and_part : Built → Node → ℕ → Built
with_node_and_part b n second = with_part (record b { nodes = b.nodes ++ n ∷ [] }) (length b.nodes) second

-- the new nodes and parts have the line before those that were there
pub record AddsLine (line : ℕ) (e : Element) (old new : Built) : Type 0 where
  pub sound : IsSoundlyBuilt new
  pub parts : parts_in new ≡ with_element line e (parts_in old)
