-- The parts of a script, with numbers for their names.
use Rattle.std.proofs.Common.{slice_index_or}
use Rattle.mk_check.proofs.Vocabulary.{Element, Item, List, Part, Scope, ℕ, ap, arith, blocks_from, branch, drop}
use Rattle.mk_check.proofs.Vocabulary.{drop_more, element_of, length, map, numbered, outermost_blocks, parts_from}
use Rattle.mk_check.proofs.Vocabulary.{refl, sym, with_element, with_item, [], ◌+◌, ◌<◌, ◌∙◌, ◌∷◌, ◌≡◌}
use Rattle.mk_check.specs.Building.{StepPart, innermost_steps, parts_before, steps_before}

-- an open block, with numbers for its names
abbrev pub part_of : Scope → Part → StepPart
part_of scope part = record { steps = numbered scope part.blocks; second = numbered scope (branch part.second) }

part_of-with_item : (scope : Scope) (line : ℕ) (item : Item) (parts : List Part) → map (part_of scope)
    (with_item line item parts) ≡ with_element line (element_of scope item) (map (part_of scope) parts)
part_of-with_item scope line item parts = grind arith

numbered_parts : (scope : Scope) (line : ℕ) (items : List Item)
    → parts_before line (map (element_of scope) items) ≡ map (part_of scope) (parts_from line items)
numbered_parts scope line [] = refl
numbered_parts scope line (item ∷ items) =
    ap (with_element line (element_of scope item)) (numbered_parts scope (line + 1) items)
    ∙ sym (part_of-with_item scope line item (parts_from (line + 1) items))

innermost_part : (scope : Scope) (parts : List Part)
    → innermost_steps (map (part_of scope) parts) ≡ numbered scope (outermost_blocks parts)
innermost_part scope [] = refl
innermost_part scope (part ∷ parts) = refl

-- the steps before lines with numbers are the blocks of the lines, with numbers
pub numbered_steps : (scope : Scope) (line : ℕ) (items : List Item)
    → steps_before line (map (element_of scope) items) ≡ numbered scope (blocks_from line items)
numbered_steps scope line items =
    ap innermost_steps (numbered_parts scope line items) ∙ innermost_part scope (parts_from line items)

-- the parts from a line are those after it, with the line before them
pub parts_before_more : (line i next : ℕ) (elements : List Element) (e : Element) → i < length elements
    → e ≡ slice_index_or elements i e → next ≡ i + 1
    → with_element (line + i) e (parts_before (line + next) (drop next elements))
    ≡ parts_before (line + i) (drop i elements)
parts_before_more line i next elements e h is more = grind (arith, drop_more)
