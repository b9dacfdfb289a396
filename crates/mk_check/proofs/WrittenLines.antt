-- The blocks of a script are its lines.
use Rattle.mk_check.proofs.Vocabulary.{Blocks, Bool, Choice, Done, Item, Line, List, None, Option, Part, Rounds, Some}
use Rattle.mk_check.proofs.Vocabulary.{ℕ, ap, append_assoc, arith, before_next_script, branch, false, inl, inr, length}
use Rattle.mk_check.proofs.Vocabulary.{length-append, outermost_blocks, parts_from, refl, script_from, script_of, subst}
use Rattle.mk_check.proofs.Vocabulary.{suc, sym, true, with_line, zero, [], ◌++◌, ◌+◌, ◌∙◌, ◌∷◌, ◌≡◌}
use Rattle.mk_check.specs.Blocks.{no_lines, with_else, with_if, with_repeat}
use Rattle.mk_check.specs.Blocks.{AreWritten, IsSecondBranch, ScriptsAreTheirLines, is_plain}
use Rattle.mk_script.proofs.ClosedBlocks.{Closes, program_closes}
use Rattle.mk_script.specs.declared.items.Item.TheVariants.{Else, End, If, Repeat, Script}

-- what stands after the `else` of a part, which may be one that has none
abbrev MayHave : Bool → Option Blocks → Type 0
MayHave true second = Unit {0}
MayHave false second = second ≡ None

-- a part's lines, in two branches where its `else` was read
abbrev BranchesAreWritten : ℕ → Blocks → Option Blocks → List Item → Type 0
BranchesAreWritten line blocks None items = AreWritten line blocks items
BranchesAreWritten line blocks (Some second) items =
    (first other : List Item) × (items ≡ first ++ Else ∷ other) × AreWritten line blocks first
    × AreWritten (line + length first + 1) second other

-- The lines are those of the innermost part, its `end`, and those of the parts around it.
abbrev Stands : ℕ → List Bool → List Part → List Item → Type 0
Stands line [] (part ∷ []) items = (part.second ≡ None) × AreWritten line part.blocks items
Stands line (block ∷ blocks) (part ∷ next ∷ parts) items =
    (inner more : List Item) × (items ≡ inner ++ End ∷ more) × MayHave block part.second × BranchesAreWritten line
    part.blocks part.second inner × Stands (line + length inner + 1) blocks (next ∷ parts) more
Stands line blocks parts items = ⊥

moved : (P : ℕ → Type 0) (m n : ℕ) → m ≡ n → P m → P n
moved P m n e h = subst P e h

-- lines before the innermost part

branches_behind : (line line' : ℕ) (front : List Item) (B : Blocks → Blocks) → line + length front ≡ line'
    → ((rest : Blocks) (items : List Item) → AreWritten line' rest items → AreWritten line (B rest) (front ++ items))
    → (blocks : Blocks) (second : Option Blocks) (items : List Item) → BranchesAreWritten line' blocks second items
    → BranchesAreWritten line (B blocks) second (front ++ items)
branches_behind line line' front B e f blocks None items h = f blocks items h
branches_behind line line' front B e f blocks (Some second) items (first, other, are, written, others) = (
  front ++ first,
  other,
  ap (λ (xs : List Item). front ++ xs) are ∙ sym (append_assoc front first (Else ∷ other)),
  f blocks first written,
  moved (λ n. AreWritten n second other) _ _ (omega (arith, e, length-append front first)) others,
)

in_front : (line line' : ℕ) (front : List Item) (B : Blocks → Blocks) → line + length front ≡ line'
    → ((rest : Blocks) (items : List Item) → AreWritten line' rest items → AreWritten line (B rest) (front ++ items))
    → (blocks : List Bool) (part : Part) (parts : List Part) (items : List Item) → Stands line' blocks
    (part ∷ parts) items → Stands line blocks (record part { blocks = B part.blocks } ∷ parts) (front ++ items)
in_front line line' front B e f (block ∷ blocks) part (next ∷ parts) items (inner, more, are, may, written, rest) = (
  front ++ inner,
  more,
  ap (λ (xs : List Item). front ++ xs) are ∙ sym (append_assoc front inner (End ∷ more)),
  may,
  branches_behind line line' front B e f part.blocks part.second inner written,
  moved (λ n. Stands n blocks (next ∷ parts) more) _ _ (omega (arith, e, length-append front inner)) rest,
)
in_front line line' front x4 e f x7 part x9 items h = grind arith

plain_stands : (line : ℕ) (item : Item) (blocks : List Bool) (parts : List Part) (items : List Item) → is_plain item
    ≡ true → Stands (line + 1) blocks parts items → Stands line blocks (with_line line item parts) (item ∷ items)
plain_stands line item [] [] items plain h = absurd h
plain_stands line item (block ∷ blocks) [] items plain h = absurd h
plain_stands line item blocks (part ∷ parts) items plain h =
    in_front line (line + 1) (item ∷ []) (Line line item) (omega arith) (λ rest xs w. (xs, refl, refl, plain, w)) blocks
    part parts items h

-- a part without an `else`
only_first : (line : ℕ) (part : Part) (items : List Item) → part.second ≡ None
    → BranchesAreWritten line part.blocks part.second items → AreWritten line part.blocks items
only_first line part items none h = subst (λ (s : Option Blocks). BranchesAreWritten line part.blocks s items) none h

repeat_stands : (line rounds : ℕ) (blocks : List Bool) (parts : List Part) (items : List Item) → Stands (line + 1)
    (false ∷ blocks) parts items → Stands line blocks (with_repeat rounds parts) (Repeat rounds ∷ items)
repeat_stands line rounds blocks [] items h = absurd h
repeat_stands line rounds blocks (body ∷ []) items h = absurd h
repeat_stands line rounds blocks (body ∷ part ∷ parts) items (inner, more, are, none, written, rest) =
    let front : List Item = Repeat rounds ∷ (inner ++ End ∷ []) in
    let whole : front ++ more ≡ Repeat rounds ∷ items =
    ap (λ (xs : List Item). Repeat rounds ∷ xs) (append_assoc inner (End ∷ []) more ∙ sym are) in
    subst (λ (xs : List Item). Stands line blocks (record part { blocks = Rounds rounds body.blocks part.blocks } ∷
    parts) xs) whole (in_front line (line + 1 + length inner + 1) front (Rounds rounds body.blocks)
    (omega (arith, length-append inner (End ∷ []))) (λ others xs w. (
      inner,
      xs,
      ap (λ (ys : List Item). Repeat rounds ∷ ys) (append_assoc inner (End ∷ []) xs),
      only_first (line + 1) body inner none written,
      w,
    )) blocks part parts more rest)

-- a first branch with its second
if_stands : (line : ℕ) (number : List ℕ) (first second : Blocks) (one other : List Item) (blocks : List Bool)
    (part : Part) (parts : List Part) (more : List Item) → AreWritten (line + 1) first one
    → IsSecondBranch (AreWritten (line + 1 + length one + 1) second) second other
    → Stands (line + 1 + length one + length other + 1) blocks (part ∷ parts) more → Stands line blocks (record part
    { blocks = Choice number first second part.blocks } ∷ parts) (If number ∷ (one ++ (other ++ End ∷ more)))
if_stands line number first second one other blocks part parts more f s rest =
    let front : List Item = If number ∷ (one ++ (other ++ End ∷ [])) in
    let joined : (xs : List Item) → front ++ xs ≡ If number ∷ (one ++ (other ++ End ∷ xs)) =
    λ xs. ap (λ (ys : List Item). If number ∷ ys)
    (append_assoc one (other ++ End ∷ []) xs ∙ ap (λ (ys : List Item). one ++ ys) (append_assoc other (End ∷ []) xs)) in
    subst (λ (xs : List Item). Stands line blocks (record part { blocks = Choice number first second part.blocks } ∷
    parts) xs) (joined more) (in_front line (line + 1 + length one + length other + 1) front
    (Choice number first second) (omega (arith, length-append one (other ++ End ∷ []), length-append other (End ∷ [])))
    (λ others xs w. (one, other, xs, joined xs, f, s, w)) blocks part parts more rest)

choice_stands : (line : ℕ) (number : List ℕ) (first : Blocks) (second : Option Blocks) (inner more : List Item)
    (blocks : List Bool) (part : Part) (parts : List Part) → BranchesAreWritten (line + 1) first second inner
    → Stands (line + 1 + length inner + 1) blocks (part ∷ parts) more → Stands line blocks (record part
    { blocks = Choice number first (branch second) part.blocks } ∷ parts) (If number ∷ (inner ++ End ∷ more))
choice_stands line number first None inner more blocks part parts written rest =
    if_stands line number first Done inner [] blocks part parts more written (inl (refl, refl))
    (moved (λ n. Stands n blocks (part ∷ parts) more) _ _ (omega arith) rest)
choice_stands line number first (Some second) inner more blocks part parts (one, other, are, written, others) rest =
    let whole : one ++ ((Else ∷ other) ++ End ∷ more) ≡ inner ++ End ∷ more =
    sym (append_assoc one (Else ∷ other) (End ∷ more)) ∙ ap (λ (xs : List Item). xs ++ End ∷ more) (sym are) in
    subst (λ (xs : List Item). Stands line blocks (record part { blocks = Choice number first second part.blocks } ∷
    parts) (If number ∷ xs)) whole (if_stands line number first second one (Else ∷ other) blocks part parts more written
    (inr (other, refl, others)) (moved (λ n. Stands n blocks (part ∷ parts) more) _ _
    (omega (arith, ap length are, length-append one (Else ∷ other))) rest))

if_first : (line : ℕ) (number : List ℕ) (blocks : List Bool) (parts : List Part) (items : List Item)
    → Stands (line + 1) (true ∷ blocks) parts items → Stands line blocks (with_if number parts) (If number ∷ items)
if_first line number blocks x3 items h = grind (arith, choice_stands)

else_stands : (line : ℕ) (blocks : List Bool) (parts : List Part) (items : List Item)
    → Stands (line + 1) (false ∷ blocks) parts items → Stands line (true ∷ blocks) (with_else parts) (Else ∷ items)
else_stands line blocks [] items h = absurd h
else_stands line blocks (second ∷ []) items h = absurd h
else_stands line blocks (second ∷ part ∷ parts) items (inner, more, are, none, written, rest) = (
  Else ∷ inner,
  more,
  ap (λ (xs : List Item). Else ∷ xs) are,
  tt,
  (
    [],
    inner,
    refl,
    refl,
    moved (λ n. AreWritten n second.blocks inner) _ _ (omega arith) (only_first (line + 1) second inner none written),
  ),
  moved (λ n. Stands n blocks (part ∷ parts) more) _ _ (omega arith) rest,
)

end_stands : (line : ℕ) (block : Bool) (blocks : List Bool) (parts : List Part) (items : List Item)
    → Stands (line + 1) blocks parts items → Stands line (block ∷ blocks) (no_lines ∷ parts) (End ∷ items)
end_stands line block blocks [] items h = absurd (no_part blocks items h)
  where
    no_part : (bs : List Bool) (xs : List Item) → Stands (line + 1) bs [] xs → ⊥
    no_part [] xs k = k
    no_part (b ∷ bs) xs k = k
end_stands line block blocks (part ∷ parts) items h = grind (arith, moved, Stands)

stands : (line : ℕ) (blocks : List Bool) (items : List Item) → Closes blocks items
    → Stands line blocks (parts_from line items) items
stands line [] [] h = (refl, refl)
stands line (block ∷ blocks) [] h = cc
stands line blocks (Repeat rounds ∷ items) h =
    repeat_stands line rounds blocks (parts_from (line + 1) items) items (stands (line + 1) (false ∷ blocks) items h)
stands line blocks (If number ∷ items) h =
    if_first line number blocks (parts_from (line + 1) items) items (stands (line + 1) (true ∷ blocks) items h)
stands line [] (Else ∷ items) h = absurd h
stands line (true ∷ blocks) (Else ∷ items) h =
    else_stands line blocks (parts_from (line + 1) items) items (stands (line + 1) (false ∷ blocks) items h)
stands line (false ∷ blocks) (Else ∷ items) h = absurd h
stands line [] (End ∷ items) h = absurd h
stands line (block ∷ blocks) (End ∷ items) h =
    end_stands line block blocks (parts_from (line + 1) items) items (stands (line + 1) blocks items h)
stands line [] (Script name ∷ items) h =
    plain_stands line (Script name) [] (parts_from (line + 1) items) items refl (stands (line + 1) [] items h)
stands line (block ∷ blocks) (Script name ∷ items) h = absurd h
stands line blocks (item ∷ items) h = plain_stands line item blocks (parts_from (line + 1) items) items refl
    (stands (line + 1) blocks items h)

outermost_written : (line : ℕ) (parts : List Part) (items : List Item) → Stands line [] parts items
    → AreWritten line (outermost_blocks parts) items
outermost_written line x1 items h = grind arith

-- The lines of one script close their blocks.

front_closes : (blocks : List Bool) (items : List Item) → Closes blocks items → Closes blocks (before_next_script items)
front_closes blocks [] h = h
front_closes blocks (Repeat rounds ∷ items) h = front_closes (false ∷ blocks) items h
front_closes blocks (If number ∷ items) h = front_closes (true ∷ blocks) items h
front_closes [] (Else ∷ items) h = absurd h
front_closes (true ∷ blocks) (Else ∷ items) h = front_closes (false ∷ blocks) items h
front_closes (false ∷ blocks) (Else ∷ items) h = absurd h
front_closes [] (End ∷ items) h = absurd h
front_closes (block ∷ blocks) (End ∷ items) h = front_closes blocks items h
front_closes [] (Script name ∷ items) h = refl
front_closes (block ∷ blocks) (Script name ∷ items) h = absurd h
front_closes blocks (item ∷ items) h = front_closes blocks items h

-- what closes after a line, whichever blocks are open there
record Later (items : List Item) : Type 0 where
  blocks : List Bool
  closes : Closes blocks items

later : (blocks : List Bool) (item : Item) (items : List Item) → Closes blocks (item ∷ items) → Later items
later blocks x1 items h = grind arith

script_closes : (line k : ℕ) (items : List Item) → Later items → Closes [] (script_from line k items).items
script_closes line k [] l = refl
script_closes line zero (Script name ∷ items) l = grind (arith, front_closes, Closes)
script_closes line (suc k) (Script name ∷ items) l =
    script_closes (line + 1) k items (later l.blocks (Script name) items l.closes)
script_closes line zero (item ∷ items) l = script_closes (line + 1) zero items (later l.blocks item items l.closes)
script_closes line (suc k) (item ∷ items) l =
    script_closes (line + 1) (suc k) items (later l.blocks item items l.closes)

pub scripts_are_their_lines : (program : List Item) → ScriptsAreTheirLines program
scripts_are_their_lines program text k =
    let script = script_of program k in
    let closes = script_closes 1 k program (record { blocks = []; closes = program_closes program text }) in
    outermost_written script.line (parts_from script.line script.items) script.items
    (stands script.line [] script.items closes)
