-- The blocks of a script of a text are few that stand in one another.
use Rattle.mk_check.proofs.Vocabulary.{ArePassed, Blocks, Choice, Done, Item, Line, List, None, Part, Rounds, Scope, ℕ}
use Rattle.mk_check.proofs.Vocabulary.{ap, arith, before_next_script, blocks_from, branch, depth_of, fold_push}
use Rattle.mk_check.proofs.Vocabulary.{is_whole, length, limit_fault, max, numbered, outermost_blocks, parts_from, refl}
use Rattle.mk_check.proofs.Vocabulary.{script_of, subst, with_line, [], ◌++◌, ◌+◌, ◌-◌, ◌∷◌, ◌≡◌, ◌≤◌}
use Rattle.mk_check.{proofs.GrammarLemmas.{at_most-None, of_script}, specs.Blocks.{with_else, with_if}}
use Rattle.mk_script.specs.{Scopes.{behind_else, behind_end, open_behind, open_blocks}, Grammar.IsOfSomeText}
use Rattle.mk_script.specs.declared.scope.OpenBlock.{OpenBlock}

abbrev depth : Blocks → ℕ
depth Done = 0
depth (Line line item rest) = depth rest
depth (Rounds rounds body rest) = max (1 + depth body) (depth rest)
depth (Choice number first second rest) = max (1 + max (depth first) (depth second)) (depth rest)

depth-numbered : (scope : Scope) (blocks : Blocks) → depth_of (numbered scope blocks) ≡ depth blocks
depth-numbered scope Done = refl
depth-numbered scope (Line line item rest) = depth-numbered scope rest
depth-numbered scope (Rounds rounds body rest) =
    let e = depth-numbered scope body in let f = depth-numbered scope rest in cc
depth-numbered scope (Choice number first second rest) =
    let e = depth-numbered scope first in
    let f = depth-numbered scope second in
    let g = depth-numbered scope rest in cc

-- The innermost part comes first, which has as many blocks around it.
abbrev PartsFit : ℕ → List Part → Type 0
PartsFit around [] = Unit {0}
PartsFit around (part ∷ parts) =
    ((around + depth part.blocks ≤ 32) × (around + depth (branch part.second) ≤ 32)) × PartsFit (around - 1) parts

line_fits : (around line : ℕ) (item : Item) (parts : List Part) → PartsFit around parts
    → PartsFit around (with_line line item parts)
line_fits around line item x3 h = grind arith

if_fits : (around : ℕ) (number : List ℕ) (parts : List Part) → PartsFit (around + 1) parts
    → PartsFit around (with_if number parts)
if_fits around number x2 h = grind arith

else_fits : (around : ℕ) (parts : List Part) → around ≤ 32 → PartsFit around parts → PartsFit around (with_else parts)
else_fits around x1 few h = grind arith

-- How many blocks are open.

abbrev opened : List Item → ℕ
opened items = length (open_blocks items)

opened_push : (before : List Item) (item : Item)
    → opened (before ++ item ∷ []) ≡ length (open_behind (open_blocks before) item)
opened_push before item = ap (λ (bs : List OpenBlock). length bs) (fold_push open_behind [] before item)

length-behind_else : (blocks : List OpenBlock) → length (behind_else blocks) ≡ length blocks
length-behind_else x0 = grind arith

length-behind_end : (blocks : List OpenBlock) → length (behind_end blocks) ≡ length blocks - 1
length-behind_end x0 = grind arith

few_open : (before : List Item) (item : Item) → limit_fault before item ≡ None → opened before ≤ 32
    → opened (before ++ item ∷ []) ≤ 32
few_open before item limit h = grind (arith, opened_push, at_most-None, opened, length-behind_else, length-behind_end)

-- The parts of a script before its lines that are left.

module _ (before more : List Item) (line : ℕ) where
  -- what the parts behind a line are to be
  abbrev Behind : Item → Type 0
  Behind item = PartsFit (opened (before ++ item ∷ [])) (parts_from (line + 1) (before_next_script more))

  around_it : (item : Item) (n : ℕ) → opened (before ++ item ∷ []) ≡ n → Behind item
      → PartsFit n (parts_from (line + 1) (before_next_script more))
  around_it item n e h = subst (λ (m : ℕ). PartsFit m (parts_from (line + 1) (before_next_script more))) e h

  parts_before : (item : Item) → opened before ≤ 32 → Behind item
      → PartsFit (opened before) (parts_from line (before_next_script (item ∷ more)))
  parts_before item few h =
      grind (
        arith,
        opened,
        around_it,
        opened_push,
        if_fits,
        else_fits,
        length-behind_else,
        length-behind_end,
        line_fits,
      )

parts_fit : (before more : List Item) (line : ℕ) → ArePassed before more → opened before ≤ 32
    → PartsFit (opened before) (parts_from line (before_next_script more))
parts_fit before [] line passed few = ((omega arith, omega arith), tt)
parts_fit before (item ∷ more) line passed few =
    parts_before before more line item few
    (parts_fit (before ++ item ∷ []) more (line + 1) passed.1 (few_open before item passed.0.within few))

outermost_fits : (around : ℕ) (parts : List Part) → PartsFit around parts → depth (outermost_blocks parts) ≤ 32
outermost_fits around x1 h = grind arith

pub text_has_few_blocks : (program : List Item) (k : ℕ) (scope : Scope) → IsOfSomeText program
    → depth_of (numbered scope (blocks_from (script_of program k).line (script_of program k).items)) ≤ 32
text_has_few_blocks program k scope text =
    omega (
      arith,
      depth-numbered scope (blocks_from (script_of program k).line (script_of program k).items),
      of_script (λ before. opened before ≤ 32) (λ line items. depth (blocks_from line items) ≤ 32) few_open
          (λ line. omega arith) (λ before more line passed few. outermost_fits (opened before)
          (parts_from line (before_next_script more)) (parts_fit before more line passed few)) [] program 1 k
          (is_whole program text).lines (omega arith),
    )
