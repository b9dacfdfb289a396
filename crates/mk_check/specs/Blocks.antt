-- A script as a tree of blocks, the lines that it stands for, and how many instructions it executes at most.
use Rattle.std.specs.Prelude.{◌≡◌, ℕ, zero, suc, ◌+◌, ◌<◌, ◌≤◌, Bool, true, false, List, [], ◌∷◌, length, Option, Some}
use Rattle.std.specs.Prelude.{None, ◌*◌, max, if◌then◌else◌, ◌⊎◌, ◌++◌, ◌-◌, ◌^◌, min, map}
use Rattle.mk_script.specs.declared.items.Item.{Item, TheVariants.{Script, Repeat, If, Else, End}}
use Rattle.mk_script.specs.{Scopes.{script_names, is_instruction}, Grammar.IsOfSomeText}
use Rattle.mk_check.specs.declared.lengths.PartCount.{PartCount}

-- Lines to run: a plain line, a `repeat` of a body, or an `if` on a number register with its two branches, each
-- with the lines after it.
pub data Blocks : Type 0 where
  Done : Blocks
  Line : (line : ℕ) → Item → Blocks → Blocks
  Rounds : (rounds : ℕ) → (body : Blocks) → Blocks → Blocks
  Choice : (number : List ℕ) → (first second : Blocks) → Blocks → Blocks

-- the lines of the first, and then those of the second
abbrev pub followed_by : Blocks → Blocks → Blocks
followed_by Done more = more
followed_by (Line line item rest) more = Line line item (followed_by rest more)
followed_by (Rounds rounds body rest) more = Rounds rounds body (followed_by rest more)
followed_by (Choice number first second rest) more = Choice number first second (followed_by rest more)

-- no line is left of the block
abbrev pub is_end_of_block : Blocks → Bool
is_end_of_block Done = true
is_end_of_block _ = false

-- A part of a script, read from its end: the blocks so far, and the second branch, where its `else` was read.
pub record Part : Type 0 where
  pub blocks : Blocks
  pub second : Option Blocks

-- a block without lines
abbrev pub no_lines : Part
no_lines = record { blocks = Done; second = None }

-- a line before the innermost part
abbrev pub with_line : ℕ → Item → List Part → List Part
with_line line item [] = []
with_line line item (part ∷ parts) = record part { blocks = Line line item part.blocks } ∷ parts

-- `repeat` before the innermost part, which was its body
abbrev pub with_repeat : ℕ → List Part → List Part
with_repeat rounds [] = []
with_repeat rounds (body ∷ []) = []
with_repeat rounds (body ∷ part ∷ parts) = record part { blocks = Rounds rounds body.blocks part.blocks } ∷ parts

-- the blocks of a branch, none if there is no such branch
abbrev pub branch : Option Blocks → Blocks
branch None = Done
branch (Some blocks) = blocks

-- `if` before the innermost part, which was its first branch
abbrev pub with_if : List ℕ → List Part → List Part
with_if number [] = []
with_if number (first ∷ []) = []
with_if number (first ∷ part ∷ parts) =
    record part { blocks = Choice number first.blocks (branch first.second) part.blocks } ∷ parts

-- `else` before the innermost part, which was the second branch
abbrev pub with_else : List Part → List Part
with_else [] = []
with_else (second ∷ parts) = record { blocks = Done; second = Some second.blocks } ∷ parts

-- the open blocks after one line more
abbrev pub with_item : ℕ → Item → List Part → List Part
with_item line (Repeat rounds) parts = with_repeat rounds parts
with_item line (If number) parts = with_if number parts
with_item line Else parts = with_else parts
with_item line End parts = no_lines ∷ parts
with_item line item parts = with_line line item parts

-- the open parts before the items, the innermost first; the first item stands at this line
abbrev pub parts_from : ℕ → List Item → List Part
parts_from line [] = no_lines ∷ []
parts_from line (item ∷ items) = with_item line item (parts_from (line + 1) items)

-- the blocks of the whole script
abbrev pub outermost_blocks : List Part → Blocks
outermost_blocks [] = Done
outermost_blocks (part ∷ parts) = part.blocks

-- the blocks of a script's items, the first of which stands at this line
abbrev pub blocks_from : ℕ → List Item → Blocks
blocks_from line items = outermost_blocks (parts_from line items)

-- A script: its name, and its items, the first of which stands at this line.
pub record ScriptText : Type 0 where
  pub name : List ℕ
  pub line : ℕ
  pub items : List Item

-- the items before the next script line
abbrev pub before_next_script : List Item → List Item
before_next_script [] = []
before_next_script (Script name ∷ items) = []
before_next_script (item ∷ items) = item ∷ before_next_script items

-- script k of the items, the first of which stands at this line
abbrev pub script_from : ℕ → ℕ → List Item → ScriptText
script_from line k [] = record { name = []; line = line; items = [] }
script_from line zero (Script name ∷ items) = record { name = name; line = line + 1; items = before_next_script items }
script_from line (suc k) (Script name ∷ items) = script_from (line + 1) k items
script_from line k (item ∷ items) = script_from (line + 1) k items

-- script k of a program, from 0 on
abbrev pub script_of : List Item → ℕ → ScriptText
script_of items k = script_from 1 k items

-- a program has script k, which has this name, and these lines of the program from this one on
pub record IsScriptAt (program : List Item) (k : ℕ) (name : List ℕ) (line : ℕ) (items : List Item) : Type 0 where
  pub some : k < length (script_names program)
  pub name_is : name ≡ (script_of program k).name
  pub line_is : line ≡ (script_of program k).line
  pub items_are : items ≡ (script_of program k).items
  pub within : line + length items ≤ length program + 1

-- An instruction counts 1, `repeat k` counts 1 + k * (1 + its body), and `if` counts 1 and the greater of its branches.
abbrev pub length_of : Blocks → ℕ
length_of Done = 0
length_of (Line line item rest) = (if is_instruction item then 1 else 0) + length_of rest
length_of (Rounds rounds body rest) = 1 + rounds * (1 + length_of body) + length_of rest
length_of (Choice number first second rest) = 1 + max (length_of first) (length_of second) + length_of rest

-- how many instructions a script executes at most
abbrev pub script_length : ScriptText → ℕ
script_length script = length_of (blocks_from script.line script.items)

-- a line that neither begins nor ends a block or a branch
abbrev pub is_plain : Item → Bool
is_plain (Repeat rounds) = false
is_plain (If number) = false
is_plain Else = false
is_plain End = false
is_plain item = true

-- Nothing, where the second branch has no line; or `else`, and lines that are so.
abbrev pub IsSecondBranch : (List Item → Type 0) → Blocks → List Item → Type 0
IsSecondBranch AreSo second items =
    ((items ≡ []) × (second ≡ Done)) ⊎ ((inner : List Item) × (items ≡ Else ∷ inner) × AreSo inner)

-- The items, of which the first stands at this line, are the lines of the blocks, with their `else` and `end`.
abbrev pub AreWritten : ℕ → Blocks → List Item → Type 0
AreWritten line Done items = items ≡ []
AreWritten line (Line at item rest) items =
    (more : List Item) × (items ≡ item ∷ more) × (at ≡ line) × (is_plain item ≡ true) × AreWritten (line + 1) rest more
AreWritten line (Rounds rounds body rest) items =
    (inner more : List Item) × (items ≡ Repeat rounds ∷ (inner ++ End ∷ more)) × AreWritten (line + 1) body inner
    × AreWritten (line + 1 + length inner + 1) rest more
AreWritten line (Choice number first second rest) items =
    (inner other more : List Item) × (items ≡ If number ∷ (inner ++ (other ++ End ∷ more)))
    × AreWritten (line + 1) first inner
    × IsSecondBranch (AreWritten (line + 1 + length inner + 1) second) second other
    × AreWritten (line + 1 + length inner + length other + 1) rest more

-- The blocks of each script of a text, written out as lines again, are its lines.
abbrev pub ScriptsAreTheirLines : List Item → Type 0
ScriptsAreTheirLines program = IsOfSomeText program → (k : ℕ)
    → AreWritten (script_of program k).line (blocks_from (script_of program k).line (script_of program k).items)
    (script_of program k).items

-- What is counted of the open parts of a script that is read from its end. Private functions alone cite these words.

-- the count, at most 2^64 - 1
abbrev pub saturated_count : ℕ → ℕ
saturated_count n = min n (2 ^ 64 - 1)

-- the counts of a part's lines and of its second branch
abbrev pub count_of : Part → PartCount
count_of part =
    record {
      lines = saturated_count (length_of part.blocks);
      second = saturated_count (length_of (branch part.second));
    }

-- what is counted of each open part
abbrev pub counts_of : List Part → List PartCount
counts_of parts = map count_of parts

-- nothing counted yet
abbrev pub no_count : PartCount
no_count = record { lines = 0; second = 0 }

-- the count of the innermost open block
abbrev pub innermost_count : List PartCount → PartCount
innermost_count [] = no_count
innermost_count (count ∷ counts) = count

-- those of the blocks around it
abbrev pub outer_counts : List PartCount → List PartCount
outer_counts [] = []
outer_counts (count ∷ counts) = counts

-- the innermost part's counts changed so
abbrev pub with_innermost : (PartCount → PartCount) → List PartCount → List PartCount
with_innermost f [] = []
with_innermost f (count ∷ counts) = f count ∷ counts
