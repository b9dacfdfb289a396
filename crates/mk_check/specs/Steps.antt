-- A script with numbers for its names, and what it does. It is the script of the definitions in Feed, with less to
-- look up.
-- Private functions cite these words, and public clauses only by what a `Feed` stands for.
use Rattle.std.specs.Prelude.{ℕ, zero, suc, ◌+◌, ◌-◌, ◌%◌, ◌^◌, Bool, true, false, List, [], ◌++◌, slice_index}
use Rattle.std.specs.Prelude.{slice_set, ◌==◌, ◌&&◌, ◌||◌, if◌then◌else◌, not, Option, Some, None, is_some}
use Rattle.std.specs.Fmt.{decimal}
use Rattle.mk_never.specs.declared.operations.Op.{Op}
use Rattle.mk_core.specs.declared.events.Answer.{Answer}
use Rattle.mk_script.specs.declared.items.Item.{Item}
use Rattle.mk_check.specs.{declared.feeding.instructions.Instruction.Instruction, Feed.{show_text, Scope}}
use Rattle.mk_check.specs.Feed.{pointer_place, newline, is_refusal, answered_number}
use Rattle.mk_check.specs.declared.feeding.instructions.Instruction.TheVariants.{Nothing, Const, Add, Sub, Print, New}
use Rattle.mk_check.specs.declared.feeding.instructions.Instruction.TheVariants.{Free, GetPtr, SetPtr, Lea, Move, Clear}
use Rattle.mk_check.specs.declared.feeding.instructions.Instruction.TheVariants.{GetGlobal, SetGlobal, SetNum, GetNum}
use Rattle.mk_check.specs.declared.feeding.instructions.Instruction.TheVariants.{CasPtr, Same, IsNull, Show}
use Rattle.mk_check.specs.{declared.feeding.instructions.Element.Element, Declarations.number_of_name, Blocks.Blocks}
use Rattle.mk_never.specs.declared.operations.Op.TheVariants as op
use Rattle.mk_script.specs.declared.items.Item.TheVariants as item
use Rattle.mk_check.specs.declared.feeding.instructions.Element.TheVariants as element
use Rattle.mk_check.specs.Blocks as blocks

-- Lines to run, as Blocks has them.
pub data Steps : Type 0 where
  Done : Steps
  Line : (line : ℕ) → Instruction → Steps → Steps
  Rounds : (rounds : ℕ) → (body : Steps) → Steps → Steps
  Choice : (number : ℕ) → (first second : Steps) → Steps → Steps

-- the steps of the first, and then those of the second
abbrev pub then_steps : Steps → Steps → Steps
then_steps Done more = more
then_steps (Line line instruction rest) more = Line line instruction (then_steps rest more)
then_steps (Rounds rounds body rest) more = Rounds rounds body (then_steps rest more)
then_steps (Choice number first second rest) more = Choice number first second (then_steps rest more)

-- no line is left
abbrev pub none_left : Steps → Bool
none_left Done = true
none_left _ = false

-- the register of a number's name
abbrev pub number_place : Scope → List ℕ → ℕ
number_place scope name = number_of_name name scope.numbers

-- a line that is neither the head nor the end of a block
abbrev pub instruction_of : Scope → Item → Instruction
instruction_of scope (item.New pointer ty) = New (pointer_place scope pointer) (number_of_name ty scope.types)
instruction_of scope (item.Free pointer) = Free (pointer_place scope pointer)
instruction_of scope (item.Getn number pointer index) =
    GetNum (pointer_place scope pointer) (number_place scope number) index
instruction_of scope (item.Setn pointer index number) =
    SetNum (pointer_place scope pointer) (number_place scope number) index
instruction_of scope (item.Getp loaded pointer index) =
    GetPtr (pointer_place scope loaded) (pointer_place scope pointer) index
instruction_of scope (item.Setp pointer index stored) =
    SetPtr (pointer_place scope pointer) index (pointer_place scope stored)
instruction_of scope (item.Casp number pointer index expected stored) =
    CasPtr (pointer_place scope pointer) (pointer_place scope expected) (pointer_place scope stored)
    (number_place scope number) index
instruction_of scope (item.Lea moved pointer index) =
    Lea (pointer_place scope moved) (pointer_place scope pointer) index
instruction_of scope (item.Move copied pointer) = Move (pointer_place scope copied) (pointer_place scope pointer)
instruction_of scope (item.Clear pointer) = Clear (pointer_place scope pointer)
instruction_of scope (item.Loadg loaded global) =
    GetGlobal (pointer_place scope loaded) (number_of_name global scope.globals)
instruction_of scope (item.Storeg stored global) =
    SetGlobal (number_of_name global scope.globals) (pointer_place scope stored)
instruction_of scope (item.Same number first second) =
    Same (pointer_place scope first) (pointer_place scope second) (number_place scope number)
instruction_of scope (item.Isnull number pointer) = IsNull (pointer_place scope pointer) (number_place scope number)
instruction_of scope (item.Show pointer) = Show (pointer_place scope pointer)
instruction_of scope (item.Const number value) = Const (number_place scope number) value
instruction_of scope (item.Add number left right) =
    Add (number_place scope number) (number_place scope left) (number_place scope right)
instruction_of scope (item.Sub number left right) =
    Sub (number_place scope number) (number_place scope left) (number_place scope right)
instruction_of scope (item.Print number) = Print (number_place scope number)
instruction_of scope _ = Nothing

-- the same for lines of some sort
abbrev pub instruction_of_sort : (Item → Bool) → Scope → Item → Instruction
instruction_of_sort is_of_sort scope item = if is_of_sort item then instruction_of scope item else Nothing

-- what a line adds to the script's tree
abbrev pub element_of : Scope → Item → Element
element_of scope (item.Repeat rounds) = element.Repeat rounds
element_of scope (item.If number) = element.If (number_place scope number)
element_of scope item.Else = element.Else
element_of scope item.End = element.End
element_of scope other = element.Line (instruction_of scope other)

-- the blocks with numbers for their names
abbrev pub numbered : Scope → Blocks → Steps
numbered scope blocks.Done = Done
numbered scope (blocks.Line line item rest) = Line line (instruction_of scope item) (numbered scope rest)
numbered scope (blocks.Rounds rounds body rest) = Rounds rounds (numbered scope body) (numbered scope rest)
numbered scope (blocks.Choice number first second rest) =
    Choice (number_place scope number) (numbered scope first) (numbered scope second) (numbered scope rest)

-- the number registers, and the text so far
pub record KeptState : Type 0 where
  pub numbers : List ℕ
  pub text : List ℕ

-- what is left to run, and what is kept
pub record Stopped : Type 0 where
  pub left : Steps
  pub kept : KeptState

-- the operation that an instruction asks for
abbrev pub op_asked : List ℕ → Instruction → Option Op
op_asked numbers (New d ty) = Some (op.New d ty false)
op_asked numbers (Free p) = Some (op.Free p)
op_asked numbers (GetPtr d q i) = Some (op.GetPtr d q i)
op_asked numbers (SetPtr q i p) = Some (op.SetPtr q i p)
op_asked numbers (Lea d q i) = Some (op.Lea d q i)
op_asked numbers (Move d q) = Some (op.Move d q)
op_asked numbers (Clear d) = Some (op.Clear d)
op_asked numbers (GetGlobal d g) = Some (op.GetGlobal d g)
op_asked numbers (SetGlobal g p) = Some (op.SetGlobal g p)
op_asked numbers (SetNum q number i) = Some (op.SetNum q i (slice_index numbers number))
op_asked numbers (GetNum q number i) = Some (op.GetNum q i)
op_asked numbers (CasPtr q p r number i) = Some (op.CasPtr q i p r)
op_asked numbers (Same p q number) = Some (op.Same p q)
op_asked numbers (IsNull p number) = Some (op.IsNull p)
op_asked numbers (Show p) = Some (op.IsNull p)
op_asked numbers _ = None

-- the registers, with this number in one
abbrev pub with_value : KeptState → ℕ → ℕ → KeptState
with_value kept number value = record kept { numbers = slice_set kept.numbers number value }

-- the script's text, with this after it
abbrev pub with_text : KeptState → List ℕ → KeptState
with_text kept text = record kept { text = kept.text ++ text }

-- what another instruction does
abbrev pub after_line : Instruction → KeptState → KeptState
after_line (Const number value) kept = with_value kept number value
after_line (Add number left right) kept =
    with_value kept number ((slice_index kept.numbers left + slice_index kept.numbers right) % 2 ^ 64)
after_line (Sub number left right) kept =
    with_value kept number ((2 ^ 64 + slice_index kept.numbers left - slice_index kept.numbers right) % 2 ^ 64)
after_line (Print number) kept = with_text kept (decimal (slice_index kept.numbers number) ++ newline)
after_line _ kept = kept

-- what runs after a part that may have stopped at an operation
abbrev pub stop_behind : Stopped → (KeptState → Stopped) → Steps → Stopped
stop_behind stopped go rest =
    if none_left stopped.left then go stopped.kept else record stopped { left = then_steps stopped.left rest }

-- rounds of a body
abbrev pub stop_of_rounds : ℕ → Steps → (KeptState → Stopped) → KeptState → Stopped
stop_of_rounds zero body go kept = record { left = Done; kept = kept }
stop_of_rounds (suc more) body go kept = stop_behind (go kept) (stop_of_rounds more body go) (Rounds more body Done)

-- where the steps stop: at the first operation, or at their end
abbrev pub stop_of : Steps → KeptState → Stopped
stop_of Done kept = record { left = Done; kept = kept }
stop_of (Line line instruction rest) kept =
    if is_some (op_asked kept.numbers instruction)
    then record { left = Line line instruction rest; kept = kept }
    else stop_of rest (after_line instruction kept)
stop_of (Rounds rounds body rest) kept =
    stop_behind (stop_of_rounds rounds body (stop_of body) kept) (stop_of rest) rest
stop_of (Choice number first second rest) kept =
    stop_behind (if slice_index kept.numbers number == 0 then stop_of second kept else stop_of first kept)
    (stop_of rest) rest

-- whether an instruction asks for an operation, which doesn't depend on the number registers
abbrev pub is_asking : Instruction → Bool
is_asking instruction = is_some (op_asked [] instruction)

-- whether it prints when it runs
abbrev pub is_print : Instruction → Bool
is_print (Print number) = true
is_print instruction = false

-- Whether the steps come to an operation before one of them prints, and before a block ends.
abbrev pub asks_first : Steps → Bool
asks_first Done = false
asks_first (Line line instruction rest) = is_asking instruction || (not (is_print instruction) && asks_first rest)
asks_first (Rounds zero body rest) = asks_first rest
asks_first (Rounds (suc more) body rest) = asks_first body
asks_first (Choice number first second rest) = asks_first first && asks_first second

-- the instruction takes its answer
abbrev pub after_answer : Instruction → Answer → KeptState → KeptState
after_answer (GetNum q number i) a kept = with_value kept number (answered_number a)
after_answer (CasPtr q p r number i) a kept = with_value kept number (answered_number a)
after_answer (Same p q number) a kept = with_value kept number (answered_number a)
after_answer (IsNull p number) a kept = with_value kept number (answered_number a)
after_answer (Show p) a kept = with_text kept (show_text (answered_number a))
after_answer _ a kept = kept

-- the number register that keeps the answer
abbrev pub keeping_register : Instruction → Option ℕ
keeping_register (GetNum q number i) = Some number
keeping_register (CasPtr q p r number i) = Some number
keeping_register (Same p q number) = Some number
keeping_register (IsNull p number) = Some number
keeping_register instruction = None

-- it is a `show`
abbrev pub is_show : Instruction → Bool
is_show (Show p) = true
is_show instruction = false

-- The instruction prints nothing when it takes this answer.
abbrev pub is_silent : Instruction → Answer → Bool
is_silent instruction a = not (is_refusal a) && not (is_show instruction)
