-- A script fed with answers: the operations that it asks for, its text, and what it prints of a history.
use Rattle.std.specs.Prelude.{ℕ, zero, suc, ◌+◌, ◌-◌, ◌%◌, ◌^◌, Bool, true, false, List, [], ◌∷◌, ◌++◌, replicate}
use Rattle.std.specs.Prelude.{slice_index, slice_set, ◌==◌, if◌then◌else◌, Option, Some, None, is_some, ◌≤◌, length}
use Rattle.std.specs.{Prelude.{map, ◌≡◌, ◌&&◌, filter, take, count_by, slice_get}, Fmt.decimal, Borrow.Bor}
use Rattle.std.specs.List.{flat_map, range_with_len}
use Rattle.mk_never.specs.declared.operations.Op.{Op}
use Rattle.mk_core.specs.{declared.{events.Answer.Answer, config.Config.Config}, Calls.{flagged, Decided}}
use Rattle.mk_core.specs.declared.events.{Seat.TheVariants.Caller, Step.Step}
use Rattle.mk_core.specs.{declared.events.Event.Event, History.{is_same_seat, calls, AreEnabled}}
use Rattle.mk_script.specs.declared.items.Item.{Item, TheVariants.{New, Free, Getn, Setn, Getp}}
use Rattle.mk_script.specs.declared.items.Item.TheVariants.{Setp, Casp, Lea, Move, Clear, Loadg, Storeg, Same, Isnull}
use Rattle.mk_script.specs.declared.items.Item.TheVariants.{Show, Const, Add, Sub, Print}
use Rattle.mk_script.specs.Scopes.{type_names, global_names, pointer_names, number_names, script_names}
use Rattle.mk_check.specs.{Declarations.number_of_name, Blocks.{Blocks, Done, Line, Rounds, Choice, followed_by}}
use Rattle.mk_check.specs.Blocks.{is_end_of_block, blocks_from, ScriptText, script_of}
use lib.Chars.{codes}

-- the names that a script may use
pub record Scope : Type 0 where
  pub types : List (List ℕ)
  pub globals : List (List ℕ)
  pub pointers : List (List ℕ)
  pub numbers : List (List ℕ)

-- A script at an operation or at its end: what is left to run, the number registers, the operations that were
-- answered, and the text so far.
pub record Fed : Type 0 where
  pub left : Blocks
  pub numbers : List ℕ
  pub ops : List Op
  pub text : List ℕ

-- the register of a pointer's name
abbrev pub pointer_place : Scope → List ℕ → ℕ
pointer_place scope name = number_of_name name scope.pointers

-- what the number register of this name holds
abbrev pub number_in : Scope → Fed → List ℕ → ℕ
number_in scope fed name = slice_index fed.numbers (number_of_name name scope.numbers)

-- the script, with this number there
abbrev pub fed_with_number : Scope → Fed → List ℕ → ℕ → Fed
fed_with_number scope fed name value =
    record fed { numbers = slice_set fed.numbers (number_of_name name scope.numbers) value }

-- the operation that an instruction asks for, if it is one on the heap, a register or a global
abbrev pub op_of : Scope → Fed → Item → Option Op
op_of scope fed (New pointer ty) = Some (Op.New (pointer_place scope pointer) (number_of_name ty scope.types) false)
op_of scope fed (Free pointer) = Some (Op.Free (pointer_place scope pointer))
op_of scope fed (Getn number pointer index) = Some (Op.GetNum (pointer_place scope pointer) index)
op_of scope fed (Setn pointer index number) =
    Some (Op.SetNum (pointer_place scope pointer) index (number_in scope fed number))
op_of scope fed (Getp loaded pointer index) =
    Some (Op.GetPtr (pointer_place scope loaded) (pointer_place scope pointer) index)
op_of scope fed (Setp pointer index stored) =
    Some (Op.SetPtr (pointer_place scope pointer) index (pointer_place scope stored))
op_of scope fed (Casp number pointer index expected stored) =
    Some (Op.CasPtr (pointer_place scope pointer) index (pointer_place scope expected) (pointer_place scope stored))
op_of scope fed (Lea moved pointer index) =
    Some (Op.Lea (pointer_place scope moved) (pointer_place scope pointer) index)
op_of scope fed (Move copied pointer) = Some (Op.Move (pointer_place scope copied) (pointer_place scope pointer))
op_of scope fed (Clear pointer) = Some (Op.Clear (pointer_place scope pointer))
op_of scope fed (Loadg loaded global) =
    Some (Op.GetGlobal (pointer_place scope loaded) (number_of_name global scope.globals))
op_of scope fed (Storeg stored global) =
    Some (Op.SetGlobal (number_of_name global scope.globals) (pointer_place scope stored))
op_of scope fed (Same number first second) = Some (Op.Same (pointer_place scope first) (pointer_place scope second))
op_of scope fed (Isnull number pointer) = Some (Op.IsNull (pointer_place scope pointer))
op_of scope fed (Show pointer) = Some (Op.IsNull (pointer_place scope pointer))
op_of scope fed _ = None

-- the byte that ends a line
abbrev pub newline : List ℕ
newline = 10 ∷ []

-- what another line does; sums and differences wrap at 2^64
abbrev pub run_line : Scope → Fed → Item → Fed
run_line scope fed (Const number value) = fed_with_number scope fed number value
run_line scope fed (Add number left right) =
    fed_with_number scope fed number ((number_in scope fed left + number_in scope fed right) % 2 ^ 64)
run_line scope fed (Sub number left right) =
    fed_with_number scope fed number ((2 ^ 64 + number_in scope fed left - number_in scope fed right) % 2 ^ 64)
run_line scope fed (Print number) = record fed { text = fed.text ++ (decimal (number_in scope fed number) ++ newline) }
run_line scope fed item = fed

-- what runs after a part that may have stopped at an operation
abbrev pub then_run : Fed → (Fed → Fed) → Blocks → Fed
then_run fed go rest = if is_end_of_block fed.left then go fed else record fed { left = followed_by fed.left rest }

-- rounds of a body
abbrev pub run_rounds : ℕ → Blocks → (Fed → Fed) → Fed → Fed
run_rounds zero body go fed = record fed { left = Done }
run_rounds (suc more) body go fed = then_run (go fed) (run_rounds more body go) (Rounds more body Done)

-- Runs the blocks up to the first operation, or to their end.
abbrev pub run : Scope → Blocks → Fed → Fed
run scope Done fed = record fed { left = Done }
run scope (Line line item rest) fed =
    if is_some (op_of scope fed item)
    then record fed { left = Line line item rest }
    else run scope rest (run_line scope fed item)
run scope (Rounds rounds body rest) fed = then_run (run_rounds rounds body (run scope body) fed) (run scope rest) rest
run scope (Choice number first second rest) fed =
    then_run (if number_in scope fed number == 0 then run scope second fed else run scope first fed)
    (run scope rest) rest

-- what is printed of an answer that refuses the instruction at this line
abbrev pub refusal_text : Answer → List ℕ
refusal_text Answer.Full = codes "full"
refusal_text Answer.Fault = codes "fault"
refusal_text Answer.Null = codes "null"
refusal_text Answer.Double = codes "double"
refusal_text _ = []

-- whether it refuses it
abbrev pub is_refusal : Answer → Bool
is_refusal Answer.Done = false
is_refusal (Answer.Num n) = false
is_refusal (Answer.Word w) = false
is_refusal _ = true

-- what is printed of a refused instruction
abbrev pub refusal_line : ℕ → List ℕ → List ℕ
refusal_line line [] = []
refusal_line line (byte ∷ bytes) = decimal line ++ (codes ": " ++ (byte ∷ bytes ++ newline))

-- the number that is answered, and 0 where there is none
abbrev pub answered_number : Answer → ℕ
answered_number (Answer.Num n) = n
answered_number a = 0

-- what `show` prints of a register that is null, or isn't
abbrev pub show_text : ℕ → List ℕ
show_text zero = codes "ptr\n"
show_text (suc n) = codes "null\n"

-- the instruction takes its answer
abbrev pub with_answer : Scope → Fed → Item → Answer → Fed
with_answer scope fed (Getn number pointer index) a = fed_with_number scope fed number (answered_number a)
with_answer scope fed (Casp number pointer index expected stored) a =
    fed_with_number scope fed number (answered_number a)
with_answer scope fed (Same number first second) a = fed_with_number scope fed number (answered_number a)
with_answer scope fed (Isnull number pointer) a = fed_with_number scope fed number (answered_number a)
with_answer scope fed (Show pointer) a = record fed { text = fed.text ++ show_text (answered_number a) }
with_answer scope fed item a = fed

-- the script after an answer: its operation is noted, and a refusal printed
abbrev pub note : Fed → Option Op → ℕ → Answer → Fed
note fed None line a = fed
note fed (Some o) line a =
    record fed { ops = fed.ops ++ flagged o a ∷ []; text = fed.text ++ refusal_line line (refusal_text a) }

-- An operation's answer: the operation is noted, a refusal is printed, and the script runs on. A script that has ended
-- takes none.
abbrev pub take_answer : Scope → Fed → Blocks → Answer → Fed
take_answer scope fed (Line line item rest) a =
    run scope rest (with_answer scope (note fed (op_of scope fed item) line a) item a)
take_answer scope fed blocks a = fed

-- the script after these answers
abbrev pub take_answers : Scope → Fed → List Answer → Fed
take_answers scope fed [] = fed
take_answers scope fed (a ∷ more) = take_answers scope (take_answer scope fed fed.left a) more

-- the names that are declared for a script
abbrev pub scope_of : List Item → List Item → Scope
scope_of program script = record {
  types = type_names program;
  globals = global_names program;
  pointers = pointer_names script;
  numbers = number_names script;
}

-- a script before its first line: its name is printed, and its number registers are 0, as is the place after them,
-- which a name that isn't declared has
abbrev pub fed_before_lines : Scope → ScriptText → Fed
fed_before_lines scope script =
    record { left = Done; numbers = replicate 9 0; ops = []; text = codes "script " ++ (script.name ++ newline) }

-- the script, which runs to its first operation and is fed with these answers
abbrev pub feed_script : Scope → ScriptText → List Answer → Fed
feed_script scope script answers =
    take_answers scope (run scope (blocks_from script.line script.items) (fed_before_lines scope script)) answers

-- Script k of a program, fed with answers: it stops before the first operation that has no answer left.
abbrev pub feed : List Item → ℕ → List Answer → Fed
feed program k answers = feed_script (scope_of program (script_of program k).items) (script_of program k) answers

-- the script has ended
abbrev pub has_ended : Fed → Bool
has_ended fed = is_end_of_block fed.left

-- what references point to
abbrev pub referred_names : List (Bor (List ℕ)) → List (List ℕ)
referred_names names = map (λ (n : Bor (List ℕ)). n.now) names

-- so few registers that each has its place, and so few globals that a byte numbers them
pub record HasFew (scope : Scope) : Type 0 where
  pub pointers : length scope.pointers ≤ 8
  pub globals : length scope.globals ≤ 64
  pub numbers : length scope.numbers ≤ 8

-- the last step of a call
abbrev pub ends_call : Step → Bool
ends_call Step.Leave = true
ends_call Step.Give = true
ends_call _ = false

-- how many calls of caller k have ended
abbrev pub ended_calls : ℕ → List Event → ℕ
ended_calls k es = count_by (λ (e : Event). is_same_seat (Caller k) e.seat && ends_call e.step) es

-- the answers of caller k's calls among these, in their order
abbrev pub answers_among : ℕ → List Decided → List Answer
answers_among k xs = map (λ (x : Decided). x.answer) (filter (λ (x : Decided). x.caller == k) xs)

-- The answers of caller k's calls of a history, as many as its calls that ended.
abbrev pub answers_given : Config → List Event → ℕ → List Answer
answers_given c es k = take (ended_calls k es) (answers_among k (calls c es))

-- the answer that is decided in caller k's call in flight, if one is
abbrev pub answer_waiting : Config → List Event → ℕ → Option Answer
answer_waiting c es k = slice_get (answers_among k (calls c es)) (ended_calls k es)

-- The text of script k, fed with these.
abbrev pub text_behind : List Item → Config → List Event → ℕ → List ℕ
text_behind program c es k = (feed program k (answers_given c es k)).text

-- all that the scripts print: their texts, one after the other
abbrev pub output : List Item → Config → List Event → List ℕ
output program c es = flat_map (text_behind program c es) (range_with_len 0 (length (script_names program)))

-- After each enabled list, each call that ended has its answer.
abbrev pub EndedCallsAreAnswered : Type 0
EndedCallsAreAnswered =
    (c : Config) (es : List Event) (k : ℕ) → AreEnabled c es → length (answers_given c es k) ≡ ended_calls k es
