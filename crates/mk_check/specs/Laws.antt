-- Laws of scripts: the operations that they ask for, one after the other, in any order of their turns.
use Rattle.std.specs.Prelude.{◌≡◌, ◌≢◌, ℕ, ◌<◌, ◌≤◌, List, [], ◌∷◌, ◌++◌, length, ◌==◌, if◌then◌else◌, Some, All}
use Rattle.mk_never.specs.{declared.operations.Op.Op, NeverHeap.{NeverState, Call, start_of, after_calls}}
use Rattle.mk_never.specs.Admitted.{IsAdmitted, AreAdmitted}
use Rattle.mk_core.specs.{declared.events.Answer.Answer, Calls.flagged}
use Rattle.mk_script.specs.{declared.items.Item.Item, Scopes.script_names, Grammar.IsOfSomeText}
use Rattle.mk_check.specs.{Typing.IsWellTyped, Declarations.{types_of, globals_of}, Feed.feed, Feeding.next_op}

-- a program that is well typed, and the program of some text
pub record IsChecked (program : List Item) : Type 0 where
  pub well_typed : IsWellTyped program
  pub of_some_text : IsOfSomeText program

-- The number is that of one of the program's scripts.
abbrev pub IsScript : List Item → ℕ → Type 0
IsScript program k = k < length (script_names program)

-- A script of a well-typed program asks for at most a million operations, whatever they are answered.
abbrev pub ScriptsAskForFew : Type 0
ScriptsAskForFew =
    (program : List Item) (k : ℕ) (answers : List Answer) → IsWellTyped program
    → length (feed program k answers).ops ≤ 1000000

-- the operations of a caller among the calls, in their order
abbrev pub ops_of_caller : ℕ → List Call → List Op
ops_of_caller caller [] = []
ops_of_caller caller (x ∷ xs) = if x.caller == caller then x.op ∷ ops_of_caller caller xs else ops_of_caller caller xs

-- The caller's operations are those that script k notes, fed with the answers.
abbrev pub AreNotedBy : List Item → ℕ → List Answer → List Call → Type 0
AreNotedBy program k answers calls = ops_of_caller k calls ≡ (feed program k answers).ops

-- After what script k asks for next, noted with any answer, the caller's operations are still those that the script
-- notes.
abbrev pub AnswersAreNoted : List Item → ℕ → List Answer → List Call → Type 0
AnswersAreNoted program k answers calls = (op : Op) (answer : Answer) → next_op program k answers ≡ Some op
    → AreNotedBy program k (answers ++ answer ∷ []) (calls ++ record { caller = k; op = flagged op answer } ∷ [])

-- After a call of another, they are those that it noted.
abbrev pub OthersAreIgnored : List Item → ℕ → List Answer → List Call → Type 0
OthersAreIgnored program k answers calls =
    (call : Call) → call.caller ≢ k → AreNotedBy program k answers (calls ++ call ∷ [])

-- the heap of a program before any call
abbrev pub heap_of : List Item → ℕ → NeverState
heap_of program callers = start_of (types_of program) callers

-- The calls are admitted, from the start of the program's heap.
abbrev pub AreAdmittedFor : List Item → ℕ → List Call → Type 0
AreAdmittedFor program callers calls = AreAdmitted (globals_of program) (heap_of program callers) calls

-- The operation is admitted after the calls.
abbrev pub OpIsAdmittedBehind : List Item → ℕ → List Call → ℕ → Op → Type 0
OpIsAdmittedBehind program callers calls caller op =
    IsAdmitted (globals_of program) (after_calls (heap_of program callers) calls) caller op

-- What script k asks for next is admitted after the calls, as it is asked for and as it is noted with any answer.
pub record NextIsAdmitted (program : List Item) (callers : ℕ) (calls : List Call) (k : ℕ)
    (answers : List Answer) : Type 0 where
  pub asked : (op : Op) → next_op program k answers ≡ Some op → OpIsAdmittedBehind program callers calls k op
  pub noted :
      (op : Op) (answer : Answer) → next_op program k answers ≡ Some op
      → OpIsAdmittedBehind program callers calls k (flagged op answer)

-- some answers with which script k notes the caller's operations among the calls
pub record HasAnswers (program : List Item) (k : ℕ) (calls : List Call) : Type 0 where
  pub answers : List Answer
  pub are_noted : AreNotedBy program k answers calls

-- Each call is of a script, and each script's are what it notes, fed with some answers.
pub record AreOfScripts (program : List Item) (calls : List Call) : Type 0 where
  pub callers : All (λ call. IsScript program call.caller) calls
  pub ops : (k : ℕ) → IsScript program k → HasAnswers program k calls
