-- What holds of each run that can be observed: what its scripts ask for, and what they are told.
use Rattle.std.specs.Prelude.{◌≡◌, ℕ, List, ◌∷◌, ◌++◌, length, Some}
use Rattle.mk_never.specs.{NeverHeap.{NeverState, replies_of, Call, reply_of, after_calls}, declared.operations.Op.Op}
use Rattle.mk_core.specs.{declared.events.Answer.Answer, Calls.{Decided, asked, answered, flagged}, History.answers_of}
use Rattle.mk_script.specs.{declared.items.Item.Item, Scopes.script_names}
use Rattle.mk_check.specs.{Feed.{feed, answers_among}, Laws.{IsChecked, IsScript, AreAdmittedFor, heap_of}}
use Rattle.mk_check.specs.{Observed.{ObservedRun, replies_to, script_after, told_to, told_of}, Feeding.next_op}

-- A script does the same whichever word it loaded.
abbrev pub WordsAreNotTold : Type 0
WordsAreNotTold =
    (program : List Item) (k : ℕ) (front more : List Answer) (v w : ℕ)
    → feed program k (front ++ Answer.Word v ∷ more) ≡ feed program k (front ++ Answer.Word w ∷ more)

-- Where the answers are the images of the replies, each caller's answers are those of the replies to it.
abbrev pub AnswersAreImages : Type 0
AnswersAreImages =
    (bases : List ℕ) (k : ℕ) (n : NeverState) (cs : List Decided)
    → answered cs ≡ answers_of bases (replies_of n (asked cs))
    → answers_among k cs ≡ answers_of bases (replies_to k n (asked cs))

-- The calls of such a run are admitted on the program's heap.
abbrev pub ObservedRunsAreAdmitted : Type 0
ObservedRunsAreAdmitted =
    (program : List Item) (bytes : List ℕ) → IsChecked program → (run : ObservedRun program bytes)
    → AreAdmittedFor program (length (script_names program)) run.calls

-- No script is told more than it asked for.
abbrev pub NoneIsLeftOver : Type 0
NoneIsLeftOver =
    (program : List Item) (bytes : List ℕ) (run : ObservedRun program bytes) (k : ℕ) → IsScript program k
    → length (told_to program run.calls k) ≡ length (script_after program run.calls k).ops

-- the program's heap before any call
abbrev pub heap_before : List Item → NeverState
heap_before program = heap_of program (length (script_names program))

-- Told the replies to its calls before this one its caller's script asks for it. Whether a New is full says its reply.
pub record IsAskedFor (program : List Item) (front : List Call) (x : Call) : Type 0 where
  pub op : Op
  pub asked : next_op program x.caller (told_to program front x.caller) ≡ Some op
  pub is : x.op ≡ flagged op (told_of (reply_of (after_calls (heap_before program) front) x.caller x.op))

-- Each call of an observed run is what its script asks for, told the replies before it.
abbrev pub EachCallIsAskedFor : Type 0
EachCallIsAskedFor =
    (program : List Item) (bytes : List ℕ) (run : ObservedRun program bytes) (front more : List Call) (x : Call)
    → run.calls ≡ front ++ x ∷ more → IsScript program x.caller → IsAskedFor program front x
