-- An operation that a caller is asked to do: its one call, after the waiting for a gate that is held, and what the
-- caller is told of its answer.
use Rattle.std.specs.Prelude.{◌≡◌, Bool, true, false, List, ◌++◌, Some}
use Rattle.mk_never.specs.{declared.operations.Op.Op, Laws.KeepsRegisters}
use Rattle.mk_core.specs.declared.events.{Answer.Answer, Event.Event, Group.Group}
use Rattle.mk_core.specs.{declared.events.Step.Step, Calls.{is_under_turn, entry_of}, History.IsHistory}
use Rattle.mk_core.specs.Conditions.{group_of}
use Rattle.mk_alloc.specs.Below.Callers.Called.{own_calls, Called, FindsGateHeld}
use Rattle.mk_alloc.specs.Below.{Callers.States.{caller_of_pass, never_of, Admits}, Words.Steps.{are_of, done_in}}
use Rattle.mk_alloc.specs.{Below.Words.States.PassState, TurnCalls.{OwnAreExact, CalledInTurn}}

-- A caller isn't told which pointer it loaded.
abbrev pub as_told : Answer → Answer
as_told (Answer.Word w) = Answer.Word 0
as_told a = a

-- The pass did this operation. What its caller is told of the answer is this.
pub record IsCalled (p : PassState) (o : Op) (told : Answer) (q : PassState) : Type 0 where
  pub answer : Answer
  pub is_told : told ≡ as_told answer
  pub called : Called p o answer q

-- the steps of calls that need no turn
abbrev pub is_of_callers : Group → Bool
is_of_callers Group.Callers = true
is_of_callers _ = false

-- a step of a call that needs no turn
abbrev pub is_beside_turns : Step → Bool
is_beside_turns s = is_of_callers (group_of s)

-- What the pass's seat did since was beside all turns.
pub record StaysBeside (p q : PassState) : Type 0 where
  pub more : List Event
  pub is : q.seen ≡ p.seen ++ more
  pub steps : are_of is_beside_turns (done_in p more) ≡ true

-- The pass has seen more, in which its caller made no call: its registers are as they were.
pub record MakesNoCall (p q : PassState) : Type 0 where
  pub is : q ≡ record p { seen = q.seen }
  pub entries : own_calls p q.seen ≡ own_calls p p.seen
  pub registers : KeepsRegisters (caller_of_pass p) (never_of p) (never_of q)
  pub exact : (on : Bool) → OwnAreExact on p → OwnAreExact on q
  pub beside : StaysBeside p q

-- The operation is admitted, and stays so as long as the caller makes no call.
abbrev pub StaysAdmitted : PassState → Op → Type 0
StaysAdmitted p o = (q : PassState) → IsHistory q.table.config q.seen → MakesNoCall p q → Admits q o

-- Its caller made no call until its pass was this one, and then did the operation. It is told this of the answer.
pub record IsCalledLater (p : PassState) (o : Op) (told : Answer) (q : PassState) : Type 0 where
  pub waited : PassState
  pub waits : MakesNoCall p waited
  pub is_called : IsCalled waited o told q

-- The caller wasn't answered: a New or a Free is not begun, and of another operation the gate was held.
pub record IsPutOff (p : PassState) (o : Op) (q : PassState) : Type 0 where
  pub turn : is_under_turn o ≡ true → q ≡ p
  pub held : is_under_turn o ≡ false → FindsGateHeld p o q

-- A New that isn't known to be full
abbrev pub unflagged : Op → Op
unflagged (Op.New d ty full) = Op.New d ty false
unflagged o = o

-- The caller made one call, of this operation, and is told this of its answer. A New or a Free it made in one turn, and
-- all else beside the turn, once its gate was open.
pub record Answers (on : Bool) (p : PassState) (o : Op) (told : Answer) (q : PassState) : Type 0 where
  pub answer : Answer
  pub is_told : told ≡ as_told answer
  pub is : q ≡ record p { seen = q.seen }
  pub entry : own_calls p q.seen ≡ own_calls p p.seen ++ entry_of (caller_of_pass p) o (Some answer)
  pub exact : OwnAreExact on p → OwnAreExact on q
  pub in_turn : is_under_turn o ≡ true → CalledInTurn on p (unflagged o) answer q
  pub beside : is_under_turn o ≡ false → StaysBeside p q
  pub called : is_under_turn o ≡ false → IsCalledLater p o told q
