-- What a script that is fed stands for, where it stops, and how it goes on at once after an answer.
use Rattle.std.specs.Prelude.{◌≡◌, ℕ, false, ◌++◌, List, [], ◌∷◌, length, Option, None, map, ◌-◌, true, take}
use Rattle.mk_never.specs.declared.operations.Op.{Op}
use Rattle.mk_core.specs.declared.events.Answer.{Answer}
use Rattle.mk_script.specs.declared.items.Item.{Item}
use Rattle.mk_check.specs.{declared.feeding.tree.Node.Node, Blocks.{Blocks, Line, script_of}}
use Rattle.mk_check.specs.Feed.{Scope, Fed, op_of, scope_of, feed, has_ended, is_refusal}
use Rattle.mk_check.specs.{Steps.{numbered, element_of, after_answer, is_silent}, Trees.{Place, left_in, node_at}}
use Rattle.mk_check.specs.Trees.{PlaceFits, PlaceIsWithin, StopsAt, work_of, asks_at, HasStopped, LeavesBlock, kept_in}
use Rattle.mk_check.specs.{Trees.with_kept, declared.feeding.instructions.Element.Element}
use Rattle.mk_check.specs.declared.feeding.instructions.Instruction.{Instruction}

-- the nodes of a script, and where it is
pub record FeedState : Type 0 where
  pub nodes : List Node
  pub place : Place

-- it is at an operation or at its end
pub record IsAtStop (s : FeedState) : Type 0 where
  pub within : PlaceIsWithin (length s.nodes) s.place
  pub fits : PlaceFits s.nodes s.place
  pub stops : StopsAt (node_at s.nodes s.place.at) s.place

-- no fewer than the operations that are left to ask for
abbrev pub work_left : FeedState → ℕ
work_left s = work_of (left_in s.nodes s.place)

-- the operation that blocks begin with
abbrev pub first_op : Scope → Fed → Blocks → Option Op
first_op scope fed (Line line item rest) = op_of scope fed item
first_op scope fed _ = None

-- the names that script k may use
abbrev pub script_scope : List Item → ℕ → Scope
script_scope program k = scope_of program (script_of program k).items

-- the operation that script k of a program asks for, once it was fed with these answers
abbrev pub next_op : List Item → ℕ → List Answer → Option Op
next_op program k answers = first_op (script_scope program k) (feed program k answers) (feed program k answers).left

-- Script k of a program, fed with these answers: it takes them all, and has what the script then has. Names are
-- numbers in what is left.
pub record FeedStandsFor (program : List Item) (k : ℕ) (s : FeedState) (answers : List Answer) : Type 0 where
  pub taken : length (feed program k answers).ops ≡ length answers
  pub left : left_in s.nodes s.place ≡ numbered (script_scope program k) (feed program k answers).left
  pub numbers : s.place.numbers ≡ (feed program k answers).numbers
  pub text : s.place.text ≡ (feed program k answers).text

-- some script and answers that it stands for
pub record StandsForSome (s : FeedState) : Type 0 where
  pub program : List Item
  pub k : ℕ
  pub answers : List Answer
  pub stands : FeedStandsFor program k s answers

-- it is at a stop of some script
pub record IsFeed (s : FeedState) : Type 0 where
  pub stop : IsAtStop s
  pub some : StandsForSome s

-- The script that it stands for has not ended.
abbrev pub IsWaiting : FeedState → Type 0
IsWaiting s = (program : List Item) (k : ℕ) (answers : List Answer)
    → FeedStandsFor program k s answers → has_ended (feed program k answers) ≡ false

-- Whatever the first stands for, the second stands for that with the answer after it.
abbrev pub TakesAnswer : FeedState → Answer → FeedState → Type 0
TakesAnswer old answer new = (program : List Item) (k : ℕ) (answers : List Answer)
    → FeedStandsFor program k old answers → FeedStandsFor program k new (answers ++ answer ∷ [])

-- A script of a program, with numbers for its names.
-- Private functions alone cite these words.

-- the lines of script k
abbrev pub elements_of_script : List Item → ℕ → List Element
elements_of_script program k = map (element_of (script_scope program k)) (script_of program k).items

-- A script that goes on at once after an answer.
-- Private functions alone cite these words.

-- The innermost block is left, or begins its next round, and an operation comes next.
pub record LeavesToOp (nodes : List Node) (old new : Place) : Type 0 where
  pub leaves : LeavesBlock old new
  pub asks : asks_at (node_at nodes new.at) ≡ true

-- The innermost block is left for a node that asks for an operation.
pub record ClosesToOp (nodes : List Node) (next : ℕ) (old new : Place) : Type 0 where
  pub closes : new ≡ record old { at = next; frames = take (length old.frames - 1) old.frames }
  pub asks : asks_at (node_at nodes next) ≡ true

-- The instruction before node `next` takes an answer at which it prints nothing, and the script stops at the next
-- operation.
pub record TakesAtOnce (nodes : List Node) (next : ℕ) (instruction : Instruction) (a : Answer) (old new : Place) :
    Type 0 where
  pub silent : is_silent instruction a ≡ true
  pub stopped : HasStopped nodes (with_kept (record old { at = next }) (after_answer instruction a (kept_in old))) new

-- The script is within its tree, its open blocks have room for those that may follow, and the answer refuses nothing.
pub record MayTake (nodes : List Node) (a : Answer) (p : Place) : Type 0 where
  pub within : PlaceIsWithin (length nodes) p
  pub fits : PlaceFits nodes p
  pub accepted : is_refusal a ≡ false

-- The place's node is a line, which takes an answer at which it prints nothing, and the script stops at the next
-- operation.
pub record TakesLine (nodes : List Node) (a : Answer) (old new : Place) : Type 0 where
  pub line : ℕ
  pub instruction : Instruction
  pub next : ℕ
  pub here : node_at nodes old.at ≡ Node.Line line instruction next
  pub taken : TakesAtOnce nodes next instruction a old new
