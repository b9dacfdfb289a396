-- A run as it can be observed: the calls of all scripts in one order, on a heap that never reuses storage.
use Rattle.std.specs.Prelude.{◌≡◌, ℕ, true, List, [], ◌∷◌, length, ◌==◌, if◌then◌else◌, All, map}
use Rattle.std.specs.List.{flat_map, range_with_len}
use Rattle.mk_never.specs.{declared.operations.Reply.Reply, NeverHeap.{NeverState, Call, reply_of, after_op}}
use Rattle.mk_core.specs.declared.events.Answer.{Answer}
use Rattle.mk_script.specs.{declared.items.Item.Item, Scopes.script_names}
use Rattle.mk_check.specs.{Feed.{feed, has_ended, Fed}, Laws.{IsScript, ops_of_caller, heap_of}}
use Rattle.mk_never.specs.declared.operations.Reply.TheVariants as reply
use Rattle.mk_core.specs.declared.events.Answer.TheVariants as answer

-- What a script is told of a reply: all of it, but for the pointer that it loaded.
abbrev pub told_of : Reply → Answer
told_of reply.Done = answer.Done
told_of (reply.Num n) = answer.Num n
told_of (reply.Val value) = answer.Word 0
told_of reply.Full = answer.Full
told_of reply.Fault = answer.Fault
told_of reply.Null = answer.Null
told_of reply.Double = answer.Double

-- All these calls are made in their order, and the heap replies to each: these are the replies to script k's calls.
abbrev pub replies_to : ℕ → NeverState → List Call → List Reply
replies_to k n [] = []
replies_to k n (x ∷ xs) =
    if x.caller == k then reply_of n x.caller x.op ∷ replies_to k (after_op n x.caller x.op) xs
    else replies_to k (after_op n x.caller x.op) xs

-- what script k is told, on the program's heap
abbrev pub told_to : List Item → List Call → ℕ → List Answer
told_to program calls k = map told_of (replies_to k (heap_of program (length (script_names program))) calls)

-- script k after these calls
abbrev pub script_after : List Item → List Call → ℕ → Fed
script_after program calls k = feed program k (told_to program calls k)

-- The program's scripts ran on a heap that never reuses storage, and printed these bytes.
pub record ObservedRun (program : List Item) (bytes : List ℕ) : Type 0 where
  -- There is one order of all their calls.
  pub calls : List Call
  -- Each call is a script's.
  pub callers : All (λ (x : Call). IsScript program x.caller) calls
  -- Each script, told the replies to its own calls, asks for just these, in their order.
  pub operations : (k : ℕ) → IsScript program k → ops_of_caller k calls ≡ (script_after program calls k).ops
  -- Then it has ended.
  pub ends : (k : ℕ) → IsScript program k → has_ended (script_after program calls k) ≡ true
  -- The bytes are what the scripts print, one after the other.
  pub printed : bytes ≡ flat_map (λ k. (script_after program calls k).text)
      (range_with_len 0 (length (script_names program)))
