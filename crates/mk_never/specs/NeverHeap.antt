-- The heap that never reuses storage: what each operation replies and leaves.
use Rattle.std.specs.Prelude.{ℕ, ◌+◌, ◌*◌, Bool, true, false, ◌&&◌, if◌then◌else◌, List, [], ◌∷◌, ◌++◌, length}
use Rattle.std.specs.Prelude.{replicate, slice_index_or, slice_set, ◌==◌}
use Rattle.mk_never.specs.{declared.types.Kind.Kind, declared.values.Value.Value}
use Rattle.mk_never.specs.{declared.values.Value.TheVariants.{Null, Num, Ptr}, declared.values.Target.Target}
use Rattle.mk_never.specs.{declared.values.Target.TheVariants.{Nothing, Unmapped, WordOf}, declared.operations.Op.Op}
use Rattle.mk_never.specs.declared.operations.Op.TheVariants.{New, Free, GetNum, SetNum, GetPtr, SetPtr, CasPtr, Lea}
use Rattle.mk_never.specs.declared.operations.Op.TheVariants.{Move, Clear, GetGlobal, SetGlobal, Same, IsNull}
use Rattle.mk_never.specs.{declared.operations.Reply.Reply, declared.operations.Reply.TheVariants.{Double, Done}}
use Rattle.mk_never.specs.declared.operations.Reply.TheVariants.{Num as Number, Val, Full, Fault, Null as WasNull}
use Rattle.mk_never.specs.Types.{kinds_of, is_large, zero_words}

-- an allocation: the type that it was made for, its words, and whether it was freed
pub record Allocation : Type 0 where
  pub ty : ℕ
  pub words : List Value
  pub freed : Bool

-- a heap that never reuses storage
pub record NeverState : Type 0 where
  pub types : List (List Kind)
  pub allocations : List Allocation  -- in the order of the grants: an allocation's number is its place
  pub registers : List Value  -- eight for each caller
  pub globals : List Value

-- before any operation
abbrev pub start_of : List (List Kind) → ℕ → NeverState
start_of types callers =
    record { types = types; allocations = []; registers = replicate (8 * callers) Null; globals = replicate 64 Null }

-- register r of the caller
abbrev pub register_at : NeverState → ℕ → ℕ → Value
register_at n caller r = slice_index_or n.registers (8 * caller + r) Null

-- the heap, with this value there
abbrev pub with_register : NeverState → ℕ → ℕ → Value → NeverState
with_register n caller r value = record n { registers = slice_set n.registers (8 * caller + r) value }

-- global g
abbrev pub global_at : NeverState → ℕ → Value
global_at n g = slice_index_or n.globals g Null

-- the heap, with this value there
abbrev pub with_global : NeverState → ℕ → Value → NeverState
with_global n g value = record n { globals = slice_set n.globals g value }

-- what stands for an allocation that doesn't exist
abbrev pub no_allocation : Allocation
no_allocation = record { ty = 0; words = []; freed = false }

-- the allocation of this number
abbrev pub allocation_at : NeverState → ℕ → Allocation
allocation_at n number = slice_index_or n.allocations number no_allocation

-- its words
abbrev pub words_of : NeverState → ℕ → List Value
words_of n number = (allocation_at n number).words

-- its word at this place
abbrev pub word_at : NeverState → ℕ → ℕ → Value
word_at n number place = slice_index_or (words_of n number) place Null

-- the heap, with this value there
abbrev pub with_word : NeverState → ℕ → ℕ → Value → NeverState
with_word n number place value =
    record n {
      allocations = slice_set n.allocations number
          (record (allocation_at n number) { words = slice_set (words_of n number) place value });
    }

-- the heap, with this allocation freed
abbrev pub with_freed : NeverState → ℕ → NeverState
with_freed n number =
    record n { allocations = slice_set n.allocations number (record (allocation_at n number) { freed = true }) }

-- a new object of a type, at the end
abbrev pub with_new : NeverState → ℕ → NeverState
with_new n ty =
    record n {
      allocations = n.allocations ++ record {
        ty = ty;
        words = zero_words (kinds_of n.types ty);
        freed = false;
      } ∷ [];
    }

-- the pages of a freed large allocation are unmapped
abbrev pub is_unmapped : Allocation → Bool
is_unmapped a = a.freed && is_large a.words

-- what an access through a value reaches
abbrev pub target_of : NeverState → Value → ℕ → Target
target_of n (Ptr number ty offset) i = if is_unmapped (allocation_at n number) then Unmapped
    else WordOf number (offset + i)
target_of n _ i = Nothing

-- the number that a load of this value gives
abbrev pub number_of : Value → ℕ
number_of (Num m) = m
number_of _ = 0

-- the two values are equal
abbrev pub is_same : Value → Value → Bool
is_same Null Null = true
is_same (Num m) (Num k) = m == k
is_same (Ptr number ty offset) (Ptr number' ty' offset') = (number == number') && (ty == ty') && (offset == offset')
is_same _ _ = false

-- 1 if it is so, otherwise 0
abbrev pub bit : Bool → ℕ
bit true = 1
bit false = 0

-- what an access replies, given what it replies at the word that it reaches
abbrev pub reply_at : Target → (ℕ → ℕ → Reply) → Reply
reply_at Nothing at = WasNull
reply_at Unmapped at = Fault
reply_at (WordOf number place) at = at number place

-- what an access leaves, given what it leaves if it is refused, and what at the word that it reaches
abbrev pub left_at : Target → NeverState → (ℕ → ℕ → NeverState) → NeverState
left_at (WordOf number place) refused at = at number place
left_at _ refused at = refused

-- the reply to a Free of this value
abbrev pub free_reply : NeverState → Value → Reply
free_reply n (Ptr number ty offset) = if (allocation_at n number).freed then Double else Done
free_reply n _ = Done

-- what the Free leaves
abbrev pub after_free : NeverState → Value → NeverState
after_free n (Ptr number ty offset) = with_freed n number
after_free n _ = n

-- the reply to a Lea from this value
abbrev pub lea_reply : Value → Reply
lea_reply (Ptr number ty offset) = Done
lea_reply _ = WasNull

-- a pointer i words on
abbrev pub moved_on : Value → ℕ → Value
moved_on (Ptr number ty offset) i = Ptr number ty (offset + i)
moved_on _ i = Null

-- what the operation of a caller replies
abbrev pub reply_of : NeverState → ℕ → Op → Reply
reply_of n c (New d ty full) = if full then Full else Done
reply_of n c (Free p) = free_reply n (register_at n c p)
reply_of n c (GetNum q i) = reply_at (target_of n (register_at n c q) i) (λ a w. Number (number_of (word_at n a w)))
reply_of n c (SetNum q i m) = reply_at (target_of n (register_at n c q) i) (λ a w. Done)
reply_of n c (GetPtr d q i) = reply_at (target_of n (register_at n c q) i) (λ a w. Val (word_at n a w))
reply_of n c (SetPtr q i p) = reply_at (target_of n (register_at n c q) i) (λ a w. Done)
reply_of n c (CasPtr q i p r) =
    reply_at (target_of n (register_at n c q) i) (λ a w. Number (bit (is_same (word_at n a w) (register_at n c p))))
reply_of n c (Lea d q i) = lea_reply (register_at n c q)
reply_of n c (Move d q) = Done
reply_of n c (Clear d) = Done
reply_of n c (GetGlobal d g) = Val (global_at n g)
reply_of n c (SetGlobal g p) = Done
reply_of n c (Same p q) = Number (bit (is_same (register_at n c p) (register_at n c q)))
reply_of n c (IsNull p) = Number (bit (is_same (register_at n c p) Null))

-- what the operation of a caller leaves
abbrev pub after_op : NeverState → ℕ → Op → NeverState
after_op n c (New d ty full) = if full then n else with_register (with_new n ty) c d (Ptr (length n.allocations) ty 0)
after_op n c (Free p) = after_free n (register_at n c p)
after_op n c (SetNum q i m) = left_at (target_of n (register_at n c q) i) n (λ a w. with_word n a w (Num m))
after_op n c (GetPtr d q i) =
    left_at (target_of n (register_at n c q) i) (with_register n c d Null) (λ a w. with_register n c d (word_at n a w))
after_op n c (SetPtr q i p) = left_at (target_of n (register_at n c q) i) n (λ a w. with_word n a w (register_at n c p))
after_op n c (CasPtr q i p r) =
    left_at (target_of n (register_at n c q) i) n
    (λ a w. if is_same (word_at n a w) (register_at n c p) then with_word n a w (register_at n c r) else n)
after_op n c (Lea d q i) = with_register n c d (moved_on (register_at n c q) i)
after_op n c (Move d q) = with_register n c d (register_at n c q)
after_op n c (Clear d) = with_register n c d Null
after_op n c (GetGlobal d g) = with_register n c d (global_at n g)
after_op n c (SetGlobal g p) = with_global n g (register_at n c p)
-- the others leave all as it was
after_op n c _ = n

-- an operation of a caller
pub record Call : Type 0 where
  pub caller : ℕ
  pub op : Op

-- what the operations leave, one after the other
abbrev pub after_calls : NeverState → List Call → NeverState
after_calls n [] = n
after_calls n (x ∷ xs) = after_calls (after_op n x.caller x.op) xs

-- the replies to the operations, one after the other
abbrev pub replies_of : NeverState → List Call → List Reply
replies_of n [] = []
replies_of n (x ∷ xs) = reply_of n x.caller x.op ∷ replies_of (after_op n x.caller x.op) xs

-- whether the operation grants an object, which takes memory
abbrev pub grants_object : Op → Bool
grants_object (New d ty true) = false
grants_object (New d ty false) = true
grants_object other = false
