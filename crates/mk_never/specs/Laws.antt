-- Laws of the heap that never reuses storage, of any list of calls from any state, and what a program can still get to.
use Rattle.std.specs.Prelude.{◌≡◌, ◌≢◌, ◌↔◌, ℕ, ◌+◌, ◌<◌, ◌≤◌, List, [], ◌∷◌, ◌++◌, length, false, IsTrue, ◌⊎◌, Bool}
use Rattle.std.specs.Prelude.{slice_index_or}
use Rattle.mk_never.specs.declared.values.Value.{Value, TheVariants.{Null, Num, Ptr}}
use Rattle.mk_never.specs.declared.{values.Target.TheVariants.WordOf, operations.Op.Op}
use Rattle.mk_never.specs.declared.operations.Op.TheVariants.{New, GetNum, SetNum, GetPtr, SetPtr, CasPtr, Lea, Move}
use Rattle.mk_never.specs.{declared.operations.Op.TheVariants.{Clear, GetGlobal, Same}, Types.{kinds_of, zero_words}}
use Rattle.mk_never.specs.NeverHeap.{NeverState, Call, register_at, allocation_at, words_of, word_at, target_of}
use Rattle.mk_never.specs.NeverHeap.{number_of, reply_of, after_op, after_calls, replies_of, global_at, is_unmapped}
use Rattle.mk_never.specs.{NeverHeap.grants_object, Admitted.{IsCaller, AccessIsAdmitted, AreAdmitted}}
use Rattle.mk_never.specs.declared.operations.Reply.TheVariants.{Num as Number, Val}

-- Each allocation of n is in m, with its type and its number of words, and what is freed in n is freed in m. m has the
-- types of n, as many registers and as many globals.
pub record Continues (n m : NeverState) : Type 0 where
  pub types : m.types ≡ n.types
  pub registers : length m.registers ≡ length n.registers
  pub globals : length m.globals ≡ length n.globals
  pub count : length n.allocations ≤ length m.allocations
  pub ty : (number : ℕ) → number < length n.allocations → (allocation_at m number).ty ≡ (allocation_at n number).ty
  pub size : (number : ℕ) → number < length n.allocations → length (words_of m number) ≡ length (words_of n number)
  pub freed : (number : ℕ) → IsTrue (allocation_at n number).freed → IsTrue (allocation_at m number).freed

-- An allocation's type and the number of its words are as they were.
abbrev pub TypeStays : NeverState → NeverState → ℕ → Type 0
TypeStays n m number =
    ((allocation_at m number).ty ≡ (allocation_at n number).ty)
    × (length (words_of m number) ≡ length (words_of n number))

-- What is freed is still freed.
abbrev pub FreedStays : NeverState → NeverState → ℕ → Type 0
FreedStays n m number = IsTrue (allocation_at n number).freed → IsTrue (allocation_at m number).freed

-- A Same says whether its two registers hold one value.
abbrev pub SameTells : NeverState → ℕ → ℕ → ℕ → Type 0
SameTells n caller p q = (reply_of n caller (Same p q) ≡ Number 1) ↔ (register_at n caller p ≡ register_at n caller q)

-- m has a new allocation of the type, whose number is the count of those of n: zero words, not freed.
-- The register points to its first word.
pub record AddsNew (n m : NeverState) (caller r ty : ℕ) : Type 0 where
  pub count : length m.allocations ≡ length n.allocations + 1
  pub made : allocation_at m (length n.allocations)
      ≡ record { ty = ty; words = zero_words (kinds_of n.types ty); freed = false }
  pub register : register_at m caller r ≡ Ptr (length n.allocations) ty 0

-- A New that isn't refused adds an allocation.
abbrev pub NewAdds : NeverState → ℕ → ℕ → ℕ → Type 0
NewAdds n caller d ty = IsCaller n caller → d < 8 → AddsNew n (after_op n caller (New d ty false)) caller d ty

-- The register that the operation sets, if any, is one of its caller's eight.
abbrev pub DestinationIsInRange : Op → Type 0
DestinationIsInRange (New d ty full) = d < 8
DestinationIsInRange (GetPtr d q i) = d < 8
DestinationIsInRange (Lea d q i) = d < 8
DestinationIsInRange (Move d q) = d < 8
DestinationIsInRange (Clear d) = d < 8
DestinationIsInRange (GetGlobal d g) = d < 8
DestinationIsInRange _ = Unit {0}

-- No call is the caller's, and each sets registers only of its own caller.
abbrev pub AreByOthers : ℕ → List Call → Type 0
AreByOthers caller [] = Unit {0}
AreByOthers caller (x ∷ xs) = (x.caller ≢ caller) × DestinationIsInRange x.op × AreByOthers caller xs

-- No call is the caller's.
abbrev pub AreNotBy : ℕ → List Call → Type 0
AreNotBy caller [] = Unit {0}
AreNotBy caller (x ∷ xs) = (x.caller ≢ caller) × AreNotBy caller xs

-- The caller's registers are as they were.
abbrev pub KeepsRegisters : ℕ → NeverState → NeverState → Type 0
KeepsRegisters caller n m = (r : ℕ) → r < 8 → register_at m caller r ≡ register_at n caller r

-- An access through the value, i words on, gets to this word.
abbrev pub Reaches : NeverState → Value → ℕ → ℕ → ℕ → Type 0
Reaches n value i number place = target_of n value i ≡ WordOf number place

-- The operation stores to this word: a compare and exchange only if it exchanges.
abbrev pub StoresTo : NeverState → ℕ → Op → ℕ → ℕ → Type 0
StoresTo n c (SetNum q i m) number place = Reaches n (register_at n c q) i number place
StoresTo n c (SetPtr q i p) number place = Reaches n (register_at n c q) i number place
StoresTo n c (CasPtr q i p r) number place =
    Reaches n (register_at n c q) i number place × (word_at n number place ≡ register_at n c p)
StoresTo n c _ number place = ⊥

-- what a storing operation stores
abbrev pub stored_value : NeverState → ℕ → Op → Value
stored_value n c (SetNum q i m) = Num m
stored_value n c (SetPtr q i p) = register_at n c p
stored_value n c (CasPtr q i p r) = register_at n c r
stored_value n c _ = Null

-- No call stores to this word.
abbrev pub NoneStoresTo : NeverState → List Call → ℕ → ℕ → Type 0
NoneStoresTo n [] number place = Unit {0}
NoneStoresTo n (x ∷ xs) number place =
    (StoresTo n x.caller x.op number place → ⊥) × NoneStoresTo (after_op n x.caller x.op) xs number place

-- A store that is admitted is to a word that exists.
abbrev pub StoreIsInside : NeverState → ℕ → Op → ℕ → ℕ → Type 0
StoreIsInside n caller op number place =
    AccessIsAdmitted n caller op → StoresTo n caller op number place → place < length (words_of n number)

-- A load that gets to the word replies with the value. One into a register leaves it there.
pub record LoadsGive (n : NeverState) (number place : ℕ) (value : Value) : Type 0 where
  pub a_number : (caller q i : ℕ) → Reaches n (register_at n caller q) i number place
      → reply_of n caller (GetNum q i) ≡ Number (number_of value)
  pub a_pointer : (caller d q i : ℕ) → Reaches n (register_at n caller q) i number place
      → reply_of n caller (GetPtr d q i) ≡ Val value
  pub a_register : (caller d q i : ℕ) → IsCaller n caller → d < 8 → Reaches n (register_at n caller q) i number place
      → register_at (after_op n caller (GetPtr d q i)) caller d ≡ value

-- Calls that store nowhere in the word leave it.
abbrev pub UnstoredStays : NeverState → List Call → ℕ → ℕ → Type 0
UnstoredStays n calls number place =
    number < length n.allocations → NoneStoresTo n calls number place
    → word_at (after_calls n calls) number place ≡ word_at n number place

-- A store leaves its value in the word.
abbrev pub StoreLeaves : NeverState → ℕ → Op → ℕ → ℕ → Type 0
StoreLeaves n caller op number place =
    place < length (words_of n number) → StoresTo n caller op number place
    → word_at (after_op n caller op) number place ≡ stored_value n caller op

-- After a store, and any calls that don't store to the word, a load from it gives the value that was stored.
abbrev pub LoadGivesStored : NeverState → ℕ → Op → List Call → ℕ → ℕ → Type 0
LoadGivesStored n caller op calls number place =
    place < length (words_of n number) → StoresTo n caller op number place
    → NoneStoresTo (after_op n caller op) calls number place
    → LoadsGive (after_calls (after_op n caller op) calls) number place (stored_value n caller op)

-- Calls leave what the later ones leave after the earlier.
abbrev pub LeavesInParts : NeverState → List Call → List Call → Type 0
LeavesInParts n earlier later = after_calls n (earlier ++ later) ≡ after_calls (after_calls n earlier) later

-- Calls have the replies to the earlier ones, and then those to the later ones after them.
abbrev pub RepliesInParts : NeverState → List Call → List Call → Type 0
RepliesInParts n earlier later = replies_of n (earlier ++ later)
    ≡ replies_of n earlier ++ replies_of (after_calls n earlier) later

-- Calls are admitted if the earlier ones are, and the later ones after them.
abbrev pub AdmittedInParts : List ℕ → NeverState → List Call → List Call → Type 0
AdmittedInParts globals n earlier later =
    AreAdmitted globals n (earlier ++ later)
    ↔ (AreAdmitted globals n earlier × AreAdmitted globals (after_calls n earlier) later)

-- The value is a pointer into the allocation.
abbrev pub LeadsTo : Value → ℕ → Type 0
LeadsTo (Ptr number' ty offset) number = number' ≡ number
LeadsTo _ number = ⊥

-- The word is a pointer into the allocation. The words of a freed large allocation lead nowhere, as its pages are
-- unmapped.
abbrev pub WordLeadsTo : NeverState → ℕ → ℕ → ℕ → Type 0
WordLeadsTo n from place number = (is_unmapped (allocation_at n from) ≡ false) × LeadsTo (word_at n from place) number

-- A register of any caller leads to the allocation, a global does, or a word of an allocation that is reached.
pub data IsReachable (n : NeverState) : ℕ → Type 0 where
  by_register : (r number : ℕ) → LeadsTo (slice_index_or n.registers r Null) number → IsReachable n number
  by_global : (g number : ℕ) → LeadsTo (global_at n g) number → IsReachable n number
  by_word : (from place number : ℕ) → IsReachable n from → WordLeadsTo n from place number → IsReachable n number

-- The set has each allocation that a register, a global or a word of an allocation of the set leads to.
pub record IsClosedUnderPointers (n : NeverState) (S : ℕ → Type 0) : Type 0 where
  pub registers : (r number : ℕ) → LeadsTo (slice_index_or n.registers r Null) number → S number
  pub globals : (g number : ℕ) → LeadsTo (global_at n g) number → S number
  pub words : (from place number : ℕ) → S from → WordLeadsTo n from place number → S number

-- A set that is closed under pointers has all that is reached.
abbrev pub ReachIsLeast : NeverState → (ℕ → Bool) → Type 0
ReachIsLeast n S = IsClosedUnderPointers n (λ number. IsTrue (S number)) → (number : ℕ) → IsReachable n number
    → IsTrue (S number)

-- An access gets only to words of reached allocations.
abbrev pub AccessIsToReached : NeverState → ℕ → ℕ → ℕ → ℕ → ℕ → Type 0
AccessIsToReached n caller q i number place = Reaches n (register_at n caller q) i number place → IsReachable n number

-- After an operation nothing is reached but what was before, and what the operation grants.
abbrev pub ReachGrowsByGrants : NeverState → ℕ → Op → ℕ → Type 0
ReachGrowsByGrants n caller op number =
    IsReachable (after_op n caller op) number
    → IsReachable n number ⊎ (IsTrue (grants_object op) × (number ≡ length n.allocations))

-- An old allocation that is reached after the calls was reached before: what isn't reached never is again.
abbrev pub UnreachedStays : NeverState → List Call → ℕ → Type 0
UnreachedStays n calls number = number < length n.allocations → IsReachable (after_calls n calls) number
    → IsReachable n number
