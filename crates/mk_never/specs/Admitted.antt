-- What a checked program keeps to: which operations it asks for, and of which types its values are then.
use Rattle.std.specs.Prelude.{◌≡◌, ℕ, ◌+◌, ◌*◌, ◌<◌, false, List, [], ◌∷◌, length, slice_index_or, slice_get, IfSome}
use Rattle.std.specs.Prelude.{IsTrue, ◌⊎◌}
use Rattle.mk_never.specs.declared.{types.Kind.Kind, values.Value.Value}
use Rattle.mk_never.specs.declared.{values.Value.TheVariants.{Null, Num, Ptr}, operations.Op.Op}
use Rattle.mk_never.specs.declared.operations.Op.TheVariants.{New, Free, GetNum, SetNum, GetPtr, SetPtr, CasPtr, Lea}
use Rattle.mk_never.specs.declared.operations.Op.TheVariants.{Move, Clear, GetGlobal, SetGlobal, Same, IsNull}
use Rattle.mk_never.specs.{Types.{kinds_of, is_number}, NeverHeap.{NeverState, Call, register_at, allocation_at}}
use Rattle.mk_never.specs.NeverHeap.{words_of, after_op, Allocation, global_at, start_of, after_calls}
use Rattle.mk_never.specs.declared.types.Kind.TheVariants.{Num as Number, To}

-- The operation's registers, global and type are in range.
abbrev pub OperandsAreInRange : NeverState → Op → Type 0
OperandsAreInRange n (New d ty full) = (d < 8) × (ty < length n.types)
OperandsAreInRange n (Free p) = p < 8
OperandsAreInRange n (GetNum q i) = q < 8
OperandsAreInRange n (SetNum q i m) = q < 8
OperandsAreInRange n (GetPtr d q i) = (d < 8) × (q < 8)
OperandsAreInRange n (SetPtr q i p) = (q < 8) × (p < 8)
OperandsAreInRange n (CasPtr q i p r) = (q < 8) × (p < 8) × (r < 8)
OperandsAreInRange n (Lea d q i) = (d < 8) × (q < 8)
OperandsAreInRange n (Move d q) = (d < 8) × (q < 8)
OperandsAreInRange n (Clear d) = d < 8
OperandsAreInRange n (GetGlobal d g) = (d < 8) × (g < length n.globals)
OperandsAreInRange n (SetGlobal g p) = (g < length n.globals) × (p < 8)
OperandsAreInRange n (Same p q) = (p < 8) × (q < 8)
OperandsAreInRange n (IsNull p) = p < 8

-- The caller has its registers.
abbrev pub IsCaller : NeverState → ℕ → Type 0
IsCaller n caller = 8 * caller + 7 < length n.registers

-- If the value is a pointer, the word i words on is inside its allocation, and P holds of the word's kind.
abbrev pub Meets : NeverState → Value → ℕ → (Kind → Type 0) → Type 0
Meets n (Ptr number ty offset) i P =
    (offset + i < length (words_of n number))
    × P (slice_index_or (kinds_of n.types (allocation_at n number).ty) (offset + i) Number)
Meets n _ i P = Unit {0}

-- It is a number.
abbrev pub IsNumber : Kind → Type 0
IsNumber kind = IsTrue (is_number kind)

-- It is a pointer.
abbrev pub IsPointer : Kind → Type 0
IsPointer kind = is_number kind ≡ false

-- The access is admitted by the type and the offset of the pointer in its register, if that isn't null.
abbrev pub AccessIsAdmitted : NeverState → ℕ → Op → Type 0
AccessIsAdmitted n c (GetNum q i) = Meets n (register_at n c q) i IsNumber
AccessIsAdmitted n c (SetNum q i m) = Meets n (register_at n c q) i IsNumber
AccessIsAdmitted n c (GetPtr d q i) = Meets n (register_at n c q) i IsPointer
AccessIsAdmitted n c (SetPtr q i p) = Meets n (register_at n c q) i IsPointer
AccessIsAdmitted n c (CasPtr q i p r) = Meets n (register_at n c q) i IsPointer
AccessIsAdmitted n c (Lea d q i) = Meets n (register_at n c q) i (λ kind. Unit {0})
-- the others access no word
AccessIsAdmitted n c _ = Unit {0}

-- Null, or a pointer of the word's type and offset
abbrev pub IsOfKind : Value → Kind → Type 0
IsOfKind Null (To ty offset) = Unit {0}
IsOfKind (Ptr number ty offset) (To ty' offset') = (ty ≡ ty') × (offset ≡ offset')
IsOfKind _ _ = ⊥

-- Null, or a pointer to its allocation's first word
abbrev pub IsBase : Value → Type 0
IsBase Null = Unit {0}
IsBase (Num m) = ⊥
IsBase (Ptr number ty offset) = offset ≡ 0

-- What the operation stores has the type and the offset of the place, and what it frees is a whole allocation.
-- Global g has the type at place g of the list; a global after the list has none.
abbrev pub StoreIsAdmitted : List ℕ → NeverState → ℕ → Op → Type 0
StoreIsAdmitted globals n c (Free p) = IsBase (register_at n c p)
StoreIsAdmitted globals n c (SetPtr q i p) = Meets n (register_at n c q) i (IsOfKind (register_at n c p))
StoreIsAdmitted globals n c (CasPtr q i p r) =
    Meets n (register_at n c q) i (λ kind. IsOfKind (register_at n c p) kind × IsOfKind (register_at n c r) kind)
StoreIsAdmitted globals n c (SetGlobal g p) =
    IfSome (slice_get globals g) (λ ty. IsOfKind (register_at n c p) (To ty 0))
-- Of the others, and of a number that is stored, nothing is asked.
StoreIsAdmitted globals n c _ = Unit {0}

-- what is asked of an operation at its place
pub record IsAdmitted (globals : List ℕ) (n : NeverState) (caller : ℕ) (op : Op) : Type 0 where
  pub of_a_caller : IsCaller n caller
  pub in_range : OperandsAreInRange n op
  pub access : AccessIsAdmitted n caller op
  pub store : StoreIsAdmitted globals n caller op

-- Each operation is admitted at its place.
abbrev pub AreAdmitted : List ℕ → NeverState → List Call → Type 0
AreAdmitted globals n [] = Unit {0}
AreAdmitted globals n (x ∷ xs) = IsAdmitted globals n x.caller x.op × AreAdmitted globals (after_op n x.caller x.op) xs

-- The first word of a type, which may have none, or one of its words
abbrev pub IsPlaceIn : List Kind → ℕ → Type 0
IsPlaceIn kinds offset = (offset ≡ 0) ⊎ (offset < length kinds)

-- Null, or a pointer to a place in an allocation that exists and is of the pointer's type
abbrev pub IsSound : NeverState → Value → Type 0
IsSound n Null = Unit {0}
IsSound n (Num m) = ⊥
IsSound n (Ptr number ty offset) =
    (number < length n.allocations) × (ty ≡ (allocation_at n number).ty) × IsPlaceIn (kinds_of n.types ty) offset

-- It is a number.
abbrev pub IsNum : Value → Type 0
IsNum (Num m) = Unit {0}
IsNum _ = ⊥

-- what a word of the kind holds: a number, or a sound pointer of the kind's type and offset
abbrev pub Suits : NeverState → Value → Kind → Type 0
Suits n value Number = IsNum value
Suits n value (To ty offset) = IsSound n value × IsOfKind value (To ty offset)

-- the kind of a word, from its allocation's type
abbrev pub kind_in : NeverState → Allocation → ℕ → Kind
kind_in n a place = slice_index_or (kinds_of n.types a.ty) place Number

-- an allocation of an existing type: it has that type's words, and each holds what its kind says
pub record IsTypedAllocation (n : NeverState) (a : Allocation) : Type 0 where
  pub ty : a.ty < length n.types
  pub size : length a.words ≡ length (kinds_of n.types a.ty)
  pub words : (place : ℕ) → place < length a.words → Suits n (slice_index_or a.words place Null) (kind_in n a place)

-- Allocations are typed, registers and globals are null or sound pointers, and each global with a type of its own is
-- null or points to the first word of that type.
pub record IsTyped (global_types : List ℕ) (n : NeverState) : Type 0 where
  pub allocations : (number : ℕ) → number < length n.allocations → IsTypedAllocation n (allocation_at n number)
  pub registers : (k : ℕ) → IsSound n (slice_index_or n.registers k Null)
  pub globals : (g : ℕ) → IsSound n (global_at n g)
  pub listed : (g : ℕ) → IfSome (slice_get global_types g) (λ ty. IsOfKind (global_at n g) (To ty 0))

-- Admitted calls leave a typed state typed.
abbrev pub KeepsTyped : List ℕ → NeverState → List Call → Type 0
KeepsTyped globals n calls = IsTyped globals n → AreAdmitted globals n calls → IsTyped globals (after_calls n calls)

-- Admitted calls from the start leave a typed state.
abbrev pub StaysTyped : List ℕ → List (List Kind) → ℕ → List Call → Type 0
StaysTyped globals types callers calls =
    AreAdmitted globals (start_of types callers) calls → IsTyped globals (after_calls (start_of types callers) calls)
