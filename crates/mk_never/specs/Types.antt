-- Types: lists of kinds, one kind a word.
use Rattle.std.specs.{Prelude.{ℕ, Bool, true, false, List, [], length, nat_lt, slice_index_or, map}, List.list_all}
use Rattle.mk_never.specs.{declared.types.Kind.Kind, declared.types.Kind.TheVariants.{Num, To}}
use Rattle.mk_never.specs.{declared.values.Value.Value, declared.values.Value.TheVariants.{Null, Num as Number}}

-- the kinds of a type's words
abbrev pub kinds_of : List (List Kind) → ℕ → List Kind
kinds_of types ty = slice_index_or types ty []

-- a word that is no pointer
abbrev pub is_number : Kind → Bool
is_number Num = true
is_number (To ty offset) = false

-- a type without a pointer
abbrev pub is_leaf : List Kind → Bool
is_leaf kinds = list_all is_number kinds

-- of more than 32 words
abbrev pub is_large : {A : Type 0} → List A → Bool
is_large words = nat_lt 32 (length words)

-- what a word of a new object is: a number 0, or no pointer
abbrev pub zero_of : Kind → Value
zero_of Num = Number 0
zero_of (To ty offset) = Null

-- the words of a new object
abbrev pub zero_words : List Kind → List Value
zero_words kinds = map zero_of kinds
