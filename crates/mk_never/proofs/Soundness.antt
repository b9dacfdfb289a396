-- Sound values stay sound, and suit the kinds that they are of.
use Rattle.std.proofs.Common.{List, ℕ, arith, get_or, length, map, suc, zero, [], ◌<◌, ◌∷◌}
use Rattle.mk_never.specs.{Admitted.{IsNumber, IsOfKind, IsPointer, Meets}, NeverHeap.{Allocation, NeverState}}
use Rattle.mk_never.specs.{NeverHeap.{allocation_at, moved_on}, declared.values.Value.TheVariants.{Null, Num}}
use Rattle.mk_never.specs.{Laws.Continues, Admitted.{IsPlaceIn, IsSound, IsTypedAllocation, Suits}, Types.zero_of}
use Rattle.mk_never.specs.declared.{types.Kind.Kind, values.Value.Value}
use Rattle.mk_never.specs.declared.types.Kind.TheVariants.{Num as Number, To}

-- In a type that has words, a place is one of them.
pub place_is_inside : (kinds : List Kind) (offset : ℕ) → IsPlaceIn kinds offset → 0 < length kinds
    → offset < length kinds
place_is_inside kinds offset x2 some = grind arith

pub sound_kept : {n m : NeverState} → Continues n m → (v : Value) → IsSound n v → IsSound m v
sound_kept stays x1 sound = grind arith

pub suits_kept : {n m : NeverState} → Continues n m → (v : Value) (kind : Kind) → Suits n v kind → Suits m v kind
suits_kept stays v x2 suits = grind (arith, sound_kept)

pub allocation_kept : {n m : NeverState} → Continues n m → {a : Allocation} → IsTypedAllocation n a
    → IsTypedAllocation m a
allocation_kept stays typed = grind (arith, suits_kept)

pub number_suits : (n : NeverState) (m : ℕ) (kind : Kind) → IsNumber kind → Suits n (Num m) kind
number_suits n m x2 is = grind arith

pub pointer_suits : (n : NeverState) (v : Value) (kind : Kind) → IsSound n v → IsOfKind v kind → Suits n v kind
pointer_suits n v x2 sound of_kind = grind arith

pub suited_is_sound : (n : NeverState) (v : Value) (kind : Kind) → IsPointer kind → Suits n v kind → IsSound n v
suited_is_sound n v x2 is suits = grind arith

-- a zero word suits its kind
pub zero_suits : (n : NeverState) (kinds : List Kind) (place : ℕ) → place < length (map zero_of kinds)
    → Suits n (get_or (map zero_of kinds) place Null) (get_or kinds place Number)
zero_suits n [] place h = absurd (omega arith)
zero_suits n (Number ∷ kinds) zero h = tt
zero_suits n (To ty offset ∷ kinds) zero h = (tt, tt)
zero_suits n (kind ∷ kinds) (suc place) h = zero_suits n kinds place (omega arith)

-- a pointer moved to a word of its allocation is sound
pub moved_is_sound : (n : NeverState) (v : Value) (i : ℕ) (P : Kind → Type 0)
    → ((number : ℕ) → number < length n.allocations → IsTypedAllocation n (allocation_at n number))
    → IsSound n v → Meets n v i P → IsSound n (moved_on v i)
moved_is_sound n x1 i x3 typed sound meets = grind arith
