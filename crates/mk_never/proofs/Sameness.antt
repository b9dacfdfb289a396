-- `is_same` says whether two values are equal.
use Rattle.std.proofs.Common.{Bool, ℕ, arith, eq-eqb, eqb-true, false, true, ◌↔◌, ◌≡◌, ◌≢◌}
use Rattle.std.proofs.lemmas.Bool.{and_from, and_parts, false_from_ne_true}
use Rattle.mk_never.specs.NeverHeap.{NeverState, bit, is_same}
use Rattle.mk_never.specs.{Laws.SameTells, declared.values.Value.Value, declared.values.Value.TheVariants.Ptr}

pub equal_from_same : (v w : Value) → is_same v w ≡ true → v ≡ w
equal_from_same x0 x1 h = grind (arith, eqb-true, and_parts)

same_itself : (v : Value) → is_same v v ≡ true
same_itself x0 = grind (arith, eq-eqb, and_from)

pub same_from_equal : (v w : Value) → v ≡ w → is_same v w ≡ true
same_from_equal v w e = rw (← e) (same_itself v)

pub same_compares : (v w : Value) → (is_same v w ≡ true) ↔ (v ≡ w)
same_compares v w = (equal_from_same v w, same_from_equal v w)

pub apart : (number number' ty ty' offset offset' : ℕ) → number ≢ number'
    → is_same (Ptr number ty offset) (Ptr number' ty' offset') ≡ false
apart number number' ty ty' offset offset' other = grind (arith, false_from_ne_true, equal_from_same)

bit_one : (b : Bool) → bit b ≡ 1 → b ≡ true
bit_one x0 h = grind arith

-- what a Same replies
pub same_tells : (n : NeverState) (caller p q : ℕ) → SameTells n caller p q
same_tells n caller p q = grind (arith, equal_from_same, bit_one, same_from_equal)

pub ruleset same_compares_values_facts = (same_compares, apart, same_tells)
