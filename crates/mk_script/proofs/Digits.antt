-- The number that digits stand for, digit by digit.
use Rattle.std.proofs.{Common.{le-ltb, ltb, ◌*◌}, Math.Bool.and-false, lemmas.List.{at_drop_all, at_drop_more}}
use Rattle.mk_script.proofs.Vocabulary.{List, None, Some, ℕ, all_ascii_digits, arith, drop, get_or, length, lt-ltb}
use Rattle.mk_script.proofs.Vocabulary.{refl, true, value_from, [], ◌+◌, ◌-◌, ◌<◌, ◌^◌, ◌∙◌, ◌∷◌, ◌≡◌, ◌≤◌}
use Rattle.mk_script.specs.Operands.{value_of_digits}

pub value_from-le : (high : ℕ) (digits : List ℕ) → high ≤ value_from high digits
value_from-le high [] = omega arith
value_from-le high (digit ∷ digits) = omega (arith, value_from-le (10 * high + (digit - 48)) digits)

pub value_from-drop : (high : ℕ) (digits : List ℕ) (i : ℕ) → i < length digits
    → value_from high (drop i digits) ≡ value_from (10 * high + (get_or digits i 0 - 48)) (drop (i + 1) digits)
value_from-drop high digits i inside = at_drop_more (value_from high) digits i 0 inside

-- the digits so far are too great already
pub too_great : (high : ℕ) (digits : List ℕ) (i : ℕ) → i < length digits → value_from 0 digits ≡ value_from high
    (drop i digits) → 2 ^ 64 ≤ 10 * high + (get_or digits i 0 - 48) → value_of_digits digits ≡ None
too_great high digits i inside so_far great = grind (arith, value_from-drop, value_from-le, le-ltb, and-false)

-- there are no digits left
pub from_all : (high : ℕ) (digits : List ℕ) (i : ℕ) → length digits ≤ i
    → all_ascii_digits digits ≡ all_ascii_digits (drop i digits) → value_from 0 digits ≡ value_from high (drop i digits)
    → high < 2 ^ 64 → value_of_digits digits ≡ Some high
from_all high digits i all digits_so_far so_far fits =
    let last = at_drop_all (value_from high) digits i all in
    let whole : value_from 0 digits ≡ high = so_far ∙ last in
    let tested : all_ascii_digits digits ≡ true = digits_so_far ∙ at_drop_all all_ascii_digits digits i all in
    let test : ltb high (2 ^ 64) ≡ true = lt-ltb high (2 ^ 64) fits in
    rw (whole, tested, test) refl
