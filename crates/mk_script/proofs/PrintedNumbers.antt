-- A number's digits say the number.
use Rattle.std.proofs.lemmas.Fmt.{decimal_digit, decimal_nonempty, digits_decimal, digits_value-decimal, first_decimal}
use Rattle.std.proofs.{lemmas.Str.Parse.{IsNumeralModel, numerals_by_fold}, Common.ne_eqb}
use Rattle.std.proofs.lemmas.{Bool.{not_from_false, or_right}, Grind.common_steps}
use Rattle.mk_script.proofs.Vocabulary.{List, Some, ℕ, all_ascii_digits, and_from, arith, cond-true, decimal, get_or}
use Rattle.mk_script.proofs.Vocabulary.{length, lt-ltb, nat_eq, not, number_of_word, rules, true, value_from, ◌<◌, ◌^◌}
use Rattle.mk_script.{proofs.Vocabulary.{◌||◌, ◌≡◌}, specs.Operands.{is_numeral}}

own : IsNumeralModel (λ ds. all_ascii_digits ds ≡ true) (value_from 0)
own = numerals_by_fold _ (search rules) value_from (search rules)

pub all_ascii_digits-decimal : (n : ℕ) → n < 2 ^ 64 → all_ascii_digits (decimal n) ≡ true
all_ascii_digits-decimal n small = digits_decimal own n small

pub value_from-decimal : (n : ℕ) → n < 2 ^ 64 → value_from 0 (decimal n) ≡ n
value_from-decimal n small = digits_value-decimal own n small

-- no zero leads, but that of 0 itself
leads_rightly : (n : ℕ) → n < 2 ^ 64
    → ((nat_eq (length (decimal n)) 1) || not (nat_eq (get_or (decimal n) 0 0) 48)) ≡ true
leads_rightly x0 small = grind (arith, decimal_digit, first_decimal, or_right, not_from_false, ne_eqb)

pub is_numeral-decimal : (n : ℕ) → n < 2 ^ 64 → is_numeral (decimal n) ≡ true
is_numeral-decimal n small = grind (arith, and_from, all_ascii_digits-decimal, lt-ltb, decimal_nonempty, leads_rightly)

pub number_of_word-decimal : (n : ℕ) → n < 2 ^ 64 → number_of_word (decimal n) ≡ Some n
number_of_word-decimal n small = grind (arith, value_from-decimal, cond-true, and_from, is_numeral-decimal, lt-ltb)

-- a number that a word says is below 2^64
pub number_of_word-below : (word : List ℕ) (n : ℕ) → number_of_word word ≡ Some n → n < 2 ^ 64
number_of_word-below word n e = grind (arith, common_steps)
