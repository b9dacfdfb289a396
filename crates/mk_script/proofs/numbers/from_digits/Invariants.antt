use Rattle.mk_script.proofs.Vocabulary.{all_ascii_digits, drop, value_from, ◌<◌, ◌^◌, ◌≡◌}
use Rattle.mk_script.proofs.numbers.from_digits.Given as goal

-- the digits so far are digits, and `value` is what they stand for
abbrev pub invariant-loop-byte : goal.invariant-loop-byte
invariant-loop-byte l =
    (l.value < 2 ^ 64) × (all_ascii_digits l.digits ≡ all_ascii_digits (drop l.byte-index l.digits))
    × (value_from 0 l.digits ≡ value_from l.value (drop l.byte-index l.digits))
