use Rattle.mk_script.proofs.{Vocabulary.{arith, sym}, Digits.{from_all, too_great}}
use Rattle.mk_script.proofs.numbers.from_digits.Goals as goal

pub returns-in_err-checked_mul : goal.returns-in_err-checked_mul
returns-in_err-checked_mul c = grind (arith, too_great)

pub returns-in_err-value : goal.returns-in_err-value
returns-in_err-value c = grind (arith, too_great)

pub returns : goal.returns
returns c = sym (from_all c.loop-byte.value c.args.digits.now c.loop-byte.byte-index c.loop-byte-test.false
    c.loop-byte.invariant.1 c.loop-byte.invariant.2 (omega arith))
