use Rattle.std.proofs.{Common.count_ones}
use Rattle.mk_words.proofs.Below.Laws.Vocabulary.{ℕ, arith, refl, suc, zero, ◌<◌, ◌≡◌}
use Rattle.mk_cycle.proofs.counting.count_bits.Goals as goal

-- 0 has no bit, and 1 has one
few_bits : (n : ℕ) → n < 2 → n ≡ count_ones n
unfolding lib.Count.ones
few_bits zero _ = refl
few_bits (suc zero) _ = refl
few_bits (suc (suc n)) lt = absurd (omega (arith, lt))

pub returns-then-word-lt2-clause-exact : goal.returns-then-word-lt2-clause-exact
returns-then-word-lt2-clause-exact c = few_bits c.args.word c.if-word-lt2.true
