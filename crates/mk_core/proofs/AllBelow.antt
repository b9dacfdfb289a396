-- Tests that hold of each number below one.
use Rattle.std.proofs.Common.{add-one}
use Rattle.mk_core.proofs.Vocabulary.{Bool, ℕ, all_below, and-false, and_parts, ap, arith, cases_eq, false, inl, inr}
use Rattle.mk_core.proofs.Vocabulary.{refl, suc, sym, true, zero, ◌&&◌, ◌+◌, ◌<◌, ◌∙◌, ◌≡◌}

pub all_below_zero_is : (test : ℕ → Bool) → all_below 0 test ≡ true
unfolding all_below
all_below_zero_is test = refl

-- one more
pub all_below_suc : (n : ℕ) (test : ℕ → Bool) → all_below (suc n) test ≡ (all_below n test && test n)
unfolding all_below
all_below_suc n test = refl

pub all_below_more_is : (n : ℕ) (test : ℕ → Bool) → all_below n test ≡ true → test n ≡ true
    → all_below (n + 1) test ≡ true
unfolding all_below
all_below_more_is n test h t = rw (add-one, h) t

-- if one test fails, that of all does
pub all_below_not_is : (n k : ℕ) (test : ℕ → Bool) → k < n → test k ≡ false → all_below n test ≡ false
unfolding all_below
all_below_not_is zero k test lt f = absurd (omega arith)
all_below_not_is (suc n) k test lt f = elim (cases_eq k n) [
  | inl e ↦ ap (λ b. all_below n test && b) (ap test (sym e) ∙ f) ∙ and-false (all_below n test)
  | inr ne ↦ ap (λ b. b && test n) (all_below_not_is n k test (omega arith) f)
]

-- what it says of each
pub all_below-at : (n k : ℕ) (test : ℕ → Bool) → all_below n test ≡ true → k < n → test k ≡ true
unfolding all_below
all_below-at zero k test h lt = absurd (omega arith)
all_below-at (suc n) k test h lt =
    let b = and_parts (all_below n test) (test n) h in
    elim (cases_eq k n) [ inl e ↦ ap test e ∙ b.1 | inr ne ↦ all_below-at n k test b.0 (omega arith) ]

pub ruleset all_below_facts = (all_below_zero_is, all_below_more_is, all_below_not_is)
