-- Tests of each number below a sum.
use Rattle.std.proofs.{Common.add-suc, Math.Bool.and-true, Math.Bool.and_assoc}
use Rattle.mk_core.proofs.Vocabulary.{Bool, ℕ, all_below, arith, refl, suc, zero, ◌&&◌, ◌+◌, ◌≡◌}

-- this many, and this many after them
pub all_below-add : (a b : ℕ) (test : ℕ → Bool)
    → all_below (a + b) test ≡ (all_below a test && all_below b (λ i. test (a + i)))
unfolding all_below
all_below-add a zero test = grind (arith, and-true)
all_below-add a (suc b) test =
    rw (add-suc, all_below-add a b test) (and_assoc (all_below a test) (all_below b (λ i. test (a + i))) (test (a + b)))

pub all_below_same : (n : ℕ) (test other : ℕ → Bool) → ((i : ℕ) → test i ≡ other i)
    → all_below n test ≡ all_below n other
unfolding all_below
all_below_same zero test other same = refl
all_below_same (suc n) test other same = rw (all_below_same n test other same, same n)
