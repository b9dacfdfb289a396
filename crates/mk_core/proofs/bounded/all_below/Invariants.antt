use Rattle.mk_core.proofs.Vocabulary.{Bool, ℕ, all_below, true, ◌<◌, ◌≡◌}
use Rattle.mk_core.proofs.bounded.all_below.Given as goal

abbrev pub invariant-loop-k : goal.invariant-loop-k
invariant-loop-k g l =
    (asked : ℕ → Bool) → ((k : ℕ) (answer : Bool) → k < l.count → goal.F-post g l.test k answer → answer ≡ asked k)
    → all_below l.k asked ≡ true
