-- Pairs of words are wiped one after the other.
use Rattle.mk_words.proofs.Below.Laws.Vocabulary.{ℕ, arith, subst, ◌*◌, ◌+◌, ◌<◌, ◌≡◌}
use Rattle.mk_cycle.proofs.Vocabulary.{GivesNothingBack, IsUnmappedWord, IsZero, PassState, below_more}
use Rattle.mk_cycle.proofs.GivingSteps.{still_unmapped_word}

-- a word of these pairs, where nothing was given back since
pub unmapped_still : {p q : PassState} (start pairs : ℕ) → GivesNothingBack p q → ((i : ℕ) → i < 2 * pairs
    → IsUnmappedWord p (start + i)) → (i n : ℕ) → i < 2 * pairs → start + i ≡ n → IsUnmappedWord q n
unmapped_still {q = q} start pairs none unmapped i n lt is =
    subst (λ (n : ℕ). IsUnmappedWord q n) is (still_unmapped_word none.frees (unmapped i lt))

-- one pair more is 0
pub pair_more : {p a q : PassState} (start pairs k : ℕ) → GivesNothingBack p a → GivesNothingBack a q → ((i : ℕ)
    → i < 2 * pairs → IsUnmappedWord p (start + i)) → k < pairs → ((i : ℕ) → i < 2 * k → IsZero a (start + i))
    → IsZero q (start + 2 * k) → IsZero q (start + (2 * k + 1)) → (i : ℕ) → i < 2 * (k + 1) → IsZero q (start + i)
pair_more {q = q} start pairs k before now unmapped few zeros first second i lt =
    let zero : ℕ → Type 0 = λ j. IsZero q (start + j) in
    below_more zero (2 * k + 1) (below_more zero (2 * k)
    (λ j low. now.frees.zeros (start + j) (still_unmapped_word before.frees
    (unmapped j (omega (arith, low, few)))).unmapped (zeros j low)) first) second i (omega (arith, lt))
