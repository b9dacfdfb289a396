-- The next page by one test and by another, and by the list that the test is of.
use Rattle.mk_books.proofs.Vocabulary.{Bool, IsNext, List, None, Option, Some, ℕ, arith, first_where, get_or, length}
use Rattle.mk_books.proofs.Vocabulary.{sym, ◌<◌, ◌∙◌, ◌≡◌}
use Rattle.mk_books.proofs.FirstWhereLemmas.{first_where_at, first_where_nowhere}

-- by another test that each page passes if it passes this one
pub same_next : {passes : ℕ → Bool} (others : ℕ → Bool) (from : ℕ) {count : ℕ} (next : Option ℕ) → ((number : ℕ)
    → number < count → passes number ≡ others number) → IsNext passes from count next → IsNext others from count next
same_next others from _ same next = grind arith

-- the first of a list is the next one from its start
pub first_is_next : {A : Type 0} (p : A → Bool) (xs : List A) (d : A) {passes : ℕ → Bool} (next : Option ℕ)
    → ((number : ℕ) → number < length xs → passes number ≡ p (get_or xs number d))
    → IsNext passes 0 (length xs) next → next ≡ first_where p xs
first_is_next p xs d (Some number) same next = grind (arith, first_where_at)
first_is_next p xs d None same next =
    sym (first_where_nowhere p xs d (λ k within. sym (same k within) ∙ next k (omega arith) within))
