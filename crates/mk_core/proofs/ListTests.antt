-- Tests of lists that compute: what they say of each element, at every index, and of each front of a list.
use Rattle.mk_core.proofs.Vocabulary.{Bool, List, ℕ, and_parts, ap, false, false≢true, list_all, not, slice_index_or}
use Rattle.mk_core.proofs.Vocabulary.{suc, sym, true, zero, [], ◌&&◌, ◌++◌, ◌||◌, ◌∙◌, ◌∷◌, ◌≡◌}

-- a test of the form `not a || b`
pub implied : (a b : Bool) → (not a || b) ≡ true → a ≡ true → b ≡ true
implied true b h is = h
implied false b h is = absurd (false≢true is)

-- what holds of all elements, and of what stands after the end, holds at every index
pub list_all-at : {A : Type 0} (test : A → Bool) (xs : List A) (d : A) → list_all test xs ≡ true → test d ≡ true
    → (i : ℕ) → test (slice_index_or xs i d) ≡ true
list_all-at test [] d h behind i = behind
list_all-at test (x ∷ xs) d h behind zero = (and_parts (test x) (list_all test xs) h).0
list_all-at test (x ∷ xs) d h behind (suc i) =
    list_all-at test xs d (and_parts (test x) (list_all test xs) h).1 behind i

-- The test holds of each element, with its number.
unfoldable pub numbered_all : {A : Type 0} → (ℕ → A → Bool) → List A → Bool
numbered_all test [] = true
numbered_all test (x ∷ xs) = test 0 x && numbered_all (λ i y. test (suc i) y) xs

pub numbered_all-at : {A : Type 0} (test : ℕ → A → Bool) (xs : List A) (d : A)
    → numbered_all test xs ≡ true → ((i : ℕ) → test i d ≡ true) → (i : ℕ) → test i (slice_index_or xs i d) ≡ true
unfolding numbered_all
numbered_all-at test [] d h behind i = behind i
numbered_all-at test (x ∷ xs) d h behind zero = (and_parts (test 0 x) (numbered_all (λ i y. test (suc i) y) xs) h).0
numbered_all-at test (x ∷ xs) d h behind (suc i) =
    numbered_all-at (λ i y. test (suc i) y) xs d (and_parts (test 0 x) (numbered_all (λ i y. test (suc i) y) xs) h).1
    (λ j. behind (suc j)) i

-- The test holds of each front of the list, from none of it to all.
unfoldable pub all_fronts : {A : Type 0} → (List A → Bool) → List A → Bool
all_fronts test [] = test []
all_fronts test (x ∷ xs) = test [] && all_fronts (λ ys. test (x ∷ ys)) xs

pub all_fronts-at : {A : Type 0} (test : List A → Bool) (xs front rest : List A)
    → all_fronts test xs ≡ true → xs ≡ front ++ rest → test front ≡ true
unfolding all_fronts
all_fronts-at test [] [] rest h is = h
all_fronts-at test (x ∷ xs) [] rest h is = (and_parts (test []) (all_fronts (λ ys. test (x ∷ ys)) xs) h).0
all_fronts-at test [] (y ∷ front) rest h is = absurd cc
all_fronts-at test (x ∷ xs) (y ∷ front) rest h is =
    let same : x ≡ y = cc in
    let others : xs ≡ front ++ rest = cc in
    ap (λ z. test (z ∷ front)) (sym same) ∙ all_fronts-at (λ ys. test (x ∷ ys)) xs front rest
    (and_parts (test []) (all_fronts (λ ys. test (x ∷ ys)) xs) h).1 others
