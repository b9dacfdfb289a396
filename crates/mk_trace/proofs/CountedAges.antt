-- Pairs of an age and how many have it: ages are counted one by one, in any order.
use Rattle.std.proofs.{Common.drop-set-lt, lemmas.List.take-set, lemmas.List.Sums.fold-append}
use Rattle.mk_trace.proofs.Vocabulary.{counted, drop_more, fold, in_a_word, nat_tests, one_if, take-append-drop, times}
use Rattle.mk_trace.proofs.Vocabulary.{with_one}
use Rattle.mk_heap.proofs.Below.Laws.Vocabulary.{List, ℕ, ap, arith, drop, get_or-set_same, if◌then◌else◌, length}
use Rattle.mk_heap.proofs.Below.Laws.Vocabulary.{length-set, map}
use Rattle.mk_heap.proofs.Below.Laws.Vocabulary.{refl, slice_index_or, slice_set, subst, sym, take, [], ◌++◌, ◌+◌, ◌<◌}
use Rattle.mk_heap.proofs.Below.Laws.Vocabulary.{◌==◌, ◌∙◌}
use Rattle.mk_heap.proofs.Below.Laws.Vocabulary.{◌∷◌, ◌≡◌, ◌≤◌}

pub counted_more : (ages more : List ℕ) → fold with_one (counted ages) more ≡ counted (ages ++ more)
counted_more ages more = sym (fold-append with_one [] ages more)

-- Two ages are counted in either order.
either : (pairs : List (ℕ × ℕ)) (a b : ℕ) → with_one (with_one pairs a) b ≡ with_one (with_one pairs b) a
either [] a b = grind (arith, nat_tests)
either (p ∷ pairs) a b = grind (arith, nat_tests, either pairs a b)

-- Lists in which each number stands as often are counted alike.

abbrev without : ℕ → List ℕ → List ℕ
without n [] = []
without n (y ∷ ys) = if y == n then ys else y ∷ without n ys

times_without : (n : ℕ) (ys : List ℕ) → 1 ≤ times n ys → (i : ℕ) → times i ys ≡ one_if (n == i) + times i (without n ys)
times_without n [] some i = absurd (omega (arith, some))
times_without n (y ∷ ys) some i = grind (arith, nat_tests, λ (h : 1 ≤ times n ys). times_without n ys h i)

taken : (f : ℕ → ℕ) (pairs : List (ℕ × ℕ)) (n : ℕ) (ys : List ℕ) → 1 ≤ times n ys
    → fold with_one pairs (map f ys) ≡ fold with_one (with_one pairs (f n)) (map f (without n ys))
taken f pairs n [] some = absurd (omega (arith, some))
taken f pairs n (y ∷ ys) some =
    grind (arith, nat_tests, either pairs (f y) (f n), λ (h : 1 ≤ times n ys). taken f (with_one pairs (f y)) n ys h)

stands : (n : ℕ) (ys : List ℕ) → 1 ≤ times n (n ∷ ys)
stands n ys = grind (arith, nat_tests)

nothing : (ys : List ℕ) → ((i : ℕ) → times i ys ≡ 0) → ys ≡ []
nothing [] none = refl
nothing (y ∷ ys) none = let first = none y in absurd (omega (arith, stands y ys, first))

same_folded : (f : ℕ → ℕ) (pairs : List (ℕ × ℕ)) (xs ys : List ℕ) → ((i : ℕ) → times i xs ≡ times i ys)
    → fold with_one pairs (map f xs) ≡ fold with_one pairs (map f ys)
same_folded f pairs [] ys same =
    ap (λ (l : List ℕ). fold with_one pairs (map f l)) (sym (nothing ys (λ i. sym (same i))))
same_folded f pairs (n ∷ xs) ys same =
    let first = same n in
    let there : 1 ≤ times n ys = omega (arith, stands n xs, first) in
    same_folded f (with_one pairs (f n)) xs (without n ys)
    (λ i. (let one = same i in let other = times_without n ys there i in omega (arith, one, other)))
    ∙ sym (taken f pairs n ys there)

pub same_counted : (f : ℕ → ℕ) (xs ys : List ℕ) → ((i : ℕ) → times i xs ≡ times i ys)
    → counted (map f xs) ≡ counted (map f ys)
same_counted f xs ys same = same_folded f [] xs ys same

-- One more of an age that stands among pairs, where the pairs before that place have less.

set_is : (xs : List (ℕ × ℕ)) (i : ℕ) (y : ℕ × ℕ) → i < length xs → slice_set xs i y ≡ take i xs ++ y ∷ drop (i + 1) xs
set_is xs i y lt =
    let now : List (ℕ × ℕ) = slice_set xs i y in
    let there : i < length now = omega (arith, lt, length-set xs i y) in
    sym (take-append-drop i now) ∙ ap (λ (l : List (ℕ × ℕ)). l ++ drop i now) (take-set xs i y)
    ∙ ap (λ (l : List (ℕ × ℕ)). take i xs ++ l) (drop_more now i y there)
    ∙ ap (λ (p : ℕ × ℕ). take i xs ++ p ∷ drop (i + 1) now) (get_or-set_same xs i y y lt)
    ∙ ap (λ (l : List (ℕ × ℕ)). take i xs ++ y ∷ l) (drop-set-lt (i + 1) xs i y (omega arith))

-- one pair

-- at a place of the list

module _ (first now : List (ℕ × ℕ)) (i age : ℕ) (p : ℕ × ℕ) (same : now ≡ first)
    (rest : with_one first age ≡ take i first ++ with_one (drop i first) age) where
  module _ (lt : i < length now) (at : p ≡ slice_index_or now i p) where
    there : i < length first
    there = subst (λ (l : List (ℕ × ℕ)). i < length l) same lt

    pub set_there : (n : ℕ) → age ≡ p.0 → n ≡ in_a_word (p.1 + 1) → slice_set now i (p.0, n) ≡ with_one first age
    set_there n equal is = grind (arith, set_is, there, drop_more, nat_tests)
