-- Sums of a number that each page has.
use Rattle.std.proofs.Common.{ℕ, add-one, arith, inl, inr, map, refl, suc, zero, ◌*◌, ◌+◌, ◌<◌, ◌≡◌, ◌≤◌}
use Rattle.std.proofs.{lemmas.Bool.cases_lt, lemmas.List.FromFn.sum_by-map-range_with_len_more}
use Rattle.std.specs.List.{range_with_len, sum_by}

-- the sum over the pages below n
abbrev pub sum_below : (ℕ → ℕ) → ℕ → ℕ
sum_below f zero = 0
sum_below f (suc n) = sum_below f n + f n

pub sum_by-range : {X : Type 0} (g : X → ℕ) (f : ℕ → X) (n : ℕ)
    → sum_by g (map f (range_with_len 0 n)) ≡ sum_below (λ p. g (f p)) n
sum_by-range g f zero = refl
sum_by-range g f (suc n) = cc (add-one n, sum_by-map-range_with_len_more g f 0 n n (omega arith), sum_by-range g f n)

pub sum_below-add : (f g h : ℕ → ℕ) (n : ℕ) → ((p : ℕ) → p < n → f p ≡ g p + h p)
    → sum_below f n ≡ sum_below g n + sum_below h n
sum_below-add f g h zero each = refl
sum_below-add f g h (suc n) each =
    omega (arith, sum_below-add f g h n (λ p lt. each p (omega arith)), each n (omega arith))

pub sum_below-zero : (f : ℕ → ℕ) (n : ℕ) → ((p : ℕ) → p < n → f p ≡ 0) → sum_below f n ≡ 0
sum_below-zero f zero each = refl
sum_below-zero f (suc n) each = omega (arith, sum_below-zero f n (λ p lt. each p (omega arith)), each n (omega arith))

-- if this many pages from one on have the same number, and the others nothing
module _ (f : ℕ → ℕ) (first count a : ℕ) (before : (p : ℕ) → p < first → f p ≡ 0)
    (within : (p : ℕ) → first ≤ p → p < first + count → f p ≡ a) (behind : (p : ℕ) → first + count ≤ p → f p ≡ 0) where
  sum_within : (n k : ℕ) → n ≡ first + k → k ≤ count → sum_below f n ≡ k * a
  sum_within n zero is le = omega (arith, sum_below-zero f n (λ p lt. before p (omega arith)))
  sum_within zero (suc k) is le = absurd (omega arith)
  sum_within (suc n) (suc k) is le =
      omega (arith, sum_within n k (omega arith) (omega arith), within n (omega arith) (omega arith))

  pub sum_below-block : (n : ℕ) → first + count ≤ n → sum_below f n ≡ count * a
  sum_below-block zero le = sum_within 0 count (omega arith) (omega arith)
  sum_below-block (suc n) le = elim (cases_lt n (first + count)) [
    | inl here ↦ sum_within (suc n) count (omega arith) (omega arith)
    | inr past ↦ omega (arith, sum_below-block n past, behind n past)
  ]
