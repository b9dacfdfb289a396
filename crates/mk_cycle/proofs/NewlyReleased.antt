-- Lists of allocations after a `release`: what is new there, counted and weighed.
use Rattle.std.proofs.Common.{filter}
use Rattle.mk_words.proofs.Below.Laws.Vocabulary.{Bool, List, PlacedAllocation, ℕ, ap, arith, cond, false, get_or}
use Rattle.mk_words.proofs.Below.Laws.Vocabulary.{if◌then◌else◌, length, map, not, refl, suc, true, zero, [], ◌&&◌, ◌+◌}
use Rattle.mk_words.proofs.Below.Laws.Vocabulary.{◌∷◌, ◌≡◌}
use Rattle.mk_cycle.proofs.Vocabulary.{count_by, newly_released, releases, sum_by, sum_by-cons}

-- Sums of what is the same at each place are the same,
pub same_at_each : {X : Type 0} (d : X) (f g : X → ℕ) (xs : List X)
    → ((i : ℕ) → f (get_or xs i d) ≡ g (get_or xs i d)) → sum_by f xs ≡ sum_by g xs
same_at_each d f g [] same = refl
same_at_each d f g (x ∷ xs) same =
    let a = sum_by-cons f x xs in
    let b = sum_by-cons g x xs in
    let here : f x ≡ g x = same zero in
    let rest = same_at_each d f g xs (λ i. same (suc i)) in
    omega arith

-- and counts add up where they do so at each place.
pub parts_at_each : {X : Type 0} (d : X) (f g h : X → ℕ) (xs : List X)
    → ((i : ℕ) → f (get_or xs i d) ≡ g (get_or xs i d) + h (get_or xs i d)) → sum_by f xs ≡ sum_by g xs + sum_by h xs
parts_at_each d f g h [] same = refl
parts_at_each d f g h (x ∷ xs) same =
    let a = sum_by-cons f x xs in
    let b = sum_by-cons g x xs in
    let c = sum_by-cons h x xs in
    let here : f x ≡ g x + h x = same zero in
    let rest = parts_at_each d f g h xs (λ i. same (suc i)) in
    omega arith

module _ (f : PlacedAllocation → PlacedAllocation) where
  abbrev pub is_new : PlacedAllocation → Bool
  is_new a = not a.released && (f a).released

  length_cons : (b : Bool) (a : PlacedAllocation) (ys : List PlacedAllocation)
      → length (if b then a ∷ ys else ys) ≡ cond b 1 0 + length ys
  length_cons x0 a ys = grind arith

  pub newly_counted : (xs : List PlacedAllocation) → length (newly_released xs (map f xs)) ≡ count_by is_new xs
  newly_counted [] = refl
  newly_counted (a ∷ ys) =
      let first = length_cons (is_new a) (f a) (newly_released ys (map f ys)) in
      let rest = newly_counted ys in
      let split = sum_by-cons (λ x. cond (is_new x) 1 0) a ys in
      omega arith

  pub newly_weighed : (g : PlacedAllocation → ℕ) → ((a : PlacedAllocation) → g (f a) ≡ g a) → (xs : List
      PlacedAllocation) → sum_by g (newly_released xs (map f xs)) ≡ sum_by (λ x. cond (is_new x) (g x) 0) xs
  newly_weighed g same [] = refl
  newly_weighed g same (a ∷ ys) =
      let first : sum_by g (if (is_new a) then (f a) ∷ (newly_released ys (map f ys)) else (newly_released ys (map f
      ys))) ≡ cond (is_new a) (g (f a)) 0 + sum_by g (newly_released ys (map f ys)) = grind (arith, sum_by-cons) in
      let weight : cond (is_new a) (g (f a)) 0
      ≡ cond (is_new a) (g a) 0 = ap (λ (n : ℕ). cond (is_new a) n 0) (same a) in
      let rest = newly_weighed g same ys in
      let split = sum_by-cons (λ x. cond (is_new x) (g x) 0) a ys in
      omega arith

  -- Released allocations stay so, and the new ones come to them.
  pub newly_added : ((a : PlacedAllocation) → a.released ≡ true → (f a).released ≡ true) → (xs : List PlacedAllocation)
      → releases (map f xs) ≡ releases xs + length (newly_released xs (map f xs))
  newly_added stays [] = refl
  newly_added stays (a ∷ ys) =
      let mapped = sum_by-cons (λ (x : PlacedAllocation). cond {A = ℕ} x.released 1 0) (f a) (map f ys) in
      let old = sum_by-cons (λ (x : PlacedAllocation). cond {A = ℕ} x.released 1 0) a ys in
      let new = length_cons (is_new a) (f a) (newly_released ys (map f ys)) in
      let here : cond {A = ℕ} (f a).released 1 0 ≡ cond a.released 1 0 + cond
      (not a.released && (f a).released) 1 0 = grind arith in
      let rest = newly_added stays ys in
      omega arith

  -- What passes a test stands where the elements that pass it are left, and no ys come to pass it.
  pub left_filtered : (t : PlacedAllocation → Bool) (d : PlacedAllocation) (xs : List PlacedAllocation)
      → ((i : ℕ) → t (get_or xs i d) ≡ true → f (get_or xs i d) ≡ get_or xs i d)
      → ((i : ℕ) → t (get_or xs i d) ≡ false → t (f (get_or xs i d)) ≡ false) → filter t (map f xs) ≡ filter t xs
  left_filtered t d [] left none = refl
  left_filtered t d (a ∷ ys) left none =
      by (t a) refl (left_filtered t d ys (λ i. left (suc i)) (λ i. none (suc i)))
    where
      by : (b : Bool) → t a ≡ b → filter t (map f ys) ≡ filter t ys → (if t (f a) then f a ∷ filter t
          (map f ys) else filter t (map f ys)) ≡ (if t a then a ∷ filter t ys else filter t ys)
      by true is rest = cc (left zero is)
      by false is rest = cc (none zero is)
