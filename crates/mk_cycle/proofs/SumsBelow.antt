-- Counts that are counted in parts: the elements of a list by a key, and the bits of a word one by one.
use Rattle.mk_words.proofs.Below.Laws.Vocabulary.{Bool, List, ℕ, ap, arith, cases_eq, cond, eq-eqb, false, get_or, inl}
use Rattle.mk_words.proofs.Below.Laws.Vocabulary.{inr, length, ne_eqb, refl, suc, sym, true, true≢false, zero, [], ◌&&◌}
use Rattle.mk_words.proofs.Below.Laws.Vocabulary.{◌*◌, ◌+◌, ◌<◌, ◌==◌, ◌∙◌, ◌∷◌, ◌≡◌, ◌≤◌}
use Rattle.mk_cycle.proofs.Vocabulary.{count_by, sum_below, sum_by, sum_by-cons}

pub sum_same : (n : ℕ) (f g : ℕ → ℕ) → ((i : ℕ) → i < n → f i ≡ g i) → sum_below n f ≡ sum_below n g
sum_same zero f g same = refl
sum_same (suc n) f g same =
    let a = sum_same n f g (λ i lt. same i (omega arith)) in
    let b = same n (omega arith) in
    omega arith

-- Values that are 0 add nothing.
pub sum_past : (m n : ℕ) (f : ℕ → ℕ) → m ≤ n → ((i : ℕ) → m ≤ i → i < n → f i ≡ 0) → sum_below n f ≡ sum_below m f
sum_past m zero f le none = grind arith
sum_past m (suc n) f le none = elim (cases_eq m (suc n)) [
  | inl same ↦ ap (λ (k : ℕ). sum_below k f) (sym same)
  | inr other ↦
      let a = sum_past m n f (omega arith) (λ i after lt. none i after (omega arith)) in
      let b = none n (omega arith) (omega arith) in
      omega arith
]

sum_of_none : (n : ℕ) (f : ℕ → ℕ) → ((i : ℕ) → i < n → f i ≡ 0) → sum_below n f ≡ 0
sum_of_none zero f none = refl
sum_of_none (suc n) f none =
    let a = sum_of_none n f (λ i lt. none i (omega arith)) in
    let b = none n (omega arith) in
    omega arith

sum_of_both : (n : ℕ) (f g : ℕ → ℕ) → sum_below n (λ i. f i + g i) ≡ sum_below n f + sum_below n g
sum_of_both zero f g = refl
sum_of_both (suc n) f g = let a = sum_of_both n f g in omega arith

sum_from_first : (n : ℕ) (f : ℕ → ℕ) → sum_below (suc n) f ≡ f 0 + sum_below n (λ i. f (suc i))
sum_from_first zero f = omega arith
sum_from_first (suc n) f = let a = sum_from_first n f in omega arith

one_if_same : (k n : ℕ) → k < n → sum_below n (λ i. cond (k == i) 1 0) ≡ 1
one_if_same k zero lt = absurd (omega arith)
one_if_same k (suc n) lt = elim (cases_eq k n) [
  | inl same ↦
      let a = sum_of_none n (λ i. cond (k == i) 1 0)
      (λ i below. ap (λ (b : Bool). cond {A = ℕ} b 1 0) (ne_eqb k i (λ e. omega arith))) in
      let b = ap (λ (b : Bool). cond {A = ℕ} b 1 0) (eq-eqb k n same) in
      omega arith
  | inr other ↦
      let a = one_if_same k n (omega arith) in
      let b = ap (λ (b : Bool). cond {A = ℕ} b 1 0) (ne_eqb k n other) in
      omega arith
]

none_times : (n : ℕ) → 0 * n ≡ 0
none_times n = omega arith

-- the sum of a value at one place alone
sum_of_one : (k n : ℕ) (g : ℕ → ℕ) → k < n → sum_below n (λ i. cond (k == i) 1 0 * g i) ≡ g k
sum_of_one k zero g lt = absurd (omega arith)
sum_of_one k (suc n) g lt = elim (cases_eq k n) [
  | inl same ↦
      let a = sum_of_none n (λ i. cond (k == i) 1 0 * g i)
      (λ i below. ap (λ (b : Bool). cond {A = ℕ} b 1 0 * g i) (ne_eqb k i (λ e. omega arith)) ∙ none_times (g i)) in
      let b = ap (λ (b : Bool). cond {A = ℕ} b 1 0 * g n) (eq-eqb k n same) in
      let c = ap g same in
      omega arith
  | inr other ↦
      let a = sum_of_one k n g (omega arith) in
      let b = ap (λ (b : Bool). cond {A = ℕ} b 1 0 * g n) (ne_eqb k n other) in
      omega arith
]

module _ {X : Type 0} (d : X) where
  -- the weights of the elements that pass, where a weight goes by the key
  pub weighed_by_key : (t : X → Bool) (key : X → ℕ) (g : ℕ → ℕ) (n : ℕ) (xs : List X)
      → ((i : ℕ) → i < length xs → t (get_or xs i d) ≡ true → key (get_or xs i d) < n)
      → sum_by (λ x. cond (t x) (g (key x)) 0) xs ≡ sum_below n (λ k. count_by (λ x. t x && (key x == k)) xs * g k)
  weighed_by_key t key g n [] within = sym (sum_of_none n (λ k. 0 * g k) (λ i lt. none_times (g i)))
  weighed_by_key t key g n (x ∷ xs) within =
      let one : ℕ → ℕ = λ k. cond (t x && (key x == k)) 1 0 * g k in
      let rest : ℕ → ℕ = λ k. count_by (λ y. t y && (key y == k)) xs * g k in
      let here : sum_below n one ≡ cond (t x) (g (key x)) 0 = by (t x) refl (λ h. within 0 (omega arith) h) in
      let later = weighed_by_key t key g n xs (λ i lt h. within (suc i) (omega arith) h) in
      let both = sum_of_both n one rest in
      let split = sum_same n (λ k. count_by (λ y. t y && (key y == k)) (x ∷ xs) * g k) (λ k. one k + rest k)
      (λ k lt. ap (λ (m : ℕ). m * g k) (sum_by-cons (λ y. cond (t y && (key y == k)) 1 0) x xs)
      ∙ (omega arith)) in
      let first = sum_by-cons (λ y. cond (t y) (g (key y)) 0) x xs in
      omega arith
    where
      by : (b : Bool) → t x ≡ b → (t x ≡ true → key x < n)
          → sum_below n (λ k. cond (t x && (key x == k)) 1 0 * g k) ≡ cond (t x) (g (key x)) 0
      by true is lt =
          sum_same n (λ k. cond (t x && (key x == k)) 1 0 * g k) (λ k. cond (key x == k) 1 0 * g k)
          (λ k below. ap (λ (b : Bool). cond {A = ℕ} (b && (key x == k)) 1 0 * g k) is) ∙ sum_of_one (key x) n g (lt is)
          ∙ sym (ap (λ (b : Bool). cond {A = ℕ} b (g (key x)) 0) is)
      by false is lt = grind (arith, sum_of_none, none_times)

  -- the elements that pass, by a key that is below a bound
  pub counted_by_key : (t : X → Bool) (key : X → ℕ) (n : ℕ) (xs : List X)
      → ((i : ℕ) → i < length xs → t (get_or xs i d) ≡ true → key (get_or xs i d) < n)
      → count_by t xs ≡ sum_below n (λ k. count_by (λ x. t x && (key x == k)) xs)
  counted_by_key t key n [] within = sym (sum_of_none n (λ k. 0) (λ i lt. refl))
  counted_by_key t key n (x ∷ xs) within =
      let one : ℕ → ℕ = λ k. cond (t x && (key x == k)) 1 0 in
      let rest : ℕ → ℕ = λ k. count_by (λ y. t y && (key y == k)) xs in
      let here : sum_below n one ≡ cond (t x) 1 0 = by (t x) refl (λ h. within 0 (omega arith) h) in
      let later = counted_by_key t key n xs (λ i lt h. within (suc i) (omega arith) h) in
      let both = sum_of_both n one rest in
      let split = sum_same n (λ k. count_by (λ y. t y && (key y == k)) (x ∷ xs)) (λ k. one k + rest k)
      (λ k lt. sum_by-cons (λ y. cond (t y && (key y == k)) 1 0) x xs) in
      let first = sum_by-cons (λ y. cond (t y) 1 0) x xs in
      omega arith
    where
      by : (b : Bool) → t x ≡ b → (t x ≡ true → key x < n)
          → sum_below n (λ k. cond (t x && (key x == k)) 1 0) ≡ cond (t x) 1 0
      by true is lt =
          sum_same n (λ k. cond (t x && (key x == k)) 1 0) (λ k. cond (key x == k) 1 0)
          (λ k below. ap (λ (b : Bool). cond {A = ℕ} (b && (key x == k)) 1 0) is) ∙ one_if_same (key x) n (lt is)
          ∙ sym (ap (λ (b : Bool). cond {A = ℕ} b 1 0) is)
      by false is lt = grind (arith, sum_of_none)

  -- where one element passes at most, and one exactly if the flag says so
  pub one_if_any : (u : X → Bool) (b : Bool) (xs : List X) → u d ≡ false
      → (b ≡ true → (i : ℕ) × (u (get_or xs i d) ≡ true)) → ((i : ℕ) → u (get_or xs i d) ≡ true → b ≡ true)
      → ((i j : ℕ) → u (get_or xs i d) ≡ true → u (get_or xs j d) ≡ true → i ≡ j) → count_by u xs ≡ cond b 1 0
  one_if_any u true [] none there only alone = let at = there refl in absurd (true≢false (sym at.1 ∙ none))
  one_if_any u false [] none there only alone = refl
  one_if_any u b (x ∷ xs) none there only alone = sum_by-cons (λ y. cond (u y) 1 0) x xs
      ∙ by (u x) refl (λ flag exists holds. one_if_any u flag xs none exists holds
      (λ i j h k. let e : suc i ≡ suc j = alone (suc i) (suc j) h k in omega arith))
    where
      by : (h : Bool) → u x ≡ h → ((flag : Bool) → (flag ≡ true → (i : ℕ) × (u (get_or xs i d) ≡ true))
          → ((i : ℕ) → u (get_or xs i d) ≡ true → flag ≡ true) → count_by u xs ≡ cond flag 1 0)
          → cond (u x) 1 0 + count_by u xs ≡ cond b 1 0
      by true is next =
          let rest = next false (λ e. cc) (λ i h. let e : zero ≡ suc i = alone zero (suc i) is h in cc) in
          let flag = ap (λ (v : Bool). cond {A = ℕ} v 1 0) (only zero is) in
          let one = ap (λ (v : Bool). cond {A = ℕ} v 1 0) is in
          omega arith
      by false is next =
          let rest = next b (λ e. later (there e)) (λ i h. only (suc i) h) in
          let zero_here = ap (λ (v : Bool). cond {A = ℕ} v 1 0) is in
          omega arith
        where
          later : (i : ℕ) × (u (get_or (x ∷ xs) i d) ≡ true) → (i : ℕ) × (u (get_or xs i d) ≡ true)
          later x0 = grind arith

  -- a list's count, place by place
  pub counted_by_place : (u : X → Bool) (xs : List X)
      → count_by u xs ≡ sum_below (length xs) (λ i. cond (u (get_or xs i d)) 1 0)
  counted_by_place u [] = refl
  counted_by_place u (x ∷ xs) =
      sum_by-cons (λ y. cond (u y) 1 0) x xs ∙ ap (λ (n : ℕ). cond (u x) 1 0 + n) (counted_by_place u xs) ∙ sym
      (sum_from_first _ (λ i. cond (u (get_or (x ∷ xs) i d)) 1 0))
