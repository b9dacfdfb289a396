-- A function with another value in one place; and a caller's own operations and decisions, and those of others.
use Rattle.mk_jobs.proofs.Vocabulary.{Bool, Call, List, NeverState, Op, Option, Ordered, Replied, [], after_op, ap}
use Rattle.mk_jobs.proofs.Vocabulary.{arith, cases_eq, cond, eq-eqb, eqb-false, eqb-true, if◌then◌else◌, inl, inr}
use Rattle.mk_jobs.proofs.Vocabulary.{ne_eqb, own_decisions, own_replied, refl, reply_of, subst, sym, there, ℕ, ◌++◌}
use Rattle.mk_jobs.proofs.Vocabulary.{◌==◌, ◌∷◌, ◌≡◌, ◌≢◌}

-- a function with another value in one place
abbrev pub put : {A : Type 0} → (ℕ → A) → ℕ → A → ℕ → A
put f a x b = if b == a then x else f b

pub put_same : {A : Type 0} (f : ℕ → A) (a : ℕ) (x : A) → put f a x a ≡ x
put_same f a x = ap (λ (b : Bool). cond b x (f a)) (eq-eqb a a refl)

pub put_other : {A : Type 0} (f : ℕ → A) (a : ℕ) (x : A) (b : ℕ) → b ≢ a → put f a x b ≡ f b
put_other f a x b other = ap (λ (t : Bool). cond t x (f b)) (ne_eqb b a other)

-- what holds of the new value there and of the old ones elsewhere
pub put_by : {A : Type 0} (P : ℕ → A → Type 0) (f : ℕ → A) (a : ℕ) (x : A) → P a x → ((b : ℕ) → b ≢ a → P b (f b))
    → (b : ℕ) → P b (put f a x b)
put_by x0 f a x here there b = grind (arith, eqb-true, eqb-false)

-- What holds of the old value if it holds of the new one holds of all.
pub put_back : {A : Type 0} (P Q : ℕ → A → Type 0) (f : ℕ → A) (a : ℕ) (x : A) → (P a x → Q a (f a))
    → ((b : ℕ) → b ≢ a → P b (f b) → Q b (f b)) → ((b : ℕ) → P b (put f a x b)) → (b : ℕ) → Q b (f b)
put_back P Q f a x here there all b = elim (cases_eq b a) [
  | inl e ↦ subst (λ (c : ℕ). Q c (f c)) (sym e) (here (subst (P a) (put_same f a x) (all a)))
  | inr ne ↦ there b ne (subst (P b) (put_other f a x b ne) (all b))
]

pub mine : (c : ℕ) (o : Op) (n : NeverState) (xs : List Call) → own_replied c n (record { caller = c; op = o } ∷ xs)
    ≡ record { op = o; reply = reply_of n c o } ∷ own_replied c (after_op n c o) xs
mine c o n xs = rw (eq-eqb c c refl) refl

pub of_other : (k c : ℕ) (o : Op) (n : NeverState) (xs : List Call) → k ≢ c
    → own_replied k n (record { caller = c; op = o } ∷ xs) ≡ own_replied k (after_op n c o) xs
of_other k c o n xs other = rw (ne_eqb c k (λ e. other (sym e))) refl

module _ {Job Done : Type 0} where
  pub my_decision : (c : ℕ) (o : Op) (xs : List Call) (d : Option (Ordered Job Done))
      (ds : List (Option (Ordered Job Done)))
      → own_decisions c (record { caller = c; op = o } ∷ xs) (d ∷ ds) ≡ d ∷ own_decisions c xs ds
  my_decision c o xs d ds = rw (eq-eqb c c refl) refl

  pub decision_of_other : (k c : ℕ) (o : Op) (xs : List Call) (d : Option (Ordered Job Done))
      (ds : List (Option (Ordered Job Done))) → k ≢ c
      → own_decisions k (record { caller = c; op = o } ∷ xs) (d ∷ ds) ≡ own_decisions k xs ds
  decision_of_other k c o xs d ds other = rw (ne_eqb c k (λ e. other (sym e))) refl

pub nothing_left : (xs ys : List Replied) → [] ≡ xs ++ ys → (xs ≡ []) × (ys ≡ [])
nothing_left [] [] e = (refl, refl)
nothing_left [] (y ∷ ys) e = absurd (cc)
nothing_left (x ∷ xs) ys e = let same : [] ≡ x ∷ (xs ++ ys) = e in absurd (cc)

pub cons_tail : (a b : Replied) (xs ys : List Replied) → a ∷ xs ≡ b ∷ ys → xs ≡ ys
cons_tail a b xs ys e = cc

pub cons_head : (a b : Replied) (xs ys : List Replied) → a ∷ xs ≡ b ∷ ys → a ≡ b
cons_head a b xs ys e = cc
