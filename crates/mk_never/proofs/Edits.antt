-- A fact about what is chosen, edited or reached, from the cases; and which allocations there are.
use Rattle.std.proofs.Common.{Bool, List, ℕ, ap, arith, false, get_or, if◌then◌else◌, length, refl, set, suc, true}
use Rattle.std.proofs.{Common.{zero, [], ◌++◌, ◌<◌, ◌∷◌, ◌≡◌}, lemmas.Bool.false≢true}
use Rattle.mk_never.specs.NeverHeap.{Allocation, NeverState, allocation_at, left_at, no_allocation, words_of}
use Rattle.mk_never.specs.{declared.values.Target.Target, declared.values.Target.TheVariants.WordOf}

-- what holds if the access is refused, and at each word that it reaches, holds of what is left
pub left_at_by : (P : NeverState → Type 0) (t : Target) (refused : NeverState) (at : ℕ → ℕ → NeverState)
    → P refused → ((number place : ℕ) → t ≡ WordOf number place → P (at number place)) → P (left_at t refused at)
left_at_by x0 x1 refused at kept reached = grind arith

-- what holds of both holds of the one that is chosen
pub if_by : {A : Type 0} (P : A → Type 0) (b : Bool) (x y : A) → (b ≡ true → P x) → (b ≡ false → P y)
    → P (if b then x else y)
if_by x0 x1 x y at_true at_false = grind arith

-- what holds of the new element at its place and of the old one holds of the element there
pub set_by : {A : Type 0} (P : A → Type 0) (xs : List A) (i k : ℕ) (v d : A) → (k ≡ i → P v) → P (get_or xs k d)
    → P (get_or (set xs i v) k d)
set_by P [] i k v d new old = old
set_by P (x ∷ xs) zero zero v d new old = new refl
set_by P (x ∷ xs) zero (suc k) v d new old = old
set_by P (x ∷ xs) (suc i) zero v d new old = old
set_by P (x ∷ xs) (suc i) (suc k) v d new old = set_by P xs i k v d (λ e. new (ap suc e)) old

-- what holds of the appended element at the end and of the old one before it holds of the element there
pub push_by : {A : Type 0} (P : A → Type 0) (xs : List A) (x d : A) (k : ℕ) → k < length (xs ++ x ∷ []) → P x
    → (k < length xs → P (get_or xs k d)) → P (get_or (xs ++ x ∷ []) k d)
push_by P [] x d zero inside new old = new
push_by P [] x d (suc k) inside new old = absurd (omega arith)
push_by P (y ∷ xs) x d zero inside new old = old (omega arith)
push_by P (y ∷ xs) x d (suc k) inside new old =
    let inside' : k < length (xs ++ x ∷ []) = omega arith in push_by P xs x d k inside' new (λ h. old (omega arith))

-- a place among an allocation's words is in an allocation that exists
exists_in : (xs : List Allocation) (number place : ℕ) → place < length (get_or xs number no_allocation).words
    → number < length xs
exists_in [] number place h = absurd (omega arith)
exists_in (x ∷ xs) zero place h = omega arith
exists_in (x ∷ xs) (suc number) place h = let below : number < length xs = exists_in xs number place h in omega arith

pub exists : (n : NeverState) (number place : ℕ) → place < length (words_of n number) → number < length n.allocations
exists n number place h = exists_in n.allocations number place h

-- an allocation that is freed exists
freed_in : (xs : List Allocation) (number : ℕ) → (get_or xs number no_allocation).freed ≡ true → number < length xs
freed_in [] number h = absurd (false≢true h)
freed_in (x ∷ xs) zero h = omega arith
freed_in (x ∷ xs) (suc number) h = let below : number < length xs = freed_in xs number h in omega arith

pub freed_exists : (n : NeverState) (number : ℕ) → (allocation_at n number).freed ≡ true → number < length n.allocations
freed_exists n number h = freed_in n.allocations number h
