-- The place of the first that passes, by places.
use Rattle.std.proofs.Common.{Bool, List, None, Some, ℕ, add-one, ap, arith, false, get_or, length, suc, true, zero, []}
use Rattle.std.proofs.Common.{◌<◌, ◌∷◌, ◌≡◌}
use Rattle.mk_geom.specs.PageUses.{first_where}

pub first_where_at : {A : Type 0} (p : A → Bool) (xs : List A) (n : ℕ) (d : A) → n < length xs
    → ((k : ℕ) → k < n → p (get_or xs k d) ≡ false) → p (get_or xs n d) ≡ true → first_where p xs ≡ Some n
first_where_at p [] n d within fails passes = absurd (omega arith)
first_where_at p (x ∷ xs) zero d within fails passes = rw passes
first_where_at p (x ∷ xs) (suc n) d within fails passes =
    let here : p x ≡ false = fails 0 (omega arith) in
    let later : first_where p xs ≡ Some n =
    first_where_at p xs n d (omega arith) (λ k below. fails (suc k) (omega arith)) passes in
    rw (here, later) (ap Some (add-one n))

pub first_where_nowhere : {A : Type 0} (p : A → Bool) (xs : List A) (d : A)
    → ((k : ℕ) → k < length xs → p (get_or xs k d) ≡ false) → first_where p xs ≡ None
first_where_nowhere p [] d fails = λ i. None
first_where_nowhere p (x ∷ xs) d fails =
    let here : p x ≡ false = fails 0 (omega arith) in
    let later : first_where p xs ≡ None = first_where_nowhere p xs d (λ k below. fails (suc k) (omega arith)) in
    rw (here, later)
