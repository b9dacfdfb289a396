-- How many entries of a table there are, and how large tables are.
use Rattle.std.proofs.{lemmas.List.Sums.{count_by-le-length, sum_by-cons, sum_by-set}, Common.count_by}
use Rattle.mk_sweep.proofs.Below.Laws.Vocabulary.{List, None, Option, Some, ℕ, ap, arith, cond, eqb-true, false}
use Rattle.mk_sweep.proofs.Below.Laws.Vocabulary.{is_some, length, length-set, refl, slice_index_or, slice_set, suc}
use Rattle.mk_sweep.proofs.Below.Laws.Vocabulary.{[], ◌*◌, ◌+◌, ◌<◌, ◌∷◌, ◌≡◌, ◌≤◌}
use Rattle.mk_why.specs.{Stops.pages_for, Searching.WhyState}

-- How many entries of a table there are, with one more, and with none.

pub more_counted : {A : Type 0} → (xs : List (Option A)) (i : ℕ) (x : A) → i < length xs
    → is_some (slice_index_or xs i None) ≡ false → count_by is_some (slice_set xs i (Some x)) ≡ count_by is_some xs + 1
more_counted {A} xs i x lt none = grind (arith, sum_by-set)

pub room_left : {A : Type 0} → (xs : List (Option A)) (i : ℕ) (x : A) → i < length xs
    → is_some (slice_index_or xs i None) ≡ false → count_by is_some xs < length xs
room_left {A} xs i x lt none =
    let more : count_by is_some (slice_set xs i (Some x)) ≡ count_by is_some xs + 1 = more_counted xs i x lt none in
    let few : count_by is_some (slice_set xs i (Some x)) ≤ length (slice_set xs i (Some x)) =
    count_by-le-length is_some (slice_set xs i (Some x)) in
    let size : length (slice_set xs i (Some x)) ≡ length xs = length-set xs i (Some x) in
    omega arith

pub none_counted : {A : Type 0} → (xs : List (Option A)) → ((i : ℕ) → slice_index_or xs i None ≡ None)
    → count_by is_some xs ≡ 0
none_counted {A} [] none = refl
none_counted {A} (y ∷ ys) none =
    let all : count_by is_some (y ∷ ys) ≡ cond {A = ℕ} (is_some y) 1 0 + count_by is_some ys =
    sum_by-cons (λ (z : Option A). cond (is_some z) 1 0) y ys in
    let first : cond {A = ℕ} (is_some y) 1 0 ≡ 0 = ap (λ (z : Option A). cond {A = ℕ} (is_some z) 1 0) (none 0) in
    let rest : count_by is_some ys ≡ 0 = none_counted ys (λ i. none (suc i)) in
    omega arith

-- Tables that fit the inner engine.

-- the inner engine and the table of the fields, where what contracts see of them is made for this many pages
pub of_state : {E : Type 0} (made_for : E → ℕ) (fields state : WhyState E) (n : ℕ) → fields ≡ state
    → pages_for (made_for state.inner) (length state.found) ≡ n → 1 ≤ n → n ≤ 4096
    → (made_for fields.inner ≡ n) × (length fields.found ≡ 64 * n)
of_state {E} made_for fields state n same is = grind (arith, eqb-true)
