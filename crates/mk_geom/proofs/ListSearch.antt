-- What `find` and `list_any` say of the elements of a list.
use Rattle.std.proofs.Common.{Bool, Contains, List, None, Some, arith, false, find, inl, inr, refl, subst, suc, sym}
use Rattle.std.proofs.{Common.{true, [], ◌∙◌, ◌∷◌, ◌≡◌, ◌⊎◌}, lemmas.Bool.{cases_Bool, false≢true, or_cases}}
use Rattle.std.specs.List.{list_any}

pub Contains-head : {X : Type 0} (x : X) (xs : List X) → Contains (x ∷ xs) x
Contains-head x xs = (0, omega arith, refl)

pub Contains-tail : {X : Type 0} (x : X) (xs : List X) (y : X) → Contains xs y → Contains (x ∷ xs) y
Contains-tail x xs y (k, within, is) = (suc k, omega arith, is)

pub Contains-cons_cases : {X : Type 0} (x : X) (xs : List X) (y : X) → Contains (x ∷ xs) y → (x ≡ y) ⊎ Contains xs y
Contains-cons_cases x xs y x3 = grind arith

pub Contains-nil : {X : Type 0} (y : X) → Contains [] y → ⊥
Contains-nil y (k, within, is) = omega arith

-- the first element that passes, or none does
pub find_cases : {X : Type 0} (p : X → Bool) (xs : List X) → ((x : X) × (find p xs ≡ Some x) × Contains xs x ×
    (p x ≡ true)) ⊎ ((find p xs ≡ None) × ((x : X) → Contains xs x → p x ≡ false))
find_cases p [] = inr (refl, λ x in_nil. absurd (Contains-nil x in_nil))
find_cases {X} p (x ∷ xs) = elim (cases_Bool (p x)) [
  | inl passes ↦ inl (x, rw passes refl, Contains-head x xs, passes)
  | inr fails ↦ elim (find_cases p xs) [
    | inl (y, found, inside, passes) ↦ inl (y, rw fails found, Contains-tail x xs y inside, passes)
    | inr (none, others) ↦ inr (
      rw fails none,
      λ y inside. elim (Contains-cons_cases x xs y inside)
          [ inl same ↦ subst (λ (z : X). p z ≡ false) same fails | inr inside' ↦ others y inside' ],
    )
  ]
]

pub list_any_from : {X : Type 0} (p : X → Bool) (xs : List X) (x : X) → Contains xs x → p x ≡ true
    → list_any p xs ≡ true
list_any_from p [] x inside passes = absurd (Contains-nil x inside)
list_any_from {X} p (y ∷ xs) x inside passes = elim (cases_Bool (p y)) [
  | inl passes' ↦ rw passes' refl
  | inr fails ↦ rw fails (elim (Contains-cons_cases y xs x inside) [
    | inl same ↦ absurd (false≢true (sym fails ∙ subst (λ (z : X). p z ≡ true) (sym same) passes))
    | inr inside' ↦ list_any_from p xs x inside' passes
  ])
]

pub list_any_found : {X : Type 0} (p : X → Bool) (xs : List X) → list_any p xs ≡ true
    → (x : X) × Contains xs x × (p x ≡ true)
list_any_found p [] is = absurd (false≢true is)
list_any_found p (x ∷ xs) is = elim (or_cases (p x) (list_any p xs) is) [
  | inl passes ↦ (x, Contains-head x xs, passes)
  | inr later ↦ let (y, inside, passes) = list_any_found p xs later in (y, Contains-tail x xs y inside, passes)
]
