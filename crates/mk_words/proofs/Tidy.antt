-- Tidy lists: a list's beginning, and a list with one event more.
use Rattle.std.proofs.Common.{⊎_elim}
use Rattle.mk_laws.proofs.Vocabulary.{Config, Event, IsTidy, List, Step, TalliesAreTidy, ap, append_assoc, inl, inr}
use Rattle.mk_laws.proofs.Vocabulary.{refl, subst, sym, true, [], ◌++◌, ◌∙◌, ◌∷◌, ◌≡◌, ◌⊎◌}
use Rattle.mk_core.specs.Cycles.{is_give}

-- An event of a longer list is the last, or one of the list.
record Last (xs : List Event) (e : Event) (before : List Event) (f : Event) : Type 0 where
  list : before ≡ xs
  event : f ≡ e

none_before : (x : Event) (xs : List Event) (f : Event) (behind : List Event) → x ∷ [] ≡ x ∷ (xs ++ f ∷ behind) → ⊥
none_before x [] f behind h = cc
none_before x (y ∷ ys) f behind h = cc

find_in : (xs : List Event) (e : Event) (before : List Event) (f : Event) (behind : List Event)
    → xs ++ e ∷ [] ≡ before ++ f ∷ behind → Last xs e before f ⊎ ((rest : List Event) × (xs ≡ before ++ f ∷ rest))
find_in [] e [] f behind h = inl (record { list = refl; event = cc })
find_in [] e (b ∷ []) f behind h = cc
find_in [] e (b ∷ (d ∷ bs)) f behind h = cc
find_in (x ∷ xs) e [] f behind h = inr (xs, cc)
find_in (x ∷ xs) e (b ∷ bs) f behind h =
    let head : x ≡ b = cc in
    let tail : xs ++ e ∷ [] ≡ bs ++ f ∷ behind = cc in
    ⊎_elim (λ (t : Last xs e bs f). inl (record {
      list = subst (λ (y : Event). b ∷ bs ≡ y ∷ xs) (sym head) (ap (λ (l : List Event). b ∷ l) t.list);
      event = t.event;
    })) (λ (t : (rest : List Event) × (xs ≡ bs ++ f ∷ rest)). inr
    (t.0, subst (λ (y : Event). x ∷ xs ≡ y ∷ (bs ++ f ∷ t.0)) head (ap (λ (l : List Event). x ∷ l) t.1)))
    (find_in xs e bs f behind tail)

pub tidy_part : (c : Config) (xs ys : List Event) → IsTidy c (xs ++ ys) → IsTidy c xs
tidy_part c xs ys h before e behind is give = h before e (behind ++ ys) (ap (λ (l : List Event). l ++ ys) is
    ∙ append_assoc before (e ∷ behind) ys) give

pub tidy_more : (c : Config) (xs : List Event) (e : Event) → IsTidy c xs → (is_give e.step ≡ true → TalliesAreTidy c xs)
    → IsTidy c (xs ++ e ∷ [])
tidy_more c xs e h last before f behind is give =
    ⊎_elim (λ (t : Last xs e before f). subst (λ (l : List Event). TalliesAreTidy c l) (sym t.list)
    (last (ap (λ (g : Event). is_give g.step) (sym t.event) ∙ ap (λ (s : Step). is_give s) give)))
    (λ (t : (rest : List Event) × (xs ≡ before ++ f ∷ rest)). h before f t.0 t.1 give) (find_in xs e before f behind is)

pub none_tidy : (c : Config) → IsTidy c []
none_tidy c [] f behind is give = cc
none_tidy c (b ∷ bs) f behind is give = cc
