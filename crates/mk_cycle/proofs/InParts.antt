-- Where an event of a list in two parts stands.
use Rattle.std.proofs.Common.{⊎_elim}
use Rattle.mk_words.proofs.Below.Laws.Vocabulary.{Event, List, ap, inl, inr, refl, sym, [], ◌++◌, ◌∙◌, ◌∷◌, ◌≡◌, ◌⊎◌}

-- It stands in the first, or in the second.

pub record InFirst (xs ys before : List Event) (e : Event) (behind : List Event) : Type 0 where
  pub rest : List Event
  pub is : xs ≡ before ++ e ∷ rest
  pub then : behind ≡ rest ++ ys

pub record InSecond (xs ys before : List Event) (e : Event) (behind : List Event) : Type 0 where
  pub rest : List Event
  pub first : before ≡ xs ++ rest
  pub is : ys ≡ rest ++ e ∷ behind

pub in_parts : (xs ys before : List Event) (e : Event) (behind : List Event) → xs ++ ys ≡ before ++ e ∷ behind
    → InFirst xs ys before e behind ⊎ InSecond xs ys before e behind
in_parts [] ys before e behind h = inr (record { rest = before; first = refl; is = h })
in_parts (x ∷ xs) ys [] e behind h =
    let head : x ≡ e = cc in
    let tail : xs ++ ys ≡ behind = cc in
    inl (record { rest = xs; is = ap (λ (y : Event). y ∷ xs) head; then = sym tail })
in_parts (x ∷ xs) ys (b ∷ bs) e behind h =
    let head : x ≡ b = cc in
    let tail : xs ++ ys ≡ bs ++ e ∷ behind = cc in
    ⊎_elim (λ (t : InFirst xs ys bs e behind). inl (record {
      rest = t.rest;
      is = ap (λ (y : Event). y ∷ xs) head ∙ ap (λ (l : List Event). b ∷ l) t.is;
      then = t.then;
    })) (λ (t : InSecond xs ys bs e behind). inr (record {
      rest = t.rest;
      first = ap (λ (y : Event). y ∷ bs) (sym head) ∙ ap (λ (l : List Event). x ∷ l) t.first;
      is = t.is;
    })) (in_parts xs ys bs e behind tail)
