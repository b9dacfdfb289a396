-- What is read of a completed table, and what it is after an entry is set.
use Rattle.std.proofs.{Common.{replicate, refl, take}, lemmas.List.{append_assoc, get_or-append_right}}
use Rattle.std.proofs.lemmas.List.{get_or-replicate, get_or_append_left, length-append, length-replicate, length-set}
use Rattle.std.proofs.lemmas.List.{replicate-append-replicate, set-append_left, set_at, take_all}
use Rattle.mk_sweep.proofs.Below.Laws.Vocabulary.{List, ℕ, ap, arith, cases_lt, get_or_past, inl, inr, length}
use Rattle.mk_sweep.proofs.Below.Laws.Vocabulary.{slice_index_or, slice_set, suc, sym, zero, [], ◌++◌, ◌+◌, ◌-◌, ◌<◌}
use Rattle.mk_sweep.proofs.Below.Laws.Vocabulary.{◌∙◌, ◌∷◌, ◌≡◌, ◌≤◌}
use Rattle.mk_why.specs.LazyTables.{completed}

-- what is read with another word for the rest
pub read_with : {A : Type 0} → (xs : List A) (i : ℕ) {rest other x : A} → rest ≡ other → x ≡ slice_index_or xs i rest
    → slice_index_or xs i other ≡ x
read_with {A} xs i same is = ap (λ d. slice_index_or xs i d) (sym same) ∙ sym is

pub read_copies : {A : Type 0} → (count i : ℕ) (x : A) → slice_index_or (replicate count x) i x ≡ x
read_copies {A} zero i x = refl
read_copies {A} (suc n) zero x = refl
read_copies {A} (suc n) (suc i) x = read_copies n i x

module _ {A : Type 0} (xs : List A) (rest : A) (size : ℕ) where
  pub completed_length : length xs ≤ size → length (completed xs rest size) ≡ size
  completed_length few =
      let both = length-append xs (replicate (size - length xs) rest) in
      let more = length-replicate (size - length xs) rest in
      omega arith

  pub read_set : (i : ℕ) (other : A) → i < length xs
      → slice_index_or (completed xs rest size) i other ≡ slice_index_or xs i other
  read_set i other lt = get_or_append_left xs (replicate (size - length xs) rest) other i lt

  pub read_rest : (i : ℕ) (other : A) → length xs ≤ i → i < size
      → slice_index_or (completed xs rest size) i other ≡ rest
  read_rest i other past lt =
      get_or-append_right xs (replicate (size - length xs) rest) (length xs) i other refl past
      ∙ get_or-replicate (size - length xs) (i - length xs) rest other (omega arith)

  pub read_past : (i : ℕ) → length xs ≤ size → length xs ≤ i
      → slice_index_or (completed xs rest size) i rest ≡ rest
  read_past i few past = elim (cases_lt i size) [
    | inl lt ↦ read_rest i rest past lt
    | inr high ↦
        let long = completed_length few in get_or_past (completed xs rest size) i rest (omega arith)
  ]

  -- An entry is set that was set before.
  pub set_within : (i : ℕ) (x : A) {ys : List A} → i < length xs → completed xs rest size ≡ ys
      → completed (slice_set xs i x) rest size ≡ slice_set ys i x
  set_within i x lt same =
      ap (λ n. slice_set xs i x ++ replicate (size - n) rest) (length-set xs i x)
      ∙ sym (set-append_left xs (replicate (size - length xs) rest) i x lt) ∙ ap (λ zs. slice_set zs i x) same

  -- An entry is set where none was: those before it are filled up with the rest.
  module _ (place : ℕ) (past : length xs ≤ place) (low : place < size) where
    filled_length : length (xs ++ replicate (place - length xs) rest) ≡ place
    filled_length =
        let both = length-append xs (replicate (place - length xs) rest) in
        let more = length-replicate (place - length xs) rest in
        omega arith

    split : completed xs rest size
        ≡ (xs ++ replicate (place - length xs) rest) ++ rest ∷ replicate (size - suc place) rest
    split =
        let parts : size - length xs ≡ (place - length xs) + suc (size - suc place) = omega arith in
        ap (λ n. xs ++ replicate n rest) parts
        ∙ ap (λ ys. xs ++ ys) (sym (replicate-append-replicate (place - length xs) (suc (size - suc place)) rest))
        ∙ sym (append_assoc xs (replicate (place - length xs) rest) (rest ∷ replicate (size - suc place) rest))

    filled_then : (x : A) → completed ((xs ++ replicate (place - length xs) rest) ++ x ∷ []) rest size
        ≡ slice_set (completed xs rest size) place x
    filled_then x =
        let filled : List A = xs ++ replicate (place - length xs) rest in
        let long = filled_length in
        let longer = length-append filled (x ∷ []) in
        let after : size - length (filled ++ x ∷ []) ≡ size - suc place = omega arith in
        ap (λ n. (filled ++ x ∷ []) ++ replicate n rest) after
        ∙ append_assoc filled (x ∷ []) (replicate (size - suc place) rest)
        ∙ sym (set_at filled rest (replicate (size - suc place) rest) x place long)
        ∙ ap (λ ys. slice_set ys place x) (sym split)

    pub set_past : (x : A) {filled pushed ys : List A} → filled ≡ take place xs ++ replicate (place - length xs) rest
        → pushed ≡ filled ++ x ∷ [] → completed xs rest size ≡ ys → completed pushed rest size ≡ slice_set ys place x
    set_past x fills pushes same =
        let whole = take_all place xs past in
        ap (λ zs. completed zs rest size) (pushes ∙ ap (λ zs. zs ++ x ∷ []) (fills
        ∙ ap (λ zs. zs ++ replicate (place - length xs) rest) whole)) ∙ filled_then x
        ∙ ap (λ zs. slice_set zs place x) same
