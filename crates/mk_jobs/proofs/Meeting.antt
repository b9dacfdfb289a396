-- An access through a register that holds a pointer meets a word of its kind.
use Rattle.mk_jobs.proofs.Vocabulary.{Anything, Bool, Has, HasTypes, Hold, IsCaller, IsOfKind, IsSound, Kind, List}
use Rattle.mk_jobs.proofs.Vocabulary.{MayPoint, Meets, NeverState, None, Null, Num, Number, Option, Owes, Owns, Points}
use Rattle.mk_jobs.proofs.Vocabulary.{Ptr, Some, Suits, To, Unmapped, Value, WordOf, allocation_at, ap, arith}
use Rattle.mk_jobs.proofs.Vocabulary.{eqb-true, false, false≢true, if◌then◌else◌, is_number_there}
use Rattle.mk_jobs.proofs.Vocabulary.{is_some, is_unmapped, kind_of, kind_there, kinds_of, left_at, length, ltb-true}
use Rattle.mk_jobs.proofs.Vocabulary.{may_go, nat_lt, refl, register_at, slice_index_or, subst, suc, sym}
use Rattle.mk_jobs.proofs.Vocabulary.{target_of, true, type_there, word_at, words_of, zero, ℕ, ◌*◌, ◌+◌, ◌<◌, ◌∙◌}
use Rattle.mk_jobs.proofs.{Vocabulary.◌≡◌, Holds.pointer_may}

-- a state of a heap for these jobs, and one of its callers
pub record IsStateOf (types : List (List Kind)) (globals : List ℕ) (n : NeverState) (k : ℕ) : Type 0 where
  pub typed : HasTypes globals n
  pub types_are : n.types ≡ types
  pub count : length n.globals ≡ 64
  pub caller : IsCaller n k

-- what the register points to, where it points to anything
pub record IsWord (types : List (List Kind)) (h : Hold) (i : ℕ) (kind : Kind) : Type 0 where
  pub ty : ℕ
  pub may : (v : Value) → Has v h → IsOfKind v (To ty 0)
  pub there : kind_of (kinds_of types ty) i ≡ Some kind

none_some : (kind : Kind) → None ≡ Some kind → ⊥
none_some kind e = cc

none_is : (t : ℕ) → None ≡ Some t → ⊥
none_is t e = cc

pub word_met : (types : List (List Kind)) (h : Hold) (i : ℕ) (kind : Kind) → kind_there types h i ≡ Some kind
    → IsWord types h i kind
word_met types Anything i kind e = absurd (none_some kind e)
word_met types (MayPoint t) i kind e = record { ty = t; may = λ v has. has; there = e }
word_met types (Points t) i kind e = record { ty = t; may = pointer_may t; there = e }
word_met types (Owns t) i kind e = record { ty = t; may = pointer_may t; there = e }
word_met types (Owes t) i kind e = record { ty = t; may = λ v has. has; there = e }

pub is_number_so : (x : Option Kind) → is_number_there x ≡ true → x ≡ Some Number
is_number_so (Some Number) e = refl
is_number_so (Some (To t o)) e = absurd (false≢true e)
is_number_so None e = absurd (false≢true e)

pub type_so : (x : Option Kind) (t : ℕ) → type_there x ≡ Some t → x ≡ Some (To t 0)
type_so (Some (To u zero)) t e = cc e
type_so (Some (To u (suc o))) t e = absurd (none_is t e)
type_so (Some Number) t e = absurd (none_is t e)
type_so None t e = absurd (none_is t e)

-- a type that is there
pub record IsType (x : Option ℕ) : Type 0 where
  pub t : ℕ
  pub is : x ≡ Some t

pub there_so : (x : Option ℕ) → is_some x ≡ true → IsType x
there_so (Some t) e = record { t = t; is = refl }
there_so None e = absurd (false≢true e)

-- what may be stored there
pub record MayStore (x : Option ℕ) (h : Hold) : Type 0 where
  pub t : ℕ
  pub is : x ≡ Some t
  pub may : (v : Value) → Has v h → IsOfKind v (To t 0)

pub go_so : (x : Option ℕ) (h : Hold) → may_go x h ≡ true → MayStore x h
go_so (Some t) (MayPoint u) e = record {
  t = t;
  is = refl;
  may = λ v has. subst (λ (y : ℕ). IsOfKind v (To y 0)) (sym (eqb-true t u e)) has;
}
go_so (Some t) (Points u) e = record {
  t = t;
  is = refl;
  may = λ v has. subst (λ (y : ℕ). IsOfKind v (To y 0)) (sym (eqb-true t u e)) (pointer_may u v has);
}
go_so (Some t) (Owns u) e = record {
  t = t;
  is = refl;
  may = λ v has. subst (λ (y : ℕ). IsOfKind v (To y 0)) (sym (eqb-true t u e)) (pointer_may u v has);
}
go_so _ _ e = absurd (false≢true e)

-- a word of this kind is inside
kind_at : (ks : List Kind) (i : ℕ) (kind : Kind) → kind_of ks i ≡ Some kind
    → (i < length ks) × (slice_index_or ks i Number ≡ kind)
kind_at ks i kind e = by (nat_lt i (length ks)) refl e
  where
    by : (b : Bool) → nat_lt i (length ks) ≡ b → (if b then Some (slice_index_or ks i Number) else None) ≡ Some kind
        → (i < length ks) × (slice_index_or ks i Number ≡ kind)
    by true is same = (ltb-true i (length ks) is, cc same)
    by false is same = absurd (none_some kind same)

module _ {types : List (List Kind)} {globals : List ℕ} {n : NeverState} {k : ℕ}
    (state : IsStateOf types globals n k) where
  pub sound : (r : ℕ) → IsSound n (register_at n k r)
  sound r = state.typed.registers (8 * k + r)

  pub meets : (t i : ℕ) (kind : Kind) (v : Value) → IsOfKind v (To t 0) → IsSound n v
      → kind_of (kinds_of types t) i ≡ Some kind → (P : Kind → Type 0) → P kind → Meets n v i P
  meets t i kind Null may s e P h = tt
  meets t i kind (Num m) may s e P h = absurd may
  meets t i kind (Ptr a ty offset) may s e P h =
      let here = kind_at (kinds_of types t) i kind e in
      let same : kinds_of n.types (allocation_at n a).ty ≡ kinds_of types t =
      ap (λ (ts : List (List Kind)). kinds_of ts (allocation_at n a).ty) state.types_are
      ∙ ap (kinds_of types) (sym s.1 ∙ may.0) in
      let size : length (words_of n a) ≡ length (kinds_of n.types (allocation_at n a).ty) =
      (state.typed.allocations a s.0).size in
      let there : offset + i ≡ i = omega (arith, may.1) in
      subst (λ (o : ℕ). (o < length (words_of n a)) × P (slice_index_or (kinds_of n.types (allocation_at n a).ty) o
      Number)) (sym there) (
        omega (arith, here.0, size, ap (λ (ks : List Kind). length ks) same),
        subst (λ (ks : List Kind). P (slice_index_or ks i Number)) (sym same) (subst P (sym here.1) h),
      )

  -- a load gets null, where it is refused, or a pointer of the word's type
  pub loads : (t u i : ℕ) (v : Value) → IsOfKind v (To t 0) → IsSound n v
      → kind_of (kinds_of types t) i ≡ Some (To u 0) → (A : NeverState → Type 0) (refused : NeverState)
      (at : ℕ → ℕ → NeverState) → A refused → ((a w : ℕ) → IsOfKind (word_at n a w) (To u 0) → A (at a w))
      → A (left_at (target_of n v i) refused at)
  loads t u i Null may s e A refused at none some = none
  loads t u i (Num m) may s e A refused at none some = absurd may
  loads t u i (Ptr a ty offset) may s e A refused at none some = by (is_unmapped (allocation_at n a))
    where
      met : Meets n (Ptr a ty offset) i (λ (kind : Kind). kind ≡ To u 0)
      met = meets t i (To u 0) (Ptr a ty offset) may s e (λ (kind : Kind). kind ≡ To u 0) refl

      there : IsOfKind (word_at n a (offset + i)) (To u 0)
      there = (subst (Suits n (word_at n a (offset + i))) met.1
          ((state.typed.allocations a s.0).words (offset + i) met.0)).1

      by : (b : Bool) → A (left_at (if b then Unmapped else WordOf a (offset + i)) refused at)
      by true = none
      by false = some a (offset + i) there
