-- Admitted calls leave a typed state.
use Rattle.std.proofs.Common.{Bool, IfSome, List, Option, ℕ, arith, get_or, refl, replicate, slice_get, subst, suc, sym}
use Rattle.std.proofs.Common.{zero, [], ◌*◌, ◌+◌, ◌∷◌, ◌≡◌}
use Rattle.mk_never.proofs.{Soundness.{moved_is_sound, number_suits, pointer_suits, suited_is_sound}, Edits.if_by}
use Rattle.mk_never.proofs.Typing.{new_is_sound, typed_access, typed_free, typed_global, typed_new, typed_register}
use Rattle.mk_never.{proofs.Typing.{typed_word}, specs.Admitted.{IsSound, IsTyped, KeepsTyped, StaysTyped}}
use Rattle.mk_never.specs.Admitted.{AccessIsAdmitted, IsAdmitted, IsOfKind, OperandsAreInRange, StoreIsAdmitted}
use Rattle.mk_never.specs.NeverHeap.{Call, NeverState, after_op, is_same, register_at, start_of, word_at}
use Rattle.mk_never.specs.declared.operations.Op.TheVariants.{CasPtr, GetPtr, Lea, New, SetNum, SetPtr}
use Rattle.mk_never.specs.declared.{types.Kind.{TheVariants.To, Kind}, operations.Op.Op}
use Rattle.mk_never.specs.declared.values.Value.TheVariants.{Null}

module _ (listed : List ℕ) (n : NeverState) (c : ℕ) (typed : IsTyped listed n) where
  -- what an operation of these operands needs, and what it leaves
  abbrev Keeps : Op → Type 0
  Keeps op = OperandsAreInRange n op → AccessIsAdmitted n c op → StoreIsAdmitted listed n c op
      → IsTyped listed (after_op n c op)

  register_is_sound : (r : ℕ) → IsSound n (register_at n c r)
  register_is_sound r = typed.registers (8 * c + r)

  new_keeps : (d ty : ℕ) (full : Bool) → Keeps (New d ty full)
  new_keeps d ty full in_range access store = if_by (λ m. IsTyped listed m) full _ _ (λ e. typed)
      (λ e. typed_register (typed_new typed ty in_range.1) c d _ (new_is_sound n ty))

  set_num_keeps : (q i m : ℕ) → Keeps (SetNum q i m)
  set_num_keeps q i m in_range access store = grind (arith, typed_access, typed_word, number_suits)

  get_ptr_keeps : (d q i : ℕ) → Keeps (GetPtr d q i)
  get_ptr_keeps d q i in_range access store = grind (arith, typed_access, typed_register, suited_is_sound)

  set_ptr_keeps : (q i p : ℕ) → Keeps (SetPtr q i p)
  set_ptr_keeps q i p in_range access store = grind (arith, typed_access, typed_word, pointer_suits, register_is_sound)

  cas_ptr_keeps : (q i p r : ℕ) → Keeps (CasPtr q i p r)
  cas_ptr_keeps q i p r in_range access store =
      typed_access typed (register_at n c q) i
      (λ kind. IsOfKind (register_at n c p) kind × IsOfKind (register_at n c r) kind) _ store typed (λ number place
      there inside is. if_by (λ m. IsTyped listed m) (is_same (word_at n number place) (register_at n c p)) _ _
      (λ e. typed_word typed number place _ there (pointer_suits n _ _ (register_is_sound r) is.1)) (λ e. typed))

  lea_keeps : (d q i : ℕ) → Keeps (Lea d q i)
  lea_keeps d q i in_range access store = grind (arith, typed_register, moved_is_sound, register_is_sound)

  pub op_keeps : (op : Op) → Keeps op
  op_keeps x0 =
      grind (
        arith,
        new_keeps,
        typed_free,
        register_is_sound,
        set_num_keeps,
        get_ptr_keeps,
        set_ptr_keeps,
        cas_ptr_keeps,
        lea_keeps,
        typed_register,
        typed_global,
      )

pub calls_keep : (listed : List ℕ) (n : NeverState) (calls : List Call) → KeepsTyped listed n calls
calls_keep listed n [] typed admitted = typed
calls_keep listed n (x ∷ xs) typed admitted =
    let first : IsAdmitted listed n x.caller x.op = admitted.0 in
    calls_keep listed (after_op n x.caller x.op) xs
    (op_keeps listed n x.caller typed x.op first.in_range first.access first.store) admitted.1

null_at : (count k : ℕ) → get_or (replicate count Null) k Null ≡ Null
null_at zero k = refl
null_at (suc count) zero = refl
null_at (suc count) (suc k) = null_at count k

always : (o : Option ℕ) → IfSome o (λ ty. Unit {0})
always x0 = grind arith

pub start_is_typed : (listed : List ℕ) (types : List (List Kind)) (callers : ℕ)
    → IsTyped listed (start_of types callers)
start_is_typed listed types callers =
    let n = start_of types callers in
    record {
      allocations = λ number h. absurd (omega arith);
      registers = λ k. subst (λ v. IsSound n v) (sym (null_at (8 * callers) k)) tt;
      globals = λ g. subst (λ v. IsSound n v) (sym (null_at 64 g)) tt;
      listed = λ g. subst (λ v. IfSome (slice_get listed g) (λ ty. IsOfKind v (To ty 0))) (sym (null_at 64 g))
          (always (slice_get listed g));
    }

pub stays_typed : (listed : List ℕ) (types : List (List Kind)) (callers : ℕ) (calls : List Call)
    → StaysTyped listed types callers calls
stays_typed listed types callers calls admitted = grind (arith, calls_keep, start_is_typed)

pub ruleset the_state_stays_typed_facts = (start_is_typed, calls_keep, stays_typed)
