-- What is admitted of a caller's operation is so in any state that shows its caller the same: before the calls of
-- others, and after them.
use Rattle.mk_laws.proofs.Vocabulary.{AccessIsAdmitted, Continues, IsAdmitted, IsNumber, IsPointer, IsSound, IsTyped}
use Rattle.mk_laws.proofs.Vocabulary.{allocation_at, kinds_of, length, register_at, slice_index_or, subst, sym}
use Rattle.mk_laws.proofs.Vocabulary.{Value, refl, ℕ, ◌*◌, ◌+◌, ◌<◌, ◌∙◌, ◌≡◌}
use Rattle.mk_never.specs.{Admitted.{IsBase, IsOfKind, OperandsAreInRange, StoreIsAdmitted}, Laws.TypeStays}
use Rattle.mk_laws.proofs.Vocabulary.{KeepsRegisters, Kind, List, Meets as MeetsWord, NeverState, Number, Op, Ptr}

-- There are the same types, as many registers and globals, and the caller's registers hold the same values, which lead
-- to allocations of the same types and sizes.
pub record ShowsAlike (n m : NeverState) (k : ℕ) : Type 0 where
  pub types : m.types ≡ n.types
  pub registers : length m.registers ≡ length n.registers
  pub globals : length m.globals ≡ length n.globals
  pub own : KeepsRegisters k n m
  pub targets : (r a t o : ℕ) → r < 8 → register_at n k r ≡ Ptr a t o → TypeStays n m a

pub alike_back : {n m : NeverState} {k : ℕ} → ShowsAlike n m k → ShowsAlike m n k
alike_back h = record {
  types = sym h.types;
  registers = sym h.registers;
  globals = sym h.globals;
  own = λ r lt. sym (h.own r lt);
  targets = λ r a t o lt is. let e = h.targets r a t o lt (sym (h.own r lt) ∙ is) in (sym e.0, sym e.1);
}

-- The calls of others show it the same.
pub shows_alike : (globals : List ℕ) (n m : NeverState) (k : ℕ) → Continues n m → KeepsRegisters k n m
    → IsTyped globals n → ShowsAlike n m k
shows_alike globals n m k on own typed = record {
  types = on.types;
  registers = on.registers;
  globals = on.globals;
  own = own;
  targets = λ r a t o lt is.
      let sound : IsSound n (Ptr a t o) = rw is at (typed.registers (8 * k + r)) in
      (on.ty a sound.0, on.size a sound.0);
}

module _ (globals : List ℕ) (n m : NeverState) (k : ℕ) (alike : ShowsAlike n m k) where
  operands_alike : (o : Op) → OperandsAreInRange n o → OperandsAreInRange m o
  operands_alike (Op.New d ty full) h = (h.0, rw alike.types h.1)
  operands_alike (Op.GetGlobal d g) h = (h.0, rw alike.globals h.1)
  operands_alike (Op.SetGlobal g p) h = (rw alike.globals h.0, h.1)
  operands_alike _ h = h

  meets_value : (v : Value) (q i : ℕ) (P : Kind → Type 0) → q < 8 → register_at n k q ≡ v → MeetsWord n v i P
      → MeetsWord m v i P
  meets_value (Ptr a t o) q i P lt is h = (rw stays.1 h.0, subst P kind h.1)
    where
      stays : TypeStays n m a
      stays = alike.targets q a t o lt is

      kind : slice_index_or (kinds_of n.types (allocation_at n a).ty) (o + i) Number
          ≡ slice_index_or (kinds_of m.types (allocation_at m a).ty) (o + i) Number
      kind = cc (alike.types, stays.0)
  meets_value _ q i P lt is h = tt

  pub meets_alike : (q i : ℕ) (P : Kind → Type 0) → q < 8 → MeetsWord n (register_at n k q) i P
      → MeetsWord m (register_at m k q) i P
  meets_alike q i P lt h = rw (alike.own q lt) (meets_value _ q i P lt refl h)

  access_alike : (o : Op) → OperandsAreInRange n o → AccessIsAdmitted n k o → AccessIsAdmitted m k o
  access_alike (Op.GetNum q i) r h = meets_alike q i IsNumber r h
  access_alike (Op.SetNum q i x) r h = meets_alike q i IsNumber r h
  access_alike (Op.GetPtr d q i) r h = meets_alike q i IsPointer r.1 h
  access_alike (Op.SetPtr q i p) r h = meets_alike q i IsPointer r.0 h
  access_alike (Op.CasPtr q i p s) r h = meets_alike q i IsPointer r.0 h
  access_alike (Op.Lea d q i) r h = meets_alike q i (λ kind. Unit {0}) r.1 h
  access_alike _ r h = tt

  store_alike : (o : Op) → OperandsAreInRange n o → StoreIsAdmitted globals n k o → StoreIsAdmitted globals m k o
  store_alike (Op.Free p) r h = subst IsBase (sym (alike.own p r)) h
  store_alike (Op.SetPtr q i p) r h = rw (alike.own p r.1) (meets_alike q i _ r.0 h)
  store_alike (Op.CasPtr q i p s) r h = rw (alike.own p r.1) (rw (alike.own s r.2)
      (meets_alike q i (λ kind. IsOfKind (register_at n k p) kind × IsOfKind (register_at n k s) kind) r.0 h))
  store_alike (Op.SetGlobal g p) r h = rw (alike.own p r.1) h
  store_alike _ r h = tt

  pub admitted_alike : {o : Op} → IsAdmitted globals n k o → IsAdmitted globals m k o
  admitted_alike {o} h = record {
    of_a_caller = rw alike.registers h.of_a_caller;
    in_range = operands_alike o h.in_range;
    access = access_alike o h.in_range h.access;
    store = store_alike o h.in_range h.store;
  }
