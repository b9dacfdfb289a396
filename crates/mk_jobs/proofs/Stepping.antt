-- The operation of a step may be asked where its registers are typed, leads where the step says, and leaves what the
-- next point holds.
use Rattle.mk_jobs.proofs.Vocabulary.{AccessIsAdmitted, Anything, Bool, Has, Hold, IfSome, IsAdmitted, IsBase, IsNumber}
use Rattle.mk_jobs.proofs.Vocabulary.{IsOfKind, IsPointer, IsTypedStep, Kind, List, MayPoint, Meets, NeverState}
use Rattle.mk_jobs.proofs.Vocabulary.{Nothing, Null, Num, Number, Op, OperandsAreInRange, Option, Owes, Owns, Plan}
use Rattle.mk_jobs.proofs.Vocabulary.{Points, Ptr, Some, Step, StoreIsAdmitted, Target, To, Unmapped, Value, WordOf, ap}
use Rattle.mk_jobs.proofs.Vocabulary.{arith, false, false≢true, freed, slice_get, hold_of, if◌then◌else◌}
use Rattle.mk_jobs.proofs.Vocabulary.{is_number_there, is_own, is_some, kind_there, left_at, length, ltb-true, may_go}
use Rattle.mk_jobs.proofs.Vocabulary.{may_set, nat_lt, not, op_of, refl, register_at, subst, sym, true, type_there}
use Rattle.mk_jobs.proofs.{Vocabulary.{with_word, ℕ, ◌&&◌, ◌<◌, ◌∙◌, ◌≡◌}, Holds.{HoldsIn, both}}
use Rattle.mk_jobs.proofs.Meeting.{IsStateOf, go_so, is_number_so, meets, sound, there_so, type_so, word_met}
use Rattle.mk_jobs.specs.declared.steps.Step.TheVariants as step

freed_base : (h : Hold) (v : Value) → is_own h ≡ true → Has v h → IsBase v
freed_base (Owns t) v e has = subst IsBase (sym has.is) refl
freed_base (Owes t) Null e has = tt
freed_base (Owes t) (Num m) e has = absurd has
freed_base (Owes t) (Ptr a ty offset) e has = has.1
freed_base _ v e has = absurd (false≢true e)

pub freed_has : (h : Hold) (v : Value) → Has v h → Has v (freed h)
freed_has Anything v has = has
freed_has (MayPoint t) v has = has
freed_has (Points t) v has = has
freed_has (Owns t) v has = has
freed_has (Owes t) v has = has

pub set_lt : (n : ℕ) (hs : List Hold) (d : ℕ) → may_set n hs d ≡ true → d < 8
set_lt n hs d e =
    ltb-true d 8 (both (nat_lt d 8) (nat_lt d n) (both (nat_lt d 8 && nat_lt d n) (not (is_own (hold_of hs d))) e).0).0

-- A register that is set is one that the object uses.
pub set_used : (n : ℕ) (hs : List Hold) (d : ℕ) → may_set n hs d ≡ true → d < n
set_used n hs d e =
    ltb-true d n (both (nat_lt d 8) (nat_lt d n) (both (nat_lt d 8 && nat_lt d n) (not (is_own (hold_of hs d))) e).0).1

pub left_registers : (t : Target) (n : NeverState) (k r : ℕ) (at : ℕ → ℕ → NeverState) → ((a w : ℕ)
    → register_at (at a w) k r ≡ register_at n k r) → register_at (left_at t n at) k r ≡ register_at n k r
left_registers Nothing n k r at same = refl
left_registers Unmapped n k r at same = refl
left_registers (WordOf a w) n k r at same = same a w

pub cond_registers : (b : Bool) (n : NeverState) (a w : ℕ) (v : Value) (k r : ℕ)
    → register_at (if b then with_word n a w v else n) k r ≡ register_at n k r
cond_registers true n a w v k r = refl
cond_registers false n a w v k r = refl

-- a step asked, and what its caller holds then
module _ {Job Done Point : Type 0} (p : Plan Job Done Point) {n : NeverState} {k : ℕ}
    (state : IsStateOf p.types p.globals n k) where
  abbrev v : ℕ → Value
  v = register_at n k

  admitted : (o : Op) → OperandsAreInRange n o → AccessIsAdmitted n k o → StoreIsAdmitted p.globals n k o
      → IsAdmitted p.globals n k o
  admitted o range access store =
      record { of_a_caller = state.caller; in_range = range; access = access; store = store }

  pub may_clear : (d : ℕ) → d < 8 → IsAdmitted p.globals n k (Op.Clear d)
  may_clear d lt = admitted (Op.Clear d) lt tt tt

  abbrev kind : List Hold → ℕ → ℕ → Option Kind
  kind hs q i = kind_there p.types (hold_of hs q) i

  -- a word that the step accesses
  pub met : (hs : List Hold) (q i : ℕ) (kd : Kind) → q < 8 → HoldsIn v hs → kind hs q i ≡ Some kd → (P : Kind
      → Type 0) → P kd
      → Meets n (v q) i P
  met hs q i kd lt h e P holds =
      let w = word_met p.types (hold_of hs q) i kd e in
      meets state w.ty i kd (v q) (w.may (v q) (h q lt)) (sound state q) w.there P holds

  pub admits : (hs : List Hold) (st : Step Point Done) → IsTypedStep p hs st → HoldsIn v hs
      → IfSome (op_of st) (IsAdmitted p.globals n k)
  admits hs (step.New d ty to full) typed h =
      let one = both (may_set p.registers hs d) _ typed in
      let two = both (nat_lt ty (length p.types)) _ one.1 in
      let there = ltb-true ty (length p.types) two.0 in
      admitted (Op.New d ty false)
      (set_lt p.registers hs d one.0, omega (arith, there, ap length state.types_are)) tt tt
  admits hs (step.Free r to) typed h =
      let one = both (nat_lt r 8) _ typed in
      let lt = ltb-true r 8 one.0 in
      let two = both (is_own (hold_of hs r)) _ one.1 in
      admitted (Op.Free r) lt tt (freed_base (hold_of hs r) (v r) two.0 (h r lt))
  admits hs (step.GetNum q i to) typed h =
      let one = both (nat_lt q 8) _ typed.0 in
      let lt = ltb-true q 8 one.0 in
      admitted (Op.GetNum q i) lt (met hs q i Number lt h (is_number_so (kind hs q i) one.1) IsNumber refl) tt
  admits hs (step.SetNum q i m to) typed h =
      let one = both (nat_lt q 8) _ typed in
      let lt = ltb-true q 8 one.0 in
      let two = both (is_number_there (kind hs q i)) _ one.1 in
      admitted (Op.SetNum q i m) lt (met hs q i Number lt h (is_number_so (kind hs q i) two.0) IsNumber refl) tt
  admits hs (step.GetPtr d q i to) typed h =
      let one = both (may_set p.registers hs d) _ typed in
      let two = both (nat_lt q 8) _ one.1 in
      let three = both (is_some (type_there (kind hs q i))) _ two.1 in
      let lt = ltb-true q 8 two.0 in
      let there = there_so (type_there (kind hs q i)) three.0 in
      admitted (Op.GetPtr d q i) (set_lt p.registers hs d one.0, lt)
      (met hs q i (To there.t 0) lt h (type_so (kind hs q i) there.t there.is) IsPointer refl) tt
  admits hs (step.SetPtr q i r to) typed h =
      let one = both (nat_lt q 8) _ typed in
      let two = both (nat_lt r 8) _ one.1 in
      let three = both (may_go (type_there (kind hs q i)) (hold_of hs r)) _ two.1 in
      let lt = ltb-true q 8 one.0 in
      let lt' = ltb-true r 8 two.0 in
      let go = go_so (type_there (kind hs q i)) (hold_of hs r) three.0 in
      let kd = type_so (kind hs q i) go.t go.is in
      admitted (Op.SetPtr q i r) (lt, lt') (met hs q i (To go.t 0) lt h kd IsPointer refl)
      (met hs q i (To go.t 0) lt h kd (IsOfKind (v r)) (go.may (v r) (h r lt')))
  admits hs (step.CasPtr q i x r so not_so) typed h =
      let one = both (nat_lt q 8) _ typed in
      let two = both (nat_lt x 8) _ one.1 in
      let three = both (nat_lt r 8) _ two.1 in
      let four = both (may_go (type_there (kind hs q i)) (hold_of hs r)) _ three.1 in
      let five = both (may_go (type_there (kind hs q i)) (hold_of hs x)) _ four.1 in
      let lt = ltb-true q 8 one.0 in
      let ltx = ltb-true x 8 two.0 in
      let ltr = ltb-true r 8 three.0 in
      let go = go_so (type_there (kind hs q i)) (hold_of hs r) four.0 in
      let gx = go_so (type_there (kind hs q i)) (hold_of hs x) five.0 in
      admitted (Op.CasPtr q i x r) (lt, ltx, ltr)
      (met hs q i (To go.t 0) lt h (type_so (kind hs q i) go.t go.is) IsPointer refl)
      (met hs q i (To go.t 0) lt h (type_so (kind hs q i) go.t go.is) (λ (kd : Kind). IsOfKind (v x) kd
      × IsOfKind (v r) kd) (
        subst (λ (t : ℕ). IsOfKind (v x) (To t 0)) (same_type gx.t go.t (sym gx.is
            ∙ go.is)) (gx.may (v x) (h x ltx)),
        go.may (v r) (h r ltr),
      ))
    where
      same_type : (a b : ℕ) → Some a ≡ Some b → a ≡ b
      same_type a b e = cc e
  admits hs (step.GetGlobal d g to) typed h =
      let one = both (may_set p.registers hs d) _ typed in
      let two = both (nat_lt g 64) _ one.1 in
      let lt = ltb-true g 64 two.0 in
      admitted (Op.GetGlobal d g) (set_lt p.registers hs d one.0, omega (arith, lt, state.count)) tt tt
  admits hs (step.SetGlobal g r to) typed h =
      let one = both (nat_lt g 64) _ typed in
      let two = both (nat_lt r 8) _ one.1 in
      let three = both (may_go (slice_get p.globals g) (hold_of hs r)) _ two.1 in
      let lt = ltb-true g 64 one.0 in
      let lt' = ltb-true r 8 two.0 in
      let go = go_so (slice_get p.globals g) (hold_of hs r) three.0 in
      admitted (Op.SetGlobal g r) (omega (arith, lt, state.count), lt') tt
      (subst (λ (x : Option ℕ). IfSome x (λ ty. IsOfKind (v r) (To ty 0))) (sym go.is)
      (go.may (v r) (h r lt')))
  admits hs (step.Clear d to) typed h =
      admitted (Op.Clear d) (set_lt p.registers hs d (both (may_set p.registers hs d) _ typed).0) tt tt
  admits hs (step.Same x y so not_so) typed h =
      let one = both (nat_lt x 8) _ typed in
      let two = both (nat_lt y 8) _ one.1 in
      admitted (Op.Same x y) (ltb-true x 8 one.0, ltb-true y 8 two.0) tt tt
  admits hs (step.IsNull r so not_so) typed h =
      let one = both (nat_lt r 8) _ typed in
      admitted (Op.IsNull r) (ltb-true r 8 one.0) tt tt
  admits hs (step.End done) typed h = tt
