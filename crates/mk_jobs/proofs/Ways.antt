-- What the operation of a typed step is, and what its answer leads to: it creates an object, frees one that its caller
-- owns, or does neither.
use Rattle.mk_jobs.proofs.Vocabulary.{Anything, Asks, Bool, Has, Hold, IfSome, IsOfKind, IsTypedStep, List, MayPoint}
use Rattle.mk_jobs.proofs.Vocabulary.{NeverState, None, Null, Num, Op, Option, Owes, Owns, Plan, Points, Ptr, Public}
use Rattle.mk_jobs.proofs.Vocabulary.{Reply, Role, Some, Step, TakesPublic, Target, To, Value, World, after_op}
use Rattle.mk_jobs.proofs.Vocabulary.{all_give, and_parts, ap, arith, bit, cond, eqb-true, false, false≢true, found}
use Rattle.mk_jobs.proofs.Vocabulary.{freed, get_or-set_other, get_or-set_same, gives, global_at, slice_get, hold_of}
use Rattle.mk_jobs.proofs.Vocabulary.{inl, inr, is_number_there, is_owed, is_own, is_pointer_to, is_same}
use Rattle.mk_jobs.proofs.Vocabulary.{is_some, kind_there, leads, leads_shared, left_at, length, loaded, ltb-true}
use Rattle.mk_jobs.proofs.Vocabulary.{may_go, may_set, nat_lt, not, number_replied, refl, register_at, reply_of, subst}
use Rattle.mk_jobs.proofs.Vocabulary.{sym, taken, target_of, true, type_there, with_hold, with_register, word_at, ℕ}
use Rattle.mk_jobs.proofs.{Vocabulary.{◌&&◌, ◌*◌, ◌+◌, ◌<◌, ◌==◌, ◌∙◌, ◌≡◌, ◌⊎◌}, Holds.{HoldsIn, pointer_may}}
use Rattle.mk_jobs.proofs.Meeting.{IsStateOf, loads, sound, there_so, type_so, word_met}
use Rattle.mk_jobs.proofs.{Stepping.{cond_registers, left_registers, set_lt}, Owners.not_owed, Passing.{Change, Goes}}
use Rattle.mk_jobs.proofs.Passing.{goes_change, goes_quiet, goes_set, leads_by, leads_shared_by, sets, stays, takes}
use Rattle.mk_jobs.specs.declared.steps.Step.TheVariants as step
use Rattle.mk_never.specs.declared.operations.Op.TheVariants as op

-- It creates and frees nothing.
abbrev pub is_quiet : Op → Bool
is_quiet (op.New d ty full) = full
is_quiet (op.Free r) = false
is_quiet _ = true

pub data Way (role : ℕ → Role) (n : NeverState) (k : ℕ) (hs gs : List Hold) (o : Op) : Type 0 where
  creates : (d ty : ℕ) → o ≡ op.New d ty false → d < 8 → is_own (hold_of hs d) ≡ false
      → all_give gives (with_hold hs d (Owns ty)) gs ≡ true → Way role n k hs gs o
  frees_own : (r : ℕ) → o ≡ op.Free r → r < 8 → is_own (hold_of hs r) ≡ true
      → all_give gives (with_hold hs r (freed (hold_of hs r))) gs ≡ true → Way role n k hs gs o
  passes : is_quiet o ≡ true → Goes role (register_at n k) (register_at (after_op n k o) k) hs gs → Way role n k hs gs o

pub found_has : (h : Hold) (v : Value) → Has v h → (v ≡ Null → ⊥) → Has v (found h)
found_has (MayPoint t) Null has some = absurd (some refl)
found_has (MayPoint t) (Num m) has some = absurd has
found_has (MayPoint t) (Ptr a ty offset) has some = record {
  number = a;
  is = ap (λ (x : ℕ). Ptr a x offset) has.0 ∙ ap (Ptr a t) has.1;
}
found_has Anything v has some = has
found_has (Points t) v has some = has
found_has (Owns t) v has some = has
found_has (Owes t) v has some = has

found_change : (h : Hold) → Change h (found h)
found_change (MayPoint t) = sets refl refl
found_change Anything = stays refl
found_change (Points t) = stays refl
found_change (Owns t) = stays refl
found_change (Owes t) = stays refl

-- What an exchange took out: the hold stays, or is owed from now on.
data Taking (h g : Hold) : Type 0 where
  leaves : taken h g ≡ h → Taking h g
  gets : (t u : ℕ) → t ≡ u → g ≡ Owes u → (h ≡ MayPoint t) ⊎ (h ≡ Points t) → taken h g ≡ Owes u → Taking h g

taking : (h g : Hold) → Taking h g
taking (MayPoint t) (Owes u) = by (t == u) refl
  where
    by : (b : Bool) → (t == u) ≡ b → Taking (MayPoint t) (Owes u)
    by true e = gets t u (eqb-true t u e) refl (inl refl) (ap (λ (b : Bool). cond b (Owes u) (MayPoint t)) e)
    by false e = leaves (ap (λ (b : Bool). cond b (Owes u) (MayPoint t)) e)
taking (Points t) (Owes u) = by (t == u) refl
  where
    by : (b : Bool) → (t == u) ≡ b → Taking (Points t) (Owes u)
    by true e = gets t u (eqb-true t u e) refl (inr refl) (ap (λ (b : Bool). cond b (Owes u) (Points t)) e)
    by false e = leaves (ap (λ (b : Bool). cond b (Owes u) (Points t)) e)
taking (MayPoint t) Anything = leaves refl
taking (MayPoint t) (MayPoint u) = leaves refl
taking (MayPoint t) (Points u) = leaves refl
taking (MayPoint t) (Owns u) = leaves refl
taking (Points t) Anything = leaves refl
taking (Points t) (MayPoint u) = leaves refl
taking (Points t) (Points u) = leaves refl
taking (Points t) (Owns u) = leaves refl
taking Anything g = leaves refl
taking (Owns t) g = leaves refl
taking (Owes t) g = leaves refl

taken_change : (h g : Hold) → Taking h g → Change h (taken h g)
taken_change h g (leaves is) = stays is
taken_change h g (gets t u e owes (inl was) is) = takes (rw was refl) (rw is refl)
taken_change h g (gets t u e owes (inr was) is) = takes (rw was refl) (rw is refl)

taken_has : (h g : Hold) (v : Value) → Taking h g → Has v h → Has v (taken h g)
taken_has h g v (leaves is) has = rw is has
taken_has h g v (gets t u e owes (inl was) is) has =
    let may : Has v (MayPoint t) = rw was at has in
    subst (Has v) (sym is) (subst (λ (x : ℕ). IsOfKind v (To x 0)) e may)
taken_has h g v (gets t u e owes (inr was) is) has =
    let points : Has v (Points t) = rw was at has in
    subst (Has v) (sym is) (subst (λ (x : ℕ). IsOfKind v (To x 0)) e (pointer_may t v points))

taken_owes : (h g : Hold) → Taking h g → is_own h ≡ false → is_owed (taken h g) ≡ true → is_owed g ≡ true
taken_owes h g (gets t u e owes was is) none owed = rw owes refl
taken_owes h g (leaves is) none owed = absurd (false≢true (sym (not_owed h none) ∙ ap is_owed (sym is) ∙ owed))

pub not_own : (b c : Bool) → (b && not c) ≡ true → c ≡ false
not_own x0 x1 e = grind arith

module _ {Job Done Point : Type 0} (p : Plan Job Done Point) (w : World) {k : ℕ}
    (state : IsStateOf p.types p.globals w.n k) (hs : List Hold) (h : HoldsIn (register_at w.n k) hs) where
  abbrev v : ℕ → Value
  v = register_at w.n k

  abbrev Leads : Op → Point → Type 0
  Leads o t = Way w.role w.n k hs (p.holds t) o

  abbrev GoesOn : NeverState → Point → Type 0
  GoesOn m t = Goes w.role v (register_at m k) hs (p.holds t)

  room : (d : ℕ) → d < 8 → 8 * k + d < length w.n.registers
  room d lt = let all : 8 * k + 7 < length w.n.registers = state.caller in omega (arith, lt, all)

  at : (o o' : Op) (t t' : Point) → o ≡ o' → t ≡ t' → Leads o' t' → Leads o t
  at o o' t t' e f way = subst (λ (y : Point). Leads o y) (sym f) (subst (λ (x : Op). Leads x t') (sym e) way)

  quiet_to : (m : NeverState) (t : Point) → ((r : ℕ) → r < 8 → register_at m k r ≡ v r) → leads p hs t ≡ true
      → GoesOn m t
  quiet_to m t same e = goes_quiet h same (leads_by hs (p.holds t) e)

  -- a register that is set to what holds so
  set_to : (d : ℕ) (x : Value) (g : Hold) (t : Point) → may_set p.registers hs d ≡ true → is_own g ≡ false → Has x g
      → leads p (with_hold hs d g) t ≡ true → GoesOn (with_register w.n k d x) t
  set_to d x g t may none has e =
      let lt = set_lt p.registers hs d may in
      goes_set h d g lt (not_own _ (is_own (hold_of hs d)) may) none
      (subst (λ (y : Value). Has y g) (sym (get_or-set_same w.n.registers (8 * k + d) x Null (room d lt))) has)
      (λ r below ne. get_or-set_other w.n.registers (8 * k + d) (8 * k + r) x Null (λ e'. ne (omega (arith, e'))))
      (leads_by (with_hold hs d g) (p.holds t) e)

  stored : (t : Target) (at : ℕ → ℕ → NeverState) → ((a i : ℕ) (r : ℕ) → register_at (at a i) k r ≡ v r) → (r : ℕ)
      → r < 8 → register_at (left_at t w.n at) k r ≡ v r
  stored t at same r lt = left_registers t w.n k r at (λ a i. same a i r)

  gets_global : (d g : ℕ) (to : Point) (x : Option ℕ) → slice_get p.globals g ≡ x → may_set p.registers hs d ≡ true
      → leads p (loaded hs d x) to ≡ true → GoesOn (with_register w.n k d (global_at w.n g)) to
  gets_global d g to (Some t) is may e =
      set_to d (global_at w.n g) (MayPoint t) to may refl (subst (λ (x : Option ℕ). IfSome x (λ ty.
      IsOfKind (global_at w.n g) (To ty 0))) is (state.typed.listed g)) e
  gets_global d g to None is may e = set_to d (global_at w.n g) Anything to may refl tt e

  exchanged : (m : NeverState) (x : ℕ) (t : Point) → x < 8 → ((r : ℕ) → r < 8 → register_at m k r ≡ v r)
      → (is_owed (hold_of (p.holds t) x) ≡ true → is_owed (hold_of hs x) ≡ false → (a : ℕ)
      → is_pointer_to a (v x) ≡ true → w.role a ≡ Public)
      → leads_shared p (with_hold hs x (taken (hold_of hs x) (hold_of (p.holds t) x))) t ≡ true → GoesOn m t
  exchanged m x t lt same public e =
      let g = hold_of (p.holds t) x in
      let how = taking (hold_of hs x) g in
      goes_change h x (taken (hold_of hs x) g) lt (taken_change (hold_of hs x) g how)
      (subst (λ (y : Value). Has y (taken (hold_of hs x) g)) (sym (same x lt)) (taken_has (hold_of hs x) g (v x) how
      (h x lt))) same (λ none owed. public (taken_owes (hold_of hs x) g how none owed) (not_owed (hold_of hs x) none))
      (leads_shared_by (with_hold hs x (taken (hold_of hs x) g)) (p.holds t) e)

  pub asks_way : (st : Step Point Done) → IsTypedStep p hs st → (o : Op) (t : Point)
      → Asks p.with_number st o (reply_of w.n k o) t → TakesPublic w k o hs (p.holds t) → Leads o t
  asks_way (step.New d ty to full) typed o t asks public =
      let one = and_parts (may_set p.registers hs d) _ typed in
      let two = and_parts (nat_lt ty (length p.types)) _ one.1 in
      let three = and_parts (leads p (with_hold hs d (Owns ty)) to) (leads p hs full) two.1 in
      elim asks [
        | inl is ↦ at o (op.New d ty false) t to is.0 is.1 (creates d ty refl (set_lt p.registers hs d one.0)
            (not_own _ (is_own (hold_of hs d)) one.0) three.0)
        | inr is ↦ at o (op.New d ty true) t full is.0 is.1 (passes refl (quiet_to w.n full (λ r lt. refl) three.1))
      ]
  asks_way (step.Free r to) typed o t asks public =
      let one = and_parts (nat_lt r 8) _ typed in
      let two = and_parts (is_own (hold_of hs r)) _ one.1 in
      at o (op.Free r) t to asks.0 asks.1
      (frees_own r refl (ltb-true r 8 one.0) two.0 two.1)
  asks_way (step.GetNum q i to) typed o t asks public =
      at o (op.GetNum q i) t _ asks.0 asks.1 (passes refl (quiet_to w.n _ (λ r lt. refl)
      (typed.1 (number_replied (reply_of w.n k o)))))
  asks_way (step.SetNum q i m to) typed o t asks public =
      let one = and_parts (nat_lt q 8) _ typed in
      let two = and_parts (is_number_there (kind_there p.types (hold_of hs q) i)) (leads p hs to) one.1 in
      at o (op.SetNum q i m) t to asks.0 asks.1
      (passes refl (quiet_to (after_op w.n k (op.SetNum q i m)) to
      (stored (target_of w.n (v q) i) _ (λ a y r. refl)) two.1))
  asks_way (step.GetPtr d q i to) typed o t asks public =
      let one = and_parts (may_set p.registers hs d) _ typed in
      let two = and_parts (nat_lt q 8) _ one.1 in
      let three = and_parts (is_some (type_there (kind_there p.types (hold_of hs q) i))) _ two.1 in
      let there = there_so (type_there (kind_there p.types (hold_of hs q) i)) three.0 in
      let m = word_met p.types (hold_of hs q) i (To there.t 0) (type_so _ there.t there.is) in
      let e : leads p (with_hold hs d (MayPoint there.t)) to ≡ true =
      subst (λ (x : Option ℕ). leads p (loaded hs d x) to ≡ true) there.is three.1 in
      at o (op.GetPtr d q i) t to asks.0 asks.1 (passes refl (loads state m.ty there.t i (v q)
      (m.may (v q) (h q (ltb-true q 8 two.0))) (sound state q) m.there (λ n'. GoesOn n' to) (with_register w.n k d Null)
      (λ b x. with_register w.n k d (word_at w.n b x)) (set_to d Null (MayPoint there.t) to one.0 refl tt e)
      (λ b x may. set_to d (word_at w.n b x) (MayPoint there.t) to one.0 refl may e)))
  asks_way (step.SetPtr q i r to) typed o t asks public =
      let two = and_parts (nat_lt r 8) _ (and_parts (nat_lt q 8) _ typed).1 in
      let three = and_parts (may_go (type_there (kind_there p.types (hold_of hs q) i)) (hold_of hs r)) (leads p hs to)
      two.1 in
      at o (op.SetPtr q i r) t to asks.0 asks.1
      (passes refl (quiet_to (after_op w.n k (op.SetPtr q i r)) to
      (stored (target_of w.n (v q) i) _ (λ a y x. refl)) three.1))
  asks_way (step.CasPtr q i x r so other) typed o t asks public =
      let two = and_parts (nat_lt x 8) _ (and_parts (nat_lt q 8) _ typed).1 in
      let three = and_parts (nat_lt r 8) _ two.1 in
      let four = and_parts (may_go (type_there (kind_there p.types (hold_of hs q) i)) (hold_of hs r)) _ three.1 in
      let five = and_parts (may_go (type_there (kind_there p.types (hold_of hs q) i)) (hold_of hs x)) _ four.1 in
      let six = and_parts (leads_shared p (with_hold hs x (taken (hold_of hs x) (hold_of (p.holds so) x))) so)
      (leads p hs other) five.1 in
      let same = stored (target_of w.n (v q) i) _
      (λ a y z. cond_registers (is_same (word_at w.n a y) (v x)) w.n a y (v r) k z) in
      let known : TakesPublic w k (op.CasPtr q i x r) hs (p.holds t) =
      subst (λ (y : Op). TakesPublic w k y hs (p.holds t)) asks.0 public in
      elim (asks.1) [
        | inl is ↦ at o (op.CasPtr q i x r) t so asks.0 is.1 (passes refl
            (exchanged (after_op w.n k (op.CasPtr q i x r)) x so (ltb-true x 8 two.0) same
            (subst (λ (y : Point). TakesPublic w k (op.CasPtr q i x r) hs (p.holds y)) is.1 known) six.0))
        | inr is ↦ at o (op.CasPtr q i x r) t other asks.0 is.1 (passes refl
            (quiet_to (after_op w.n k (op.CasPtr q i x r)) other same six.1))
      ]
  asks_way (step.GetGlobal d g to) typed o t asks public =
      let one = and_parts (may_set p.registers hs d) _ typed in
      let two = and_parts (nat_lt g 64) _ one.1 in
      at o (op.GetGlobal d g) t to asks.0 asks.1
      (passes refl (gets_global d g to (slice_get p.globals g) refl one.0 two.1))
  asks_way (step.SetGlobal g r to) typed o t asks public =
      let two = and_parts (nat_lt r 8) _ (and_parts (nat_lt g 64) _ typed).1 in
      let three = and_parts (may_go (slice_get p.globals g) (hold_of hs r)) (leads_shared p hs to) two.1 in
      at o (op.SetGlobal g r) t to asks.0 asks.1
      (passes refl (goes_quiet h (λ x lt. refl) (leads_shared_by hs (p.holds to) three.1)))
  asks_way (step.Clear d to) typed o t asks public =
      let one = and_parts (may_set p.registers hs d) _ typed in
      at o (op.Clear d) t to asks.0 asks.1 (passes refl (set_to d Null Anything to one.0 refl tt one.1))
  asks_way (step.Same x y so other) typed o t asks public =
      let two = and_parts (nat_lt y 8) _ (and_parts (nat_lt x 8) _ typed).1 in
      let three = and_parts (leads p hs so) (leads p hs other) two.1 in
      elim (asks.1) [
        | inl is ↦ at o (op.Same x y) t so asks.0 is.1 (passes refl (quiet_to w.n so (λ r lt. refl) three.0))
        | inr is ↦ at o (op.Same x y) t other asks.0 is.1 (passes refl (quiet_to w.n other (λ r lt. refl) three.1))
      ]
  asks_way (step.IsNull r so other) typed o t asks public =
      let one = and_parts (nat_lt r 8) _ typed in
      let two = and_parts (leads p hs so) _ one.1 in
      let lt = ltb-true r 8 one.0 in
      elim (asks.1) [
        | inl is ↦ at o (op.IsNull r) t so asks.0 is.1 (passes refl (quiet_to w.n so (λ x below. refl) two.0))
        | inr is ↦ at o (op.IsNull r) t other asks.0 is.1 (passes refl (goes_change h r (found (hold_of hs r)) lt
            (found_change (hold_of hs r)) (found_has (hold_of hs r) (v r) (h r lt)
            (λ null. is.0 (ap (reply_of w.n k) asks.0
            ∙ ap (λ (x : Value). Reply.Num (bit (is_same x Null))) null))) (λ x below. refl)
            (λ none owed. absurd (false≢true (sym (found_owes (hold_of hs r) none) ∙ owed)))
            (leads_by (with_hold hs r (found (hold_of hs r))) (p.holds other) two.1)))
      ]
    where
      found_owes : (g : Hold) → is_own g ≡ false → is_owed (found g) ≡ false
      found_owes x0 none = grind arith
  asks_way (step.End done) typed o t asks public = absurd asks
