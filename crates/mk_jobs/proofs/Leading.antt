-- Where the answer of a step leads, and what the registers hold there.
use Rattle.std.proofs.Common.{IfSome}
use Rattle.mk_heap.proofs.Below.Laws.Vocabulary.{Answer, Bool, List, NeverState, None, Null, Num, Op, Option, Ptr, Some}
use Rattle.mk_heap.proofs.Below.Laws.Vocabulary.{To, Value}
use Rattle.mk_heap.proofs.Below.Laws.Vocabulary.{answer_of, ap, arith, bit, eqb-true, false, false≢true, flagged}
use Rattle.mk_heap.proofs.Below.Laws.Vocabulary.{get_or-set_other}
use Rattle.mk_heap.proofs.Below.Laws.Vocabulary.{get_or, get_or-set_same, if◌then◌else◌, inl, inr, is_same, length}
use Rattle.mk_heap.proofs.Below.Laws.Vocabulary.{ltb-true}
use Rattle.mk_heap.proofs.Below.Laws.Vocabulary.{nat_lt, refl, register_at, subst, sym, target_of, true, with_new}
use Rattle.mk_heap.proofs.Below.Laws.Vocabulary.{with_register}
use Rattle.mk_heap.proofs.Below.Laws.Vocabulary.{word_at, ℕ, ◌*◌, ◌+◌, ◌<◌, ◌==◌, ◌∙◌, ◌≡◌, ◌⊎◌, after_free}
use Rattle.mk_never.specs.{Admitted.IsOfKind, NeverHeap.{after_op, global_at, reply_of}}
use Rattle.mk_never.specs.declared.operations.Reply.{Reply}
use Rattle.mk_heap.specs.Dispatching.{as_told}
use Rattle.mk_jobs.specs.{Typing.{Hold, Anything, MayPoint, Points, Owns, Owes, Plan}, Jobs.{Asks, Has, number_replied}}
use Rattle.mk_jobs.specs.{declared.steps.Step.Step, Passes.{next_by, number_answered, op_of, says_yes}}
use Rattle.mk_jobs.proofs.Vocabulary.{is_some, slice_get}
use Rattle.mk_jobs.specs.Typing.{IsTypedStep, found, freed, hold_of, is_number_there, is_own}
use Rattle.mk_jobs.specs.Typing.{kind_there, leads, leads_shared, loaded, may_go, may_set, taken, type_there, with_hold}
use Rattle.mk_jobs.proofs.Holds.{HoldsIn, both, lead_so, pointer_may, same_so, set_so, share_so}
use Rattle.mk_jobs.proofs.Meeting.{IsStateOf, loads, sound, there_so, type_so, word_met}
use Rattle.mk_jobs.proofs.Stepping.{cond_registers, freed_has, left_registers, set_lt}
use Rattle.mk_jobs.specs.declared.steps.Step.TheVariants as step

yes_so : (r : Reply) (bases : List ℕ) → says_yes (as_told (answer_of bases r)) ≡ true → r ≡ Reply.Num 1
yes_so (Reply.Num m) bases e = ap Reply.Num (eqb-true m 1 e)
yes_so _ bases e = absurd (false≢true e)

not_so : (r : Reply) (bases : List ℕ) → says_yes (as_told (answer_of bases r)) ≡ false → r ≡ Reply.Num 1 → ⊥
not_so r bases e is = false≢true (sym e ∙ ap (λ (x : Reply). says_yes (as_told (answer_of bases x))) is)

number_so : (r : Reply) (bases : List ℕ) → number_answered (as_told (answer_of bases r)) ≡ number_replied r
number_so (Reply.Num m) bases = refl
number_so _ bases = refl

found_has : (h : Hold) (v : Value) → Has v h → (v ≡ Null → ⊥) → Has v (found h)
found_has (MayPoint t) Null has some = absurd (some refl)
found_has (MayPoint t) (Num m) has some = absurd has
found_has (MayPoint t) (Ptr a ty offset) has some = record {
  number = a;
  is = ap (λ (x : ℕ). Ptr a x offset) has.0 ∙ ap (Ptr a t) has.1;
}
found_has Anything v has some = has
found_has (Points t) v has some = has
found_has (Owns t) v has some = has
found_has (Owes t) v has some = has

taken_has : (h g : Hold) (v : Value) → Has v h → Has v (taken h g)
taken_has (MayPoint t) (Owes u) v has = by (t == u) refl
  where
    by : (b : Bool) → (t == u) ≡ b → Has v (if b then Owes u else MayPoint t)
    by true e = subst (λ (x : ℕ). IsOfKind v (To x 0)) (eqb-true t u e) has
    by false e = has
taken_has (Points t) (Owes u) v has = by (t == u) refl
  where
    by : (b : Bool) → (t == u) ≡ b → Has v (if b then Owes u else Points t)
    by true e = subst (λ (x : ℕ). IsOfKind v (To x 0)) (eqb-true t u e) (pointer_may t v has)
    by false e = has
taken_has Anything g v has = has
taken_has (Owns t) g v has = has
taken_has (Owes t) g v has = has
taken_has (MayPoint t) Anything v has = has
taken_has (MayPoint t) (MayPoint u) v has = has
taken_has (MayPoint t) (Points u) v has = has
taken_has (MayPoint t) (Owns u) v has = has
taken_has (Points t) Anything v has = has
taken_has (Points t) (MayPoint u) v has = has
taken_has (Points t) (Points u) v has = has
taken_has (Points t) (Owns u) v has = has

free_registers : (n : NeverState) (x : Value) (k r : ℕ) → register_at (after_free n x) k r ≡ register_at n k r
free_registers n Null k r = refl
free_registers n (Num m) k r = refl
free_registers n (Ptr a ty offset) k r = refl

module _ {Job Done Point : Type 0} (p : Plan Job Done Point) {n : NeverState} {k : ℕ}
    (state : IsStateOf p.types p.globals n k) (s : Point) where
  abbrev v : ℕ → Value
  v = register_at n k

  room : (d : ℕ) → d < 8 → 8 * k + d < length n.registers
  room d lt = let all : 8 * k + 7 < length n.registers = state.caller in omega (arith, lt, all)

  -- a register that is set, in a state with these registers
  set_holds : (m : NeverState) → m.registers ≡ n.registers → (hs : List Hold) (d : ℕ) (h : Hold) (x : Value) → d < 8
      → Has x h → HoldsIn v hs → HoldsIn (register_at (with_register m k d x) k) (with_hold hs d h)
  set_holds m same hs d h x lt has holds =
      set_so v (register_at (with_register m k d x) k) hs d h
      (subst (λ (y : Value). Has y h) (sym (get_or-set_same m.registers (8 * k + d) x Null
      (subst (λ (l : List Value). 8 * k + d < length l) (sym same) (room d lt)))) has) (λ r below ne.
      get_or-set_other m.registers (8 * k + d) (8 * k + r) x Null (λ e. ne (omega (arith, e)))
      ∙ ap (λ (l : List Value). get_or l (8 * k + r) Null) same) holds

  -- The operation o leads on, where it is answered a.
  abbrev Leads : Step Point Done → Op → Answer → Type 0
  Leads st o a =
      Asks p.with_number st o (reply_of n k o) (next_by p.with_number s st (as_told a))
      × HoldsIn (register_at (after_op n k o) k) (p.holds (next_by p.with_number s st (as_told a)))

  -- yes or no
  chosen : (r : Reply) (bases : List ℕ) (a : Answer) → a ≡ answer_of bases r → (f : ℕ → Value) (so other : Point)
      → (r ≡ Reply.Num 1 → HoldsIn f (p.holds so)) → ((r ≡ Reply.Num 1 → ⊥) → HoldsIn f (p.holds other))
      → (((r ≡ Reply.Num 1) × ((if says_yes (as_told a) then so else other) ≡ so))
      ⊎ ((r ≡ Reply.Num 1 → ⊥) × ((if says_yes (as_told a) then so else other) ≡ other)))
      × HoldsIn f (p.holds (if says_yes (as_told a) then so else other))
  chosen r bases a image f so other here there = by (says_yes (as_told a)) refl
    where
      as_image : (b : Bool) → says_yes (as_told a) ≡ b → says_yes (as_told (answer_of bases r)) ≡ b
      as_image b e = ap (λ (x : Answer). says_yes (as_told x)) (sym image) ∙ e

      by : (b : Bool) → says_yes (as_told a) ≡ b
          → (((r ≡ Reply.Num 1) × ((if b then so else other) ≡ so))
          ⊎ ((r ≡ Reply.Num 1 → ⊥) × ((if b then so else other) ≡ other)))
          × HoldsIn f (p.holds (if b then so else other))
      by true e = let yes_it = yes_so r bases (as_image true e) in (inl (yes_it, refl), here yes_it)
      by false e = let isnt = not_so r bases (as_image false e) in (inr (isnt, refl), there isnt)

  news : (d ty : ℕ) (to full : Point) (hs : List Hold) → d < 8 → leads p (with_hold hs d (Owns ty)) to ≡ true
      → leads p hs full ≡ true → HoldsIn v hs → (a : Answer)
      → Leads (step.New d ty to full) (flagged (Op.New d ty false) a) a
  news d ty to full hs lt e f h = by
    where
      granted : HoldsIn (register_at (with_register (with_new n ty) k d (Ptr (length n.allocations) ty 0)) k)
          (p.holds to)
      granted = lead_so _ (with_hold hs d (Owns ty)) (p.holds to) e (set_holds (with_new n ty) refl hs d (Owns ty)
          (Ptr (length n.allocations) ty 0) lt (record { number = length n.allocations; is = refl }) h)

      by : (a : Answer) → Leads (step.New d ty to full) (flagged (Op.New d ty false) a) a
      by Answer.Full = (inr (refl, refl), lead_so v hs (p.holds full) f h)
      by Answer.Done = (inl (refl, refl), granted)
      by (Answer.Num m) = (inl (refl, refl), granted)
      by (Answer.Word m) = (inl (refl, refl), granted)
      by Answer.Fault = (inl (refl, refl), granted)
      by Answer.Null = (inl (refl, refl), granted)
      by Answer.Double = (inl (refl, refl), granted)

  pub steps_on : (hs : List Hold) (st : Step Point Done) → IsTypedStep p hs st → HoldsIn v hs
      → IfSome (op_of st) (λ o. (a : Answer) (bases : List ℕ) → a ≡ answer_of bases (reply_of n k (flagged o a))
      → Leads st (flagged o a) a)
  steps_on hs (step.New d ty to full) typed h = λ a bases image.
      let one = both (may_set p.registers hs d) _ typed in
      let two = both (nat_lt ty (length p.types)) _ one.1 in
      let three = both (leads p (with_hold hs d (Owns ty)) to) (leads p hs full) two.1 in
      news d ty to full hs (set_lt p.registers hs d one.0) three.0 three.1 h a
  steps_on hs (step.Free r to) typed h = λ a bases image.
      let two = both (is_own (hold_of hs r)) _ (both (nat_lt r 8) _ typed).1 in (
        (refl, refl),
        same_so v _ (p.holds to) (λ x lt. free_registers n (v r) k x)
            (lead_so v (with_hold hs r (freed (hold_of hs r))) (p.holds to) two.1
            (set_so v v hs r (freed (hold_of hs r)) (freed_has (hold_of hs r) (v r)
            (h r (ltb-true r 8 (both (nat_lt r 8) _ typed).0))) (λ x lt ne. refl) h)),
      )
  steps_on hs (step.GetNum q i to) typed h = λ a bases image. (
    (
      refl,
      ap (p.with_number to) (ap (λ (x : Answer). number_answered (as_told x)) image
          ∙ number_so (reply_of n k (Op.GetNum q i)) bases),
    ),
    lead_so v hs (p.holds (p.with_number to (number_answered (as_told a)))) (typed.1 (number_answered (as_told a))) h,
  )
  steps_on hs (step.SetNum q i m to) typed h = λ a bases image.
      let two =
      both (is_number_there (kind_there p.types (hold_of hs q) i)) (leads p hs to) (both
      (nat_lt q 8) _ typed).1 in (
        (refl, refl),
        same_so v _ (p.holds to) (λ x lt. left_registers (target_of n (v q) i) n k x _ (λ b w. refl))
            (lead_so v hs (p.holds to) two.1 h),
      )
  steps_on hs (step.GetPtr d q i to) typed h = λ a bases image.
      let one = both (may_set p.registers hs d) _ typed in
      let two = both (nat_lt q 8) _ one.1 in
      let three = both (is_some (type_there (kind_there p.types (hold_of hs q) i))) _ two.1 in
      let there = there_so (type_there (kind_there p.types (hold_of hs q) i)) three.0 in
      let w = word_met p.types (hold_of hs q) i (To there.t 0) (type_so _ there.t there.is) in
      let e : leads p (with_hold hs d (MayPoint there.t)) to ≡ true =
      subst (λ (x : Option ℕ). leads p (loaded hs d x) to ≡ true) there.is three.1 in
      let set = λ (x : Value) (may : IsOfKind x (To there.t 0)).
      lead_so _ (with_hold hs d (MayPoint there.t)) (p.holds to) e
      (set_holds n refl hs d (MayPoint there.t) x (set_lt p.registers hs d one.0) may h) in (
        (refl, refl),
        loads state w.ty there.t i (v q) (w.may (v q) (h q (ltb-true q 8 two.0))) (sound state q) w.there
            (λ m. HoldsIn (register_at m k) (p.holds to)) (with_register n k d Null)
            (λ b x. with_register n k d (word_at n b x)) (set Null tt) (λ b x may. set (word_at n b x) may),
      )
  steps_on hs (step.SetPtr q i r to) typed h = λ a bases image.
      let two = both (nat_lt r 8) _ (both (nat_lt q 8) _ typed).1 in
      let three =
      both (may_go (type_there (kind_there p.types (hold_of hs q) i)) (hold_of hs r)) (leads p hs to) two.1 in (
        (refl, refl),
        same_so v _ (p.holds to) (λ x lt. left_registers (target_of n (v q) i) n k x _ (λ b w. refl))
            (lead_so v hs (p.holds to) three.1 h),
      )
  steps_on hs (step.CasPtr q i x r so other) typed h = λ a bases image.
      let two = both (nat_lt x 8) _ (both (nat_lt q 8) _ typed).1 in
      let three = both (nat_lt r 8) _ two.1 in
      let four = both (may_go (type_there (kind_there p.types (hold_of hs q) i)) (hold_of hs r)) _ three.1 in
      let five = both (may_go (type_there (kind_there p.types (hold_of hs q) i)) (hold_of hs x)) _ four.1 in
      let t : Hold = taken (hold_of hs x) (hold_of (p.holds so) x) in
      let six = both (leads_shared p (with_hold hs x t) so) (leads p hs other) five.1 in
      let same = λ (y : ℕ). λ (lt : y < 8). left_registers (target_of n (v q) i) n k y _
      (λ b w. cond_registers (is_same (word_at n b w) (v x)) n b w (v r) k y) in
      let c = chosen (reply_of n k (Op.CasPtr q i x r)) bases a image (register_at (after_op n k (Op.CasPtr q i x r)) k)
      so other (λ e. same_so v _ (p.holds so) same (share_so v (with_hold hs x t) (p.holds so) six.0
      (set_so v v hs x t (taken_has (hold_of hs x) (hold_of (p.holds so) x) (v x) (h x (ltb-true x 8 two.0)))
      (λ y lt ne. refl) h))) (λ e. same_so v _ (p.holds other) same (lead_so v hs (p.holds other) six.1 h)) in (
        (refl, c.0),
        c.1,
      )
  steps_on hs (step.GetGlobal d g to) typed h = λ a bases image.
      let one = both (may_set p.registers hs d) _ typed in
      let two = both (nat_lt g 64) _ one.1 in
      ((refl, refl), gets (slice_get p.globals g) refl (set_lt p.registers hs d one.0) two.1)
    where
      gets : (x : Option ℕ) → slice_get p.globals g ≡ x → d < 8
          → leads p (loaded hs d (slice_get p.globals g)) to ≡ true
          → HoldsIn (register_at (with_register n k d (global_at n g)) k) (p.holds to)
      gets (Some t) is lt e =
          lead_so _ (with_hold hs d (MayPoint t)) (p.holds to)
          (subst (λ (x : Option ℕ). leads p (loaded hs d x) to ≡ true) is e)
          (set_holds n refl hs d (MayPoint t) (global_at n g) lt (subst (λ (x : Option ℕ). IfSome x (λ ty.
          IsOfKind (global_at n g) (To ty 0))) is (state.typed.listed g)) h)
      gets None is lt e =
          lead_so _ (with_hold hs d Anything) (p.holds to)
          (subst (λ (x : Option ℕ). leads p (loaded hs d x) to ≡ true) is e)
          (set_holds n refl hs d Anything (global_at n g) lt tt h)
  steps_on hs (step.SetGlobal g r to) typed h = λ a bases image.
      let two = both (nat_lt r 8) _ (both (nat_lt g 64) _ typed).1 in
      let three = both (may_go (slice_get p.globals g) (hold_of hs r)) (leads_shared p hs to) two.1 in
      ((refl, refl), share_so v hs (p.holds to) three.1 h)
  steps_on hs (step.Clear d to) typed h = λ a bases image.
      let one = both (may_set p.registers hs d) _ typed in (
        (refl, refl),
        lead_so _ (with_hold hs d Anything) (p.holds to) one.1
            (set_holds n refl hs d Anything Null (set_lt p.registers hs d one.0) tt h),
      )
  steps_on hs (step.Same x y so other) typed h = λ a bases image.
      let two = both (nat_lt y 8) _ (both (nat_lt x 8) _ typed).1 in
      let three = both (leads p hs so) (leads p hs other) two.1 in
      let c = chosen (reply_of n k (Op.Same x y)) bases a image v so other (λ e. lead_so v hs (p.holds so) three.0 h)
      (λ e. lead_so v hs (p.holds other) three.1 h) in ((refl, c.0), c.1)
  steps_on hs (step.IsNull r so other) typed h = λ a bases image.
      let one = both (nat_lt r 8) _ typed in
      let two = both (leads p hs so) _ one.1 in
      let null = λ (e : v r ≡ Null). ap (λ (x : Value). Reply.Num (bit (is_same x Null))) e in
      let c = chosen (reply_of n k (Op.IsNull r)) bases a image v so other (λ e. lead_so v hs (p.holds so) two.0 h)
      (λ e. lead_so v (with_hold hs r (found (hold_of hs r))) (p.holds other) two.1 (set_so v v hs r
      (found (hold_of hs r)) (found_has (hold_of hs r) (v r) (h r (ltb-true r 8 one.0)) (λ is. e (null is)))
      (λ y lt ne. refl) h)) in ((refl, c.0), c.1)
  steps_on hs (step.End done) typed h = tt
