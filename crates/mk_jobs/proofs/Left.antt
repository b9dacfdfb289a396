-- What one operation of a caller leaves of roles, and of what it owns.
use Rattle.mk_jobs.proofs.Vocabulary.{Bool, Fits, Gone, Hold, IsOf, IsSound, List, NeverState, Null, Num, Op, Owns}
use Rattle.mk_jobs.proofs.Vocabulary.{Private, Ptr, Reply, Role, Unborn, Value, World, after_free, after_op, all_give}
use Rattle.mk_jobs.proofs.Vocabulary.{allocation_at, ap, arith, bit, cases_Bool, eq-eqb, eqb-true, false, false≢true}
use Rattle.mk_jobs.proofs.Vocabulary.{free_reply, freed, freed_by, get_or-set_other, get_or-set_same, gives, hold_of}
use Rattle.mk_jobs.proofs.Vocabulary.{if◌then◌else◌, inl, inr, is_done, is_held_no_more, is_owed, is_own, is_pointer_to}
use Rattle.mk_jobs.proofs.Vocabulary.{is_private, length, refl, register_at, reply_of, role_after, subst, sym, true}
use Rattle.mk_jobs.proofs.{Vocabulary.{with_hold, ℕ, ◌*◌, ◌+◌, ◌<◌, ◌==◌, ◌∙◌, ◌≡◌, ◌≢◌}, Holds.{HoldsIn, lead_so}}
use Rattle.mk_jobs.proofs.{Holds.{same_so, set_so, shares_so}, Stepping.freed_has, Losses.{loses, lost_so}}
use Rattle.mk_jobs.proofs.{Owners.{IsOwner, RoleMoves, RolePasses, own_role, passes_on}, Passing.Goes}
use Rattle.mk_jobs.proofs.{Passed.{passed_role, passes_owner, passes_roles}, Granted.{freed_owner, freed_roles}}
use Rattle.mk_jobs.proofs.{Granted.{granted_owner, granted_roles, is_else}, Ways.{Way, creates, frees_own, is_quiet}}
use Rattle.mk_jobs.proofs.{Ways.passes, Allocations.{fits_free, fits_new, fits_pass, gone_passes, is_gone}}
use Rattle.mk_jobs.proofs.Allocations.{quiet_frees_none, quiet_keeps, quiet_single}
use Rattle.mk_never.specs.declared.operations.Op.TheVariants as op

quiet_role : (w : World) (k : ℕ) (o : Op) (hs gs : List Hold) (a : ℕ) → is_quiet o ≡ true → role_after w k o hs gs a
    ≡ passed_role (is_held_no_more is_private w.n k a 0 hs gs) (is_held_no_more is_owed w.n k a 0 gs hs) k (w.role a)
quiet_role w k (op.New d ty true) hs gs a e = refl
quiet_role w k (op.New d ty false) hs gs a e = absurd (false≢true e)
quiet_role w k (op.Free r) hs gs a e = absurd (false≢true e)
quiet_role w k _ hs gs a e = refl

pub record Left (w : World) (k : ℕ) (o : Op) (hs gs : List Hold) : Type 0 where
  pub roles : (a : ℕ) → RoleMoves k (w.role a) (role_after w k o hs gs a)
  pub owner : IsOwner (role_after w k o hs gs) k (register_at (after_op w.n k o) k) gs
  pub holds : HoldsIn (register_at (after_op w.n k o) k) gs
  pub fits : (a : ℕ) → Fits (after_op w.n k o) a (role_after w k o hs gs a)
  pub frees : (a : ℕ) → bit (is_gone (role_after w k o hs gs a)) ≡ bit (is_gone (w.role a)) + freed_by a w.n k o
  pub single : reply_of w.n k o ≡ Reply.Double → ⊥

-- owners with the same roles
pub same_owner : {role role' : ℕ → Role} {k : ℕ} {v : ℕ → Value} {hs : List Hold} → ((a : ℕ) → role' a ≡ role a)
    → IsOwner role k v hs → IsOwner role' k v hs
same_owner same owner = record {
  below = owner.below;
  privates = λ r a private points. same a ∙ owner.privates r a private points;
  owed = λ r a owes points. same a ∙ owner.owed r a owes points;
  alone = owner.alone;
  has_private = λ a is. owner.has_private a (sym (same a) ∙ is);
  has_taken = λ a is. owner.has_taken a (sym (same a) ∙ is);
}

own_not_gone : (k : ℕ) (r : Role) → IsOf k r → is_gone r ≡ false
own_not_gone k x0 own = grind arith

own_is_not_gone : (k : ℕ) (r : Role) → IsOf k r → r ≡ Gone → ⊥
own_is_not_gone k r own is = rw is at own

-- how often it is freed by a Free
abbrev counted : Value → NeverState → ℕ → ℕ
counted v n a = if is_pointer_to a v then (if is_done (free_reply n v) then 1 else 0) else 0

counted_so : (n : NeverState) (v : Value) (k a : ℕ) (r : Role) → (is_pointer_to a v ≡ true → IsOf k r) → Fits n a r
    → bit (is_gone (if is_pointer_to a v then Gone else r)) ≡ bit (is_gone r) + counted v n a
counted_so n Null k a r own fits = omega arith
counted_so n (Num m) k a r own fits = omega arith
counted_so n (Ptr b ty offset) k a r own fits = by (b == a) refl ((allocation_at n b).freed) refl
  where
    by : (t : Bool) → (b == a) ≡ t → (f : Bool) → (allocation_at n b).freed ≡ f
        → bit (is_gone (if t then Gone else r))
        ≡ bit (is_gone r) + (if t then (if is_done (if f then Reply.Double else Reply.Done) then 1 else 0) else 0)
    by false e f g = omega arith
    by true e false g = omega (arith, ap bit (own_not_gone k r (own e)))
    by true e true g = absurd (own_is_not_gone k r (own e) (fits.freed (rw (eqb-true b a e) at g)))

single_so : (n : NeverState) (v : Value) (k : ℕ)
    → ((a : ℕ) → is_pointer_to a v ≡ true → (allocation_at n a).freed ≡ false) → free_reply n v ≡ Reply.Double → ⊥
single_so n Null k held double = cc
single_so n (Num m) k held double = cc
single_so n (Ptr b ty offset) k held double = by ((allocation_at n b).freed) (held b (eq-eqb b b refl)) double
  where
    by : (f : Bool) → f ≡ false → (if f then Reply.Double else Reply.Done) ≡ Reply.Double → ⊥
    by true e is = false≢true (sym e)
    by false e is = cc

unfreed : (n : NeverState) (k a : ℕ) (r : Role) → IsOf k r → Fits n a r → (allocation_at n a).freed ≡ false
unfreed n k a r own fits = elim (cases_Bool ((allocation_at n a).freed)) [
  | inl e ↦ absurd (own_is_not_gone k r own (fits.freed e))
  | inr e ↦ e
]

module _ (w : World) (k : ℕ) (hs gs : List Hold) (h : HoldsIn (register_at w.n k) hs)
    (owner : IsOwner w.role k (register_at w.n k) hs) (fits : (a : ℕ) → Fits w.n a (w.role a))
    (sounds : (r : ℕ) → IsSound w.n (register_at w.n k r)) (room : 8 * k + 7 < length w.n.registers) where
  abbrev v : ℕ → Value
  v = register_at w.n k

  left_by_new : (d ty : ℕ) → d < 8 → is_own (hold_of hs d) ≡ false → all_give gives (with_hold hs d (Owns ty)) gs ≡ true
      → Left w k (op.New d ty false) hs gs
  left_by_new d ty lt free e =
      let N = length w.n.allocations in
      let m = after_op w.n k (op.New d ty false) in
      let here : register_at m k d ≡ Ptr N ty 0 =
      get_or-set_same w.n.registers (8 * k + d) (Ptr N ty 0) Null (omega (arith, lt, room)) in
      let same : (r : ℕ) → r < 8 → r ≢ d → register_at m k r ≡ v r =
      λ r below ne. get_or-set_other w.n.registers (8 * k + d) (8 * k + r) (Ptr N ty 0) Null
      (λ f. ne (omega (arith, f))) in
      let unborn : w.role N ≡ Unborn = (fits N).unborn (omega arith) in
      let other = is_else hs gs d (Owns ty) e in
      record {
        roles = granted_roles owner d N ty lt free other here same unborn;
        owner = granted_owner owner d N ty lt free other here same unborn;
        holds = lead_so (register_at m k) (with_hold hs d (Owns ty)) gs e (set_so v (register_at m k) hs d (Owns ty)
            (record { number = N; is = here }) same h);
        fits = λ a. fits_new w.n m ty k a (w.role a) refl (fits a);
        frees = λ a. new_counts (a == N) (w.role a) (λ t. rw (eqb-true a N t) unborn);
        single = λ double. (cc double);
      }
    where
      new_counts : (b : Bool) (r : Role) → (b ≡ true → r ≡ Unborn)
          → bit (is_gone (if b then Private k else r)) ≡ bit (is_gone r) + 0
      new_counts true r unborn = omega (arith, ap (λ (x : Role). bit (is_gone x)) (unborn refl))
      new_counts false r unborn = omega arith

  free_registers : (x : Value) (r : ℕ) → register_at (after_free w.n x) k r ≡ v r
  free_registers Null r = refl
  free_registers (Num m) r = refl
  free_registers (Ptr a ty offset) r = refl

  left_by_free : (r : ℕ) → r < 8 → is_own (hold_of hs r) ≡ true
      → all_give gives (with_hold hs r (freed (hold_of hs r))) gs ≡ true → Left w k (op.Free r) hs gs
  left_by_free r lt own e =
      let m = after_free w.n (v r) in
      let same : (x : ℕ) → x < 8 → register_at m k x ≡ v x = λ x below. free_registers (v r) x in
      let other = is_else hs gs r (freed (hold_of hs r)) e in
      record {
        roles = freed_roles owner r own other same;
        owner = freed_owner owner r own other same;
        holds = same_so v (register_at m k) gs same (lead_so v (with_hold hs r (freed (hold_of hs r))) gs e
            (set_so v v hs r (freed (hold_of hs r)) (freed_has (hold_of hs r) (v r) (h r lt)) (λ x below ne. refl) h));
        fits = λ a. fits_free w.n (v r) a (w.role a) (sounds r) (fits a);
        frees = λ a. counted_so w.n (v r) k a (w.role a) (own_role owner r a own) (fits a);
        single = single_so w.n (v r) k
            (λ a points. unfreed w.n k a (w.role a) (own_role owner r a own points) (fits a));
      }

  left_by_pass : (o : Op) → is_quiet o ≡ true → Goes w.role v (register_at (after_op w.n k o) k) hs gs
      → Left w k o hs gs
  left_by_pass o quiet goes =
      let P = λ (a : ℕ). is_held_no_more is_private w.n k a 0 hs gs in
      let T = λ (a : ℕ). is_held_no_more is_owed w.n k a 0 gs hs in
      let is = λ (a : ℕ). quiet_role w k o hs gs a quiet in
      let passes : (a : ℕ) → RolePasses k (w.role a) (role_after w k o hs gs a) =
      λ a. subst (RolePasses k (w.role a)) (sym (is a)) (passes_roles owner goes P T
      (λ b. loses is_private w.n k b hs gs) (λ b. lost_so is_private w.n k b refl hs gs)
      (λ b. loses is_owed w.n k b gs hs) (λ b. lost_so is_owed w.n k b refl gs hs) a) in
      record {
        roles = λ a. passes_on (passes a);
        owner = same_owner is (passes_owner owner goes P T
            (λ b. loses is_private w.n k b hs gs) (λ b. lost_so is_private w.n k b refl hs gs)
            (λ b. loses is_owed w.n k b gs hs) (λ b. lost_so is_owed w.n k b refl gs hs));
        holds = λ r below. shares_so _ (hold_of goes.middle r) (hold_of gs r) (goes.leads r) (goes.holds r below);
        fits = λ a. fits_pass (passes a) (quiet_keeps w.n k o quiet) (fits a);
        frees = λ a. omega (arith, ap bit (gone_passes (passes a)), quiet_frees_none a w.n k o quiet);
        single = quiet_single w.n k o quiet;
      }

  pub leaves : (o : Op) → Way w.role w.n k hs gs o → Left w k o hs gs
  leaves o (creates d ty is lt free e) = subst (λ (x : Op). Left w k x hs gs) (sym is) (left_by_new d ty lt free e)
  leaves o (frees_own r is lt own e) = subst (λ (x : Op). Left w k x hs gs) (sym is) (left_by_free r lt own e)
  leaves o (passes quiet goes) = left_by_pass o quiet goes
