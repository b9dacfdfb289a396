-- What a caller owns: each allocation with a role of its own is in exactly one of its registers, held so.
use Rattle.mk_jobs.proofs.Vocabulary.{Bool, Gone, Hold, IsOf, IsShown, List, Private, Public, Role, Taken, Unborn}
use Rattle.mk_jobs.proofs.Vocabulary.{Value, [], arith, false, false≢true, hold_of, inl, inr, is_owed, is_own}
use Rattle.mk_jobs.proofs.Vocabulary.{is_pointer_to, is_private, refl, subst, sym, true, ℕ, ◌<◌, ◌∙◌, ◌≡◌, ◌≢◌, ◌⊎◌}

-- A register points to it and is held so.
pub record Finds (f : Hold → Bool) (v : ℕ → Value) (hs : List Hold) (a : ℕ) : Type 0 where
  pub place : ℕ
  pub held : f (hold_of hs place) ≡ true
  pub points : is_pointer_to a (v place) ≡ true

pub record IsOwner (role : ℕ → Role) (k : ℕ) (v : ℕ → Value) (hs : List Hold) : Type 0 where
  pub below : (r : ℕ) → is_own (hold_of hs r) ≡ true → r < 8
  pub privates : (r a : ℕ) → is_private (hold_of hs r) ≡ true → is_pointer_to a (v r) ≡ true → role a ≡ Private k
  pub owed : (r a : ℕ) → is_owed (hold_of hs r) ≡ true → is_pointer_to a (v r) ≡ true → role a ≡ Taken k
  pub alone : (r q a : ℕ) → is_own (hold_of hs r) ≡ true → is_own (hold_of hs q) ≡ true
      → is_pointer_to a (v r) ≡ true → is_pointer_to a (v q) ≡ true → r ≡ q
  pub has_private : (a : ℕ) → role a ≡ Private k → Finds is_private v hs a
  pub has_taken : (a : ℕ) → role a ≡ Taken k → Finds is_owed v hs a

pub own_private : (h : Hold) → is_private h ≡ true → is_own h ≡ true
own_private x0 e = grind arith

pub own_owed : (h : Hold) → is_owed h ≡ true → is_own h ≡ true
own_owed x0 e = grind arith

pub own_is : (h : Hold) → is_own h ≡ true → (is_private h ≡ true) ⊎ (is_owed h ≡ true)
own_is x0 e = grind arith

pub private_not_owed : (h : Hold) → is_private h ≡ true → is_owed h ≡ true → ⊥
private_not_owed x0 e f = grind arith

pub not_private : (h : Hold) → is_own h ≡ false → is_private h ≡ false
not_private x0 e = grind arith

pub not_owed : (h : Hold) → is_own h ≡ false → is_owed h ≡ false
not_owed x0 e = grind arith

-- What an own object's role can't be
pub private_taken : {r : Role} {k j : ℕ} → r ≡ Private k → r ≡ Taken j → ⊥
private_taken e f = cc

pub private_public : {r : Role} {k : ℕ} → r ≡ Private k → r ≡ Public → ⊥
private_public e f = cc

pub taken_public : {r : Role} {k : ℕ} → r ≡ Taken k → r ≡ Public → ⊥
taken_public e f = cc

-- What holds of both for the allocation in a register that is owned
pub own_role : {role : ℕ → Role} {k : ℕ} {v : ℕ → Value} {hs : List Hold} → IsOwner role k v hs → (r a : ℕ)
    → is_own (hold_of hs r) ≡ true → is_pointer_to a (v r) ≡ true → IsOf k (role a)
own_role {role} {k} {v} {hs} owner r a own points =
    elim (own_is (hold_of hs r) own) [
      | inl private ↦ subst (IsOf k) (sym (owner.privates r a private points)) refl
      | inr owed ↦ subst (IsOf k) (sym (owner.owed r a owed points)) refl
    ]

pub own_unborn : (k : ℕ) (r : Role) → IsOf k r → r ≡ Unborn → ⊥
own_unborn k r own is = rw is at own

pub own_public : (k : ℕ) (r : Role) → IsOf k r → r ≡ Public → ⊥
own_public k r own is = rw is at own

-- A caller that holds nothing of its own owns nothing, and the other way round.
pub record IsIdle (hs : List Hold) : Type 0 where
  pub none : (r : ℕ) → is_own (hold_of hs r) ≡ false

pub idle_owner : {role : ℕ → Role} {k : ℕ} {v : ℕ → Value} (v' : ℕ → Value) {hs : List Hold} (gs : List Hold)
    → IsIdle hs → IsIdle gs → IsOwner role k v hs → IsOwner role k v' gs
idle_owner v' {hs} gs idle still owner = record {
  below = λ r own. absurd (false≢true (sym (still.none r) ∙ own));
  privates = λ r a private points. absurd (false≢true (sym (still.none r) ∙ own_private (hold_of gs r) private));
  owed = λ r a owed points. absurd (false≢true (sym (still.none r) ∙ own_owed (hold_of gs r) owed));
  alone = λ r q a own other points also. absurd (false≢true (sym (still.none r) ∙ own));
  has_private = λ a is. let f = owner.has_private a is in
      absurd (false≢true (sym (idle.none f.place) ∙ own_private (hold_of hs f.place) f.held));
  has_taken = λ a is. let f = owner.has_taken a is in
      absurd (false≢true (sym (idle.none f.place) ∙ own_owed (hold_of hs f.place) f.held));
}

pub nothing_idle : IsIdle []
nothing_idle = record { none = λ r. refl }

-- How an operation of caller k that creates and frees nothing may change a role,
pub data RolePasses (k : ℕ) (r r' : Role) : Type 0 where
  unmoved : r' ≡ r → RolePasses k r r'
  publishes : r ≡ Private k → r' ≡ Public → RolePasses k r r'
  takes_out : r ≡ Public → r' ≡ Taken k → RolePasses k r r'

-- and how any may
pub data RoleMoves (k : ℕ) (r r' : Role) : Type 0 where
  passes_on : RolePasses k r r' → RoleMoves k r r'
  grants : r ≡ Unborn → r' ≡ Private k → RoleMoves k r r'
  frees : IsOf k r → r' ≡ Gone → RoleMoves k r r'

-- What it leaves to another caller
pub record LeavesRole (j : ℕ) (r r' : Role) : Type 0 where
  pub own : IsOf j r → r' ≡ r
  pub before : IsOf j r' → r' ≡ r
  pub shown : IsShown r → IsShown r'

of_one : (j k : ℕ) (r : Role) → IsOf j r → IsOf k r → j ≡ k
of_one j k (Private i) one other = sym one ∙ other
of_one j k (Taken i) one other = sym one ∙ other
of_one j k Unborn one other = absurd one
of_one j k Public one other = absurd one
of_one j k Gone one other = absurd one

pub leaves_role : {j k : ℕ} (r r' : Role) → j ≢ k → RoleMoves k r r' → LeavesRole j r r'
leaves_role r r' ne (passes_on (unmoved is)) = record { own = λ o. is; before = λ o. is; shown = λ s. rw is s }
leaves_role r r' ne (grants was is) = record {
  own = λ o. absurd (rw was at o);
  before = λ o. absurd (ne (sym (rw is at o)));
  shown = λ s. absurd (rw was at s);
}
leaves_role r r' ne (passes_on (publishes was is)) = record {
  own = λ o. absurd (ne (sym (rw was at o)));
  before = λ o. absurd (rw is at o);
  shown = λ s. rw is tt;
}
leaves_role r r' ne (passes_on (takes_out was is)) = record {
  own = λ o. absurd (rw was at o);
  before = λ o. absurd (ne (sym (rw is at o)));
  shown = λ s. rw is tt;
}
leaves_role {j} {k} r r' ne (frees was is) = record {
  own = λ o. absurd (ne (of_one j k r o was));
  before = λ o. absurd (rw is at o);
  shown = λ s. rw is tt;
}

-- What another caller owns stays so.
pub others_owner : {role role' : ℕ → Role} {j : ℕ} {v v' : ℕ → Value} {hs : List Hold}
    → ((a : ℕ) → LeavesRole j (role a) (role' a)) → ((r : ℕ) → r < 8 → v' r ≡ v r) → IsOwner role j v hs
    → IsOwner role' j v' hs
others_owner {role} {role'} {j} {v} {v'} {hs} leaves same owner = record {
  below = owner.below;
  privates = λ r a private points.
      let was = owner.privates r a private (before r a (own_private _ private) points) in
      (leaves a).own (subst (IsOf j) (sym was) refl) ∙ was;
  owed = λ r a owed points.
      let was = owner.owed r a owed (before r a (own_owed _ owed) points) in
      (leaves a).own (subst (IsOf j) (sym was) refl) ∙ was;
  alone = λ r q a own other points also. owner.alone r q a own other (before r a own points) (before q a other also);
  has_private = λ a is.
      let f = owner.has_private a (sym ((leaves a).before (subst (IsOf j) (sym is) refl)) ∙ is) in
      record { place = f.place; held = f.held; points = after_it f.place a (own_private _ f.held) f.points };
  has_taken = λ a is.
      let f = owner.has_taken a (sym ((leaves a).before (subst (IsOf j) (sym is) refl)) ∙ is) in
      record { place = f.place; held = f.held; points = after_it f.place a (own_owed _ f.held) f.points };
}
  where
    before : (r a : ℕ) → is_own (hold_of hs r) ≡ true → is_pointer_to a (v' r) ≡ true → is_pointer_to a (v r) ≡ true
    before r a own points = rw (same r (owner.below r own)) at points

    after_it : (r a : ℕ) → is_own (hold_of hs r) ≡ true → is_pointer_to a (v r) ≡ true → is_pointer_to a (v' r) ≡ true
    after_it r a own points = rw (same r (owner.below r own)) points
