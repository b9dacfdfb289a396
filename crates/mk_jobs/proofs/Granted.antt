-- What a caller owns after an object is created, and after one is freed.
use Rattle.mk_jobs.proofs.Vocabulary.{Bool, Gone, Hold, IsOf, List, Owns, Private, Ptr, Role, Taken, Unborn, Value}
use Rattle.mk_jobs.proofs.Vocabulary.{all_give, ap, arith, cases_eq, cond, eq-eqb, eqb-true, false, false≢true, freed}
use Rattle.mk_jobs.proofs.Vocabulary.{gives, hold_of, if◌then◌else◌, inl, inr, is_owed, is_own, is_pointer_to}
use Rattle.mk_jobs.proofs.Vocabulary.{is_private, ne_eqb, refl, sym, true, with_hold, ℕ, ◌<◌, ◌==◌, ◌∙◌, ◌≡◌, ◌≢◌}
use Rattle.mk_jobs.proofs.{Holds.{all_so, hold_other, hold_set}, Owners.{Finds, IsOwner, RoleMoves, frees, grants}}
use Rattle.mk_jobs.proofs.Owners.{own_owed, own_private, own_role, own_unborn, passes_on, private_taken, unmoved}

gives_private : (h g : Hold) → gives h g ≡ true → is_private g ≡ is_private h
gives_private x0 x1 e = grind arith

gives_owed : (h g : Hold) → gives h g ≡ true → is_owed g ≡ is_owed h
gives_owed x0 x1 e = grind arith

own_flags : (h g : Hold) → is_private g ≡ is_private h → is_owed g ≡ is_owed h → is_own g ≡ true → is_own h ≡ true
own_flags x0 x1 private owed e = grind arith

freed_own : (h : Hold) → is_own (freed h) ≡ false
freed_own x0 = grind arith

-- All registers but one hold what they held, as far as it is owned.
pub record IsElse (hs gs : List Hold) (d : ℕ) (h : Hold) : Type 0 where
  pub private : (r : ℕ) → r ≢ d → is_private (hold_of gs r) ≡ is_private (hold_of hs r)
  pub owed : (r : ℕ) → r ≢ d → is_owed (hold_of gs r) ≡ is_owed (hold_of hs r)
  pub here_private : is_private (hold_of gs d) ≡ is_private h
  pub here_owed : is_owed (hold_of gs d) ≡ is_owed h

pub is_else : (hs gs : List Hold) (d : ℕ) (h : Hold) → all_give gives (with_hold hs d h) gs ≡ true → IsElse hs gs d h
is_else hs gs d h e =
    let so = all_so gives refl (with_hold hs d h) gs e in
    record {
      private = λ r ne. gives_private _ _ (so r) ∙ ap is_private (hold_other hs d r h ne);
      owed = λ r ne. gives_owed _ _ (so r) ∙ ap is_owed (hold_other hs d r h ne);
      here_private = gives_private _ _ (so d) ∙ ap is_private (hold_set hs d h);
      here_owed = gives_owed _ _ (so d) ∙ ap is_owed (hold_set hs d h);
    }

else_own : {hs gs : List Hold} {d : ℕ} {h : Hold} → IsElse hs gs d h → (r : ℕ) → r ≢ d → is_own (hold_of gs r) ≡ true
    → is_own (hold_of hs r) ≡ true
else_own other r ne own = own_flags _ _ (other.private r ne) (other.owed r ne) own

granted_role : (b : Bool) (k : ℕ) (r : Role) → (b ≡ true → r ≡ Unborn)
    → RoleMoves k r (if b then Private k else r)
granted_role true k r unborn = grants (unborn refl) refl
granted_role false k r unborn = passes_on (unmoved refl)

freed_role : (b : Bool) (k : ℕ) (r : Role) → (b ≡ true → IsOf k r) → RoleMoves k r (if b then Gone else r)
freed_role true k r own = frees (own refl) refl
freed_role false k r own = passes_on (unmoved refl)

chosen_false : (b : Bool) (x r : Role) → (b ≡ true → ⊥) → (if b then x else r) ≡ r
chosen_false true x r isnt = absurd (isnt refl)
chosen_false false x r isnt = refl

not_gone : (b : Bool) (r x : Role) → (if b then Gone else r) ≡ x → (Gone ≡ x → ⊥) → (b ≡ false) × (r ≡ x)
not_gone true r x is isnt = absurd (isnt is)
not_gone false r x is isnt = (refl, is)

module _ {role : ℕ → Role} {k : ℕ} {v v' : ℕ → Value} {hs gs : List Hold} (owner : IsOwner role k v hs) (d : ℕ) where
  module _ (N ty : ℕ) (lt : d < 8) (free : is_own (hold_of hs d) ≡ false) (other : IsElse hs gs d (Owns ty))
      (here : v' d ≡ Ptr N ty 0) (same : (r : ℕ) → r < 8 → r ≢ d → v' r ≡ v r) (unborn : role N ≡ Unborn) where
    abbrev born : ℕ → Role
    born a = if a == N then Private k else role a

    pub granted_roles : (a : ℕ) → RoleMoves k (role a) (born a)
    granted_roles a = granted_role (a == N) k (role a) (λ e. rw (eqb-true a N e) unborn)

    born_is : (a : ℕ) → a ≡ N → born a ≡ Private k
    born_is a e = ap (λ (b : Bool). cond b (Private k) (role a)) (eq-eqb a N e)

    born_else : (a : ℕ) → IsOf k (role a) → born a ≡ role a
    born_else a own = chosen_false (a == N) (Private k) (role a) (λ e. own_unborn k (role a) own
        (rw (eqb-true a N e) unborn))

    -- the register that is set has the new object, which no other has
    here_is : (a : ℕ) → is_pointer_to a (v' d) ≡ true → a ≡ N
    here_is a points = let to : (N == a) ≡ true = rw here at points in sym (eqb-true N a to)

    kept : (r : ℕ) → r ≢ d → is_own (hold_of gs r) ≡ true → v' r ≡ v r
    kept r ne own = same r (owner.below r (else_own other r ne own)) ne

    role_there : (r a : ℕ) → r ≢ d → is_own (hold_of gs r) ≡ true → is_pointer_to a (v' r) ≡ true → IsOf k (role a)
    role_there r a ne own points = own_role owner r a (else_own other r ne own) (rw (kept r ne own) at points)

    not_new : (r a : ℕ) → r ≢ d → is_own (hold_of gs r) ≡ true → is_pointer_to a (v' r) ≡ true
        → is_pointer_to a (v' d) ≡ true → ⊥
    not_new r a ne own points also =
        own_unborn k (role a) (role_there r a ne own points) (rw (here_is a also) unborn)

    places : (r : ℕ) → is_own (hold_of hs r) ≡ true → r ≢ d
    places r own e = false≢true (sym free ∙ rw e at own)

    pub granted_owner : IsOwner born k v' gs
    granted_owner = record {
      below = λ r own. elim (cases_eq r d) [
        | inl e ↦ omega (arith, e, lt)
        | inr ne ↦ owner.below r (else_own other r ne own)
      ];
      privates = λ r a private points. elim (cases_eq r d) [
        | inl e ↦ born_is a (here_is a (rw e at points))
        | inr ne ↦ born_else a (role_there r a ne (own_private _ private) points)
            ∙ owner.privates r a (sym (other.private r ne) ∙ private) (rw (kept r ne (own_private _ private)) at points)
      ];
      owed = λ r a owes points. elim (cases_eq r d) [
        | inl e ↦ absurd (false≢true (sym other.here_owed ∙ rw e at owes))
        | inr ne ↦ born_else a (role_there r a ne (own_owed _ owes) points)
            ∙ owner.owed r a (sym (other.owed r ne) ∙ owes) (rw (kept r ne (own_owed _ owes)) at points)
      ];
      alone = λ r q a own own' points also. elim (cases_eq r d) [
        | inl e ↦ elim (cases_eq q d) [
          | inl e' ↦ e ∙ sym e'
          | inr ne' ↦ absurd (not_new q a ne' own' also (rw e at points))
        ]
        | inr ne ↦ elim (cases_eq q d) [
          | inl e' ↦ absurd (not_new r a ne own points (rw e' at also))
          | inr ne' ↦ owner.alone r q a (else_own other r ne own) (else_own other q ne' own')
              (rw (kept r ne own) at points) (rw (kept q ne' own') at also)
        ]
      ];
      has_private = λ a is. elim (cases_eq a N) [
        | inl e ↦ record { place = d; held = other.here_private; points = rw here (eq-eqb N a (sym e)) }
        | inr ne ↦ old_private a (sym (ap (λ (b : Bool). cond b (Private k) (role a)) (ne_eqb a N ne)) ∙ is)
      ];
      has_taken = λ a is. elim (cases_eq a N) [
        | inl e ↦ absurd (private_taken (born_is a e) is)
        | inr ne ↦ old_taken a (sym (ap (λ (b : Bool). cond b (Private k) (role a)) (ne_eqb a N ne)) ∙ is)
      ];
    }
      where
        old_private : (a : ℕ) → role a ≡ Private k → Finds is_private v' gs a
        old_private a is =
            let f = owner.has_private a is in
            let ne = places f.place (own_private _ f.held) in
            record {
              place = f.place;
              held = other.private f.place ne ∙ f.held;
              points = rw (same f.place (owner.below f.place (own_private _ f.held)) ne) f.points;
            }

        old_taken : (a : ℕ) → role a ≡ Taken k → Finds is_owed v' gs a
        old_taken a is =
            let f = owner.has_taken a is in
            let ne = places f.place (own_owed _ f.held) in
            record {
              place = f.place;
              held = other.owed f.place ne ∙ f.held;
              points = rw (same f.place (owner.below f.place (own_owed _ f.held)) ne) f.points;
            }

  -- A Free of what is owned
  module _ (own_here : is_own (hold_of hs d) ≡ true) (other : IsElse hs gs d (freed (hold_of hs d)))
      (same : (r : ℕ) → r < 8 → v' r ≡ v r) where
    abbrev left : ℕ → Role
    left a = if is_pointer_to a (v d) then Gone else role a

    pub freed_roles : (a : ℕ) → RoleMoves k (role a) (left a)
    freed_roles a = freed_role (is_pointer_to a (v d)) k (role a) (own_role owner d a own_here)

    elsewhere : (r : ℕ) → is_own (hold_of gs r) ≡ true → r ≢ d
    elsewhere r own e =
        false≢true (sym (freed_own (hold_of hs d)) ∙ own_flags _ (hold_of gs d) other.here_private other.here_owed
        (rw e at own))

    was : (r : ℕ) → is_own (hold_of gs r) ≡ true → is_own (hold_of hs r) ≡ true
    was r own = else_own other r (elsewhere r own) own

    before : (r a : ℕ) → is_own (hold_of gs r) ≡ true → is_pointer_to a (v' r) ≡ true → is_pointer_to a (v r) ≡ true
    before r a own points = rw (same r (owner.below r (was r own))) at points

    left_else : (r a : ℕ) → is_own (hold_of gs r) ≡ true → is_pointer_to a (v' r) ≡ true → left a ≡ role a
    left_else r a own points = chosen_false (is_pointer_to a (v d)) Gone (role a) (λ e. elsewhere r own
        (owner.alone r d a (was r own) own_here (before r a own points) e))

    pub freed_owner : IsOwner left k v' gs
    freed_owner = record {
      below = λ r own. owner.below r (was r own);
      privates = λ r a private points.
          let own = own_private _ private in
          left_else r a own points
          ∙ owner.privates r a (sym (other.private r (elsewhere r own)) ∙ private) (before r a own points);
      owed = λ r a owes points.
          let own = own_owed _ owes in
          left_else r a own points
          ∙ owner.owed r a (sym (other.owed r (elsewhere r own)) ∙ owes) (before r a own points);
      alone = λ r q a own own' points also. owner.alone r q a (was r own) (was q own') (before r a own points)
          (before q a own' also);
      has_private = λ a is.
          let u = not_gone (is_pointer_to a (v d)) (role a) (Private k) is (λ e. (cc e)) in
          let f = owner.has_private a u.1 in
          let ne = λ (e : f.place ≡ d). false≢true (sym u.0 ∙ rw e at f.points) in
          record {
            place = f.place;
            held = other.private f.place ne ∙ f.held;
            points = rw (same f.place (owner.below f.place (own_private _ f.held))) f.points;
          };
      has_taken = λ a is.
          let u = not_gone (is_pointer_to a (v d)) (role a) (Taken k) is (λ e. (cc e)) in
          let f = owner.has_taken a u.1 in
          let ne = λ (e : f.place ≡ d). false≢true (sym u.0 ∙ rw e at f.points) in
          record {
            place = f.place;
            held = other.owed f.place ne ∙ f.held;
            points = rw (same f.place (owner.below f.place (own_owed _ f.held))) f.points;
          };
    }
