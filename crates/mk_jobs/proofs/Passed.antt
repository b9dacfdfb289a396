-- What a caller owns after an operation that creates and frees nothing: it may publish what it owns, and take what was
-- public.
use Rattle.mk_jobs.proofs.Vocabulary.{Bool, Hold, List, Private, Public, Role, Taken, Value, ap, arith, cases_Bool}
use Rattle.mk_jobs.proofs.Vocabulary.{false, false≢true, hold_of, if◌then◌else◌, inl, inr, is_owed, is_own}
use Rattle.mk_jobs.proofs.Vocabulary.{is_pointer_to, is_private, refl, shares, sym, true, ℕ, ◌<◌, ◌∙◌, ◌≡◌, ◌⊎◌}
use Rattle.mk_jobs.proofs.{Losses.Loses, Owners.{Finds, IsOwner, RolePasses, own_is, own_owed, own_private, own_public}}
use Rattle.mk_jobs.proofs.Owners.{own_role, private_not_owed, private_public, private_taken, publishes, taken_public}
use Rattle.mk_jobs.proofs.{Owners.{takes_out, unmoved}, Passing.{Goes, Takes}}

-- the role, by whether it is published, or taken
abbrev pub passed_role : Bool → Bool → ℕ → Role → Role
passed_role p t k r = if p then Public else if t then Taken k else r

record IsUnmoved (p t : Bool) (k : ℕ) (r r' : Role) : Type 0 where
  pub published : p ≡ false
  pub taken : t ≡ false
  pub is : r ≡ r'

still_private : (p t : Bool) (k : ℕ) (r : Role) → passed_role p t k r ≡ Private k → IsUnmoved p t k r (Private k)
still_private true t k r is = absurd (cc)
still_private false true k r is = absurd (cc)
still_private false false k r is = record { published = refl; taken = refl; is = is }

-- It was taken now, or before.
now_taken : (p t : Bool) (k : ℕ) (r : Role) → passed_role p t k r ≡ Taken k
    → (p ≡ false) × ((t ≡ true) ⊎ ((t ≡ false) × (r ≡ Taken k)))
now_taken true t k r is = absurd (cc)
now_taken false true k r is = (refl, inl refl)
now_taken false false k r is = (refl, inr (refl, is))

unpassed : (p t : Bool) (k : ℕ) (r : Role) → (p ≡ true → ⊥) → (t ≡ true → ⊥) → passed_role p t k r ≡ r
unpassed true t k r published was = absurd (published refl)
unpassed false true k r published was = absurd (was refl)
unpassed false false k r published was = refl

taken_either : (p t : Bool) (k : ℕ) (r : Role) → (p ≡ true → ⊥) → ((t ≡ true) ⊎ (r ≡ Taken k))
    → passed_role p t k r ≡ Taken k
taken_either true t k r published was = absurd (published refl)
taken_either false true k r published was = refl
taken_either false false k r published (inl e) = absurd (false≢true e)
taken_either false false k r published (inr is) = is

role_passes : (p t : Bool) (k : ℕ) (r : Role) → (p ≡ true → r ≡ Private k) → (t ≡ true → r ≡ Public)
    → RolePasses k r (passed_role p t k r)
role_passes true t k r private public = publishes (private refl) refl
role_passes false true k r private public = takes_out (public refl) refl
role_passes false false k r private public = unmoved refl

shares_private : (h g : Hold) → shares h g ≡ true → is_private g ≡ true → is_private h ≡ true
shares_private x0 x1 e private = grind arith

shares_owed : (h g : Hold) → shares h g ≡ true → is_owed g ≡ is_owed h
shares_owed x0 x1 e = grind arith

-- an own register of the next point was one before, or takes what was public
data OwnBefore (role : ℕ → Role) (v v' : ℕ → Value) (hs gs : List Hold) (x r : ℕ) : Type 0 where
  kept : is_own (hold_of hs r) ≡ true → v' r ≡ v r
      → (is_private (hold_of gs r) ≡ true → is_private (hold_of hs r) ≡ true)
      → (is_owed (hold_of gs r) ≡ is_owed (hold_of hs r)) → OwnBefore role v v' hs gs x r
  took : r ≡ x → r < 8 → v' r ≡ v r → is_owed (hold_of gs r) ≡ true
      → ((a : ℕ) → is_pointer_to a (v r) ≡ true → role a ≡ Public)
      → OwnBefore role v v' hs gs x r

module _ {role : ℕ → Role} {k : ℕ} {v v' : ℕ → Value} {hs gs : List Hold} (owner : IsOwner role k v hs)
    (goes : Goes role v v' hs gs) where
  own_middle : (r : ℕ) → is_own (hold_of gs r) ≡ true → is_own (hold_of goes.middle r) ≡ true
  own_middle r own =
      elim (own_is (hold_of gs r) own) [
        | inl private ↦ own_private _ (shares_private _ (hold_of gs r) (goes.leads r) private)
        | inr owed ↦ own_owed _ (sym (shares_owed _ (hold_of gs r) (goes.leads r)) ∙ owed)
      ]

  own_before : (r : ℕ) → is_own (hold_of gs r) ≡ true → OwnBefore role v v' hs gs goes.place r
  own_before r own = by (goes.fresh r (own_middle r own))
    where
      by : ((hold_of goes.middle r ≡ hold_of hs r) ⊎ Takes role v v' goes.place r (hold_of goes.middle r))
          → OwnBefore role v v' hs gs goes.place r
      by (inl same) =
          let was : is_own (hold_of hs r) ≡ true = rw same at (own_middle r own) in
          kept was ((goes.keeps r was).1 (owner.below r was)) (λ private. rw same at (shares_private _ (hold_of gs r)
          (goes.leads r) private)) (shares_owed _ (hold_of gs r) (goes.leads r) ∙ ap is_owed same)
      by (inr t) =
          took t.is t.below t.same (shares_owed _ (hold_of gs r) (goes.leads r) ∙ t.owed) t.public

  -- what was owed still is
  owed_after : (r : ℕ) → is_owed (hold_of hs r) ≡ true → is_owed (hold_of gs r) ≡ true
  owed_after r owed = shares_owed _ (hold_of gs r) (goes.leads r)
      ∙ ap is_owed (goes.keeps r (own_owed _ owed)).0 ∙ owed

  stays_there : (r a : ℕ) → is_own (hold_of hs r) ≡ true → is_pointer_to a (v r) ≡ true → is_pointer_to a (v' r) ≡ true
  stays_there r a own points = rw ((goes.keeps r own).1 (owner.below r own)) points

  abbrev Publishes : ℕ → Type 0
  Publishes a = Loses is_private v hs gs a

  abbrev Gets : ℕ → Type 0
  Gets a = Loses is_owed v gs hs a

  published_was : (a : ℕ) → Publishes a → role a ≡ Private k
  published_was a l = owner.privates l.place a l.held l.points

  got_was : (a : ℕ) → Gets a → role a ≡ Public
  got_was a l = by (own_before l.place (own_owed _ l.held))
    where
      by : OwnBefore role v v' hs gs goes.place l.place → role a ≡ Public
      by (kept was same private owed) = absurd (false≢true (sym l.lost ∙ sym owed ∙ l.held))
      by (took is below same owed public) = public a l.points

  module _ (P T : ℕ → Bool) (loses : (a : ℕ) → P a ≡ true → Publishes a) (lost : (a : ℕ) → Publishes a → P a ≡ true)
      (gets : (a : ℕ) → T a ≡ true → Gets a) (got : (a : ℕ) → Gets a → T a ≡ true) where
    abbrev now : ℕ → Role
    now a = passed_role (P a) (T a) k (role a)

    pub passes_roles : (a : ℕ) → RolePasses k (role a) (now a)
    passes_roles a = role_passes (P a) (T a) k (role a) (λ e. published_was a (loses a e)) (λ e. got_was a (gets a e))

    private_now : (r a : ℕ) → is_private (hold_of gs r) ≡ true → is_pointer_to a (v' r) ≡ true → now a ≡ Private k
    private_now r a private points = by (own_before r (own_private _ private))
      where
        by : OwnBefore role v v' hs gs goes.place r → now a ≡ Private k
        by (took is below same owed public) = absurd (private_not_owed _ private owed)
        by (kept own same was x0) =
            let before : is_pointer_to a (v r) ≡ true = rw same at points in
            let had = owner.privates r a (was private) before in
            unpassed (P a) (T a) k (role a) (λ e. other (loses a e) own before)
            (λ e. private_public had (got_was a (gets a e))) ∙ had
          where
            other : Publishes a → is_own (hold_of hs r) ≡ true → is_pointer_to a (v r) ≡ true → ⊥
            other l own before =
                let same : l.place ≡ r = owner.alone l.place r a (own_private _ l.held) own l.points before in
                false≢true (sym l.lost ∙ rw same private)

    owed_now : (r a : ℕ) → is_owed (hold_of gs r) ≡ true → is_pointer_to a (v' r) ≡ true → now a ≡ Taken k
    owed_now r a owes points = by (own_before r (own_owed _ owes))
      where
        by : OwnBefore role v v' hs gs goes.place r → now a ≡ Taken k
        by (kept own same x0 owed) =
            let had = owner.owed r a (sym owed ∙ owes) (rw same at points) in
            taken_either (P a) (T a) k (role a) (λ e. private_taken (published_was a (loses a e)) had) (inr had)
        by (took is below same owed public) =
            let had = public a (rw same at points) in
            taken_either (P a) (T a) k (role a) (λ e. private_public (published_was a (loses a e)) had)
            (inl (got a (record { place = r; held = owes; lost = fresh had; points = rw same at points })))
          where
            fresh : role a ≡ Public → is_owed (hold_of hs r) ≡ false
            fresh had = elim (cases_Bool (is_owed (hold_of hs r))) [
              | inl e ↦ absurd (taken_public (owner.owed r a e (rw same at points)) had)
              | inr e ↦ e
            ]

    own_apart : (r q a : ℕ) → is_own (hold_of gs r) ≡ true → is_own (hold_of gs q) ≡ true
        → is_pointer_to a (v' r) ≡ true → is_pointer_to a (v' q) ≡ true → r ≡ q
    own_apart r q a own other points also = by (own_before r own) (own_before q other)
      where
        by : OwnBefore role v v' hs gs goes.place r → OwnBefore role v v' hs gs goes.place q → r ≡ q
        by (kept own same x0 x1) (kept other same' x2 x3) =
            owner.alone r q a own other (rw same at points) (rw same' at also)
        by (kept own same x0 x1) (took is below same' x2 public) =
            absurd (own_public k (role a) (own_role owner r a own (rw same at points)) (public a (rw same' at also)))
        by (took is below same x0 public) (kept other same' x2 x3) =
            absurd (own_public k (role a) (own_role owner q a other (rw same' at also)) (public a (rw same at points)))
        by (took is x0 x1 x2 x3) (took is' x4 x5 x6 x7) = is ∙ sym is'

    finds_private : (a : ℕ) → now a ≡ Private k → Finds is_private v' gs a
    finds_private a is =
        let u = still_private (P a) (T a) k (role a) is in
        let f = owner.has_private a u.is in
        record {
          place = f.place;
          held = elim (cases_Bool (is_private (hold_of gs f.place))) [
            | inl e ↦ e
            | inr e ↦ absurd (false≢true (sym u.published
                ∙ lost a (record { place = f.place; held = f.held; lost = e; points = f.points })))
          ];
          points = stays_there f.place a (own_private _ f.held) f.points;
        }

    finds_taken : (a : ℕ) → now a ≡ Taken k → Finds is_owed v' gs a
    finds_taken a is = by (now_taken (P a) (T a) k (role a) is).1
      where
        by : ((T a ≡ true) ⊎ ((T a ≡ false) × (role a ≡ Taken k))) → Finds is_owed v' gs a
        by (inr was) =
            let f = owner.has_taken a was.1 in
            record {
              place = f.place;
              held = owed_after f.place f.held;
              points = stays_there f.place a (own_owed _ f.held) f.points;
            }
        by (inl e) = found_at (gets a e)
          where
            found_at : Gets a → Finds is_owed v' gs a
            found_at l = at (own_before l.place (own_owed _ l.held))
              where
                at : OwnBefore role v v' hs gs goes.place l.place → Finds is_owed v' gs a
                at (kept own same x0 owed) = absurd (false≢true (sym l.lost ∙ sym owed ∙ l.held))
                at (took is below same x0 x1) =
                    record { place = l.place; held = l.held; points = rw same l.points }

    own_below : (r : ℕ) → is_own (hold_of gs r) ≡ true → r < 8
    own_below r own = by (own_before r own)
      where
        by : OwnBefore role v v' hs gs goes.place r → r < 8
        by (kept was x0 x1 x2) = owner.below r was
        by (took x0 below x1 x2 x3) = below

    pub passes_owner : IsOwner now k v' gs
    passes_owner = record {
      below = own_below;
      privates = private_now;
      owed = owed_now;
      alone = own_apart;
      has_private = finds_private;
      has_taken = finds_taken;
    }
