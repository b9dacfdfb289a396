-- What an operation that creates and frees nothing leaves in the registers, and which of them own something then.
use Rattle.mk_jobs.proofs.Vocabulary.{Has, Hold, List, Public, Role, Value, all_give, ap, arith, cases_eq, false}
use Rattle.mk_jobs.proofs.Vocabulary.{false≢true, gives, hold_of, inl, inr, is_owed, is_own, is_pointer_to, refl}
use Rattle.mk_jobs.proofs.Vocabulary.{shares, sym, true, with_hold, ℕ, ◌<◌, ◌∙◌, ◌≡◌, ◌≢◌, ◌⊎◌}
use Rattle.mk_jobs.proofs.Holds.{HoldsIn, all_so, hold_other, hold_set, same_so, set_so}

-- What holds of a register that takes out what it points to
pub record Takes (role : ℕ → Role) (v v' : ℕ → Value) (x r : ℕ) (h : Hold) : Type 0 where
  pub is : r ≡ x
  pub below : r < 8
  pub same : v' r ≡ v r
  pub owed : is_owed h ≡ true
  pub public : (a : ℕ) → is_pointer_to a (v r) ≡ true → role a ≡ Public

-- The registers hold something between, of which the next point's is a part: what was owned still is, and one register
-- may take something.
pub record Goes (role : ℕ → Role) (v v' : ℕ → Value) (hs gs : List Hold) : Type 0 where
  pub middle : List Hold
  pub holds : HoldsIn v' middle
  pub leads : (r : ℕ) → shares (hold_of middle r) (hold_of gs r) ≡ true
  pub keeps : (r : ℕ) → is_own (hold_of hs r) ≡ true → (hold_of middle r ≡ hold_of hs r) × (r < 8 → v' r ≡ v r)
  pub place : ℕ
  pub fresh : (r : ℕ) → is_own (hold_of middle r) ≡ true
      → (hold_of middle r ≡ hold_of hs r) ⊎ Takes role v v' place r (hold_of middle r)

-- How the hold of one register changes
pub data Change (h g : Hold) : Type 0 where
  stays : g ≡ h → Change h g
  sets : is_own h ≡ false → is_own g ≡ false → Change h g
  takes : is_own h ≡ false → is_owed g ≡ true → Change h g

pub gives_shares : (h g : Hold) → gives h g ≡ true → shares h g ≡ true
gives_shares x0 x1 e = grind arith

pub leads_by : (hs gs : List Hold) → all_give gives hs gs ≡ true → (r : ℕ) → shares (hold_of hs r) (hold_of gs r) ≡ true
leads_by hs gs e r = gives_shares (hold_of hs r) (hold_of gs r) (all_so gives refl hs gs e r)

pub leads_shared_by : (hs gs : List Hold) → all_give shares hs gs ≡ true → (r : ℕ)
    → shares (hold_of hs r) (hold_of gs r) ≡ true
leads_shared_by hs gs e r = all_so shares refl hs gs e r

module _ {role : ℕ → Role} {v v' : ℕ → Value} {hs gs : List Hold} (holds : HoldsIn v hs) where
  -- where registers stay, and what they hold too,
  pub goes_quiet : ((r : ℕ) → r < 8 → v' r ≡ v r) → ((r : ℕ) → shares (hold_of hs r) (hold_of gs r) ≡ true)
      → Goes role v v' hs gs
  goes_quiet same leads = record {
    middle = hs;
    holds = same_so v v' hs same holds;
    leads = leads;
    keeps = λ r own. (refl, same r);
    place = 0;
    fresh = λ r own. inl refl;
  }

  -- where what one of them holds is known to be more,
  pub goes_change : (d : ℕ) (h : Hold) → d < 8 → Change (hold_of hs d) h → Has (v' d) h
      → ((r : ℕ) → r < 8 → v' r ≡ v r)
      → (is_own (hold_of hs d) ≡ false → is_owed h ≡ true → (a : ℕ) → is_pointer_to a (v d) ≡ true → role a ≡ Public)
      → ((r : ℕ) → shares (hold_of (with_hold hs d h) r) (hold_of gs r) ≡ true) → Goes role v v' hs gs
  goes_change d h lt change has same public leads = record {
    middle = with_hold hs d h;
    holds = set_so v v' hs d h has (λ r below ne. same r below) holds;
    leads = leads;
    keeps = λ r own. (kept change r own (cases_eq r d), same r);
    place = d;
    fresh = λ r own. new change r own (cases_eq r d);
  }
    where
      kept : Change (hold_of hs d) h → (r : ℕ) → is_own (hold_of hs r) ≡ true → ((r ≡ d) ⊎ (r ≢ d))
          → hold_of (with_hold hs d h) r ≡ hold_of hs r
      kept x0 r own (inr ne) = hold_other hs d r h ne
      kept (stays is) r own (inl e) = rw e (hold_set hs d h ∙ is)
      kept (sets old new) r own (inl e) = absurd (false≢true (sym old ∙ rw e at own))
      kept (takes old new) r own (inl e) = absurd (false≢true (sym old ∙ rw e at own))

      new : Change (hold_of hs d) h → (r : ℕ) → is_own (hold_of (with_hold hs d h) r) ≡ true → ((r ≡ d) ⊎ (r ≢ d))
          → (hold_of (with_hold hs d h) r ≡ hold_of hs r) ⊎ Takes role v v' d r (hold_of (with_hold hs d h) r)
      new x0 r own (inr ne) = inl (hold_other hs d r h ne)
      new (stays is) r own (inl e) = inl (rw e (hold_set hs d h ∙ is))
      new (sets old isnt) r own (inl e) =
          absurd (false≢true (sym isnt ∙ ap is_own (sym (hold_set hs d h)) ∙ rw e at own))
      new (takes old owed) r own (inl e) = inr (record {
        is = e;
        below = omega (arith, e, lt);
        same = same r (omega (arith, e, lt));
        owed = rw e (ap is_owed (hold_set hs d h) ∙ owed);
        public = rw e (public old owed);
      })

  -- and where one is set.
  pub goes_set : (d : ℕ) (h : Hold) → d < 8 → is_own (hold_of hs d) ≡ false → is_own h ≡ false → Has (v' d) h
      → ((r : ℕ) → r < 8 → r ≢ d → v' r ≡ v r)
      → ((r : ℕ) → shares (hold_of (with_hold hs d h) r) (hold_of gs r) ≡ true) → Goes role v v' hs gs
  goes_set d h lt old isnt has same leads = record {
    middle = with_hold hs d h;
    holds = set_so v v' hs d h has same holds;
    leads = leads;
    keeps = λ r own. (hold_other hs d r h (other r own), λ below. same r below (other r own));
    place = d;
    fresh = λ r own. inl (hold_other hs d r h (other' r own));
  }
    where
      other : (r : ℕ) → is_own (hold_of hs r) ≡ true → r ≢ d
      other r own e = false≢true (sym old ∙ rw e at own)

      other' : (r : ℕ) → is_own (hold_of (with_hold hs d h) r) ≡ true → r ≢ d
      other' r own e = false≢true (sym isnt ∙ ap is_own (sym (hold_set hs d h)) ∙ rw e at own)
