-- What callers may rely on after each kind of operation.
use Rattle.mk_heap.proofs.Below.Laws.Vocabulary.{List, Null, Value, ap, cases_eq, get_or, global_at, inl, inr}
use Rattle.mk_heap.proofs.Below.Laws.Vocabulary.{no_allocation}
use Rattle.mk_heap.proofs.Below.Laws.Vocabulary.{subst, sym, word_at, ℕ, ◌∙◌, ◌≡◌, ◌≢◌, ◌⊎◌}
use Rattle.mk_never.specs.NeverHeap.{Allocation}
use Rattle.mk_jobs.{specs.Keeping.{Covers, IsShown, Private, Public, Role, Taken, World}, proofs.Chains.{word_of}}
use Rattle.mk_jobs.proofs.{Having.{IsPassed, IsShownOf, Relies}, Heaps.{Frees, Stores}, Puts.{Puts, PutsTwo}}

-- What is shown stays shown, and what is passed stays passed.
abbrev pub Onward : (ℕ → Role) → (ℕ → Role) → Type 0
Onward f g = (a : ℕ) → (IsShown (f a) → IsShown (g a)) × (IsPassed (f a) → IsPassed (g a))

onward : (f g : ℕ → Role) (a : ℕ) → g a ≡ f a → (IsShown (f a) → IsShown (g a)) × (IsPassed (f a) → IsPassed (g a))
onward f g a same = ((λ h. subst IsShown (sym same) h), (λ h. subst IsPassed (sym same) h))

pub onward_same : {f g : ℕ → Role} → ((a : ℕ) → g a ≡ f a) → Onward f g
onward_same {f} {g} same a = onward f g a (same a)

-- An object of a caller's own is shared or freed,
pub onward_own : {f g : ℕ → Role} {b k : ℕ} {r : Role} → f b ≡ Private k → Puts b r f g → Onward f g
onward_own {f} {g} {b} own puts a = by (cases_eq a b)
  where
    hidden : a ≡ b → IsShown (f a) → ⊥
    hidden e h = subst IsShown (ap f e ∙ own) h

    by : (a ≡ b) ⊎ (a ≢ b) → (IsShown (f a) → IsShown (g a)) × (IsPassed (f a) → IsPassed (g a))
    by (inl e) = ((λ h. absurd (hidden e h)), (λ h. absurd (hidden e h.0)))
    by (inr ne) = onward f g a (puts.others a ne)

-- two of them are,
pub onward_two : {f g : ℕ → Role} {b c k : ℕ} → f b ≡ Private k → f c ≡ Private k → PutsTwo b c f g → Onward f g
onward_two {f} {g} {b} {c} own own' puts a = by (cases_eq a b) (cases_eq a c)
  where
    by : (a ≡ b) ⊎ (a ≢ b) → (a ≡ c) ⊎ (a ≢ c) → (IsShown (f a) → IsShown (g a)) × (IsPassed (f a) → IsPassed (g a))
    by (inl e) or =
        ((λ h. absurd (subst IsShown (ap f e ∙ own) h)), (λ h. absurd (subst IsShown (ap f e ∙ own) h.0)))
    by (inr ne) (inl e) =
        ((λ h. absurd (subst IsShown (ap f e ∙ own') h)), (λ h. absurd (subst IsShown (ap f e ∙ own') h.0)))
    by (inr ne) (inr ne') = onward f g a (puts.others a ne ne')

-- or a shared one is taken out.
pub onward_taken : {f g : ℕ → Role} {b k : ℕ} → f b ≡ Public → Puts b (Taken k) f g → Onward f g
onward_taken {f} {g} {b} public puts a = by (cases_eq a b)
  where
    by : (a ≡ b) ⊎ (a ≢ b) → (IsShown (f a) → IsShown (g a)) × (IsPassed (f a) → IsPassed (g a))
    by (inl e) = ((λ h. subst IsShown (sym (ap g e ∙ puts.here)) tt), (λ h. absurd (h.1 (ap f e ∙ public))))
    by (inr ne) = onward f g a (puts.others a ne)

module _ {Final : ℕ → Value → Type 0} {ty j : ℕ} {w w' : World} where
  -- All that callers know stays.
  pub relies_covered : Covers w w' → Relies Final ty j w w'
  relies_covered covers = record {
    founder = λ e. covers.globals 0;
    root = λ some. covers.globals 0;
    known = λ a h. record { shown = covers.stays a h.shown; is_of = covers.types a h.shown ∙ h.is_of };
    passed = λ a h. (covers.stays a h.0, λ e. h.1 (covers.public a e));
    words = λ a i h final. word_of w.n w'.n a i (covers.words a h.shown);
  }

  -- A word is stored that isn't final.
  pub relies_stored : {b i : ℕ} {v : Value} → Stores b i v w.n w'.n → Onward w.role w'.role
      → (IsShownOf w ty b → Final i (word_at w.n b i) → ⊥) → Relies Final ty j w w'
  relies_stored {b} {i} stores on changes = record {
    founder = λ e. stores.globals 0;
    root = λ some. stores.globals 0;
    known = λ a h. record { shown = (on a).0 h.shown; is_of = stores.types a ∙ h.is_of };
    passed = λ a h. (on a).1 h;
    words = λ a l h final. by a l (cases_eq a b) (cases_eq l i) h final;
  }
    where
      by : (a l : ℕ) → (a ≡ b) ⊎ (a ≢ b) → (l ≡ i) ⊎ (l ≢ i) → IsShownOf w ty a → Final l (word_at w.n a l)
          → word_at w'.n a l ≡ word_at w.n a l
      by a l (inr ne) or h final = word_of w.n w'.n a l (stores.others a ne)
      by a l (inl e) (inr ne) h final =
          subst (λ (x : ℕ). word_at w'.n x l ≡ word_at w.n x l) (sym e) (stores.beside l ne)
      by a l (inl e) (inl e') h final =
          absurd (changes (subst (IsShownOf w ty) e h) (subst (λ (x : ℕ). Final x (word_at w.n b x)) e'
          (subst (λ (x : ℕ). Final l (word_at w.n x l)) e final)))

  -- An object is freed.
  pub relies_freed : Frees w.n w'.n → Onward w.role w'.role → Relies Final ty j w w'
  relies_freed frees on = record {
    founder = λ e. frees.globals 0;
    root = λ some. frees.globals 0;
    known = λ a h. record { shown = (on a).0 h.shown; is_of = frees.types a ∙ h.is_of };
    passed = λ a h. (on a).1 h;
    words = λ a i h final. word_of w.n w'.n a i (frees.words a);
  }

  -- The first caller sets the global.
  pub relies_placed : j ≡ 0 → global_at w.n 0 ≡ Null → w'.n.allocations ≡ w.n.allocations → Onward w.role w'.role
      → Relies Final ty j w w'
  relies_placed first none same on = record {
    founder = λ e. absurd (e first);
    root = λ some. absurd (some none);
    known = λ a h. record {
      shown = (on a).0 h.shown;
      is_of = ap (λ (xs : List Allocation). (get_or xs a no_allocation).ty) same ∙ h.is_of;
    };
    passed = λ a h. (on a).1 h;
    words = λ a i h final. ap (λ (xs : List Allocation). get_or (get_or xs a no_allocation).words i Null) same;
  }
