-- What registers hold, from one list of holds to the next.
use Rattle.mk_jobs.proofs.Vocabulary.{Anything, Bool, Has, Hold, IsOfKind, IsPointerTo, List, MayPoint, Owes, Owns}
use Rattle.mk_jobs.proofs.Vocabulary.{Points, To, Value, [], all_give, ap, cases_eq, eqb-true, false, false≢true}
use Rattle.mk_jobs.proofs.Vocabulary.{gives, hold_of, inl, inr, refl, shares, subst, suc, sym, true, with_hold, zero}
use Rattle.mk_jobs.proofs.Vocabulary.{ℕ, ◌&&◌, ◌<◌, ◌∷◌, ◌≡◌, ◌≢◌, ◌⊎◌}

pub both : (a b : Bool) → (a && b) ≡ true → (a ≡ true) × (b ≡ true)
both true b e = (refl, e)
both false b e = absurd (false≢true e)

pub pointer_may : (t : ℕ) (v : Value) → IsPointerTo t v → IsOfKind v (To t 0)
pointer_may t v h = subst (λ (x : Value). IsOfKind x (To t 0)) (sym h.is) (refl, refl)

may_as : (t u : ℕ) (v : Value) → t ≡ u → IsOfKind v (To t 0) → IsOfKind v (To u 0)
may_as t u v e h = subst (λ (x : ℕ). IsOfKind v (To x 0)) e h

points_as : (t u : ℕ) (v : Value) → t ≡ u → IsPointerTo t v → IsPointerTo u v
points_as t u v e h = subst (λ (x : ℕ). IsPointerTo x v) e h

pub gives_so : (v : Value) (h g : Hold) → gives h g ≡ true → Has v h → Has v g
gives_so v h Anything e has = tt
gives_so v (MayPoint t) (MayPoint u) e has = may_as t u v (eqb-true t u e) has
gives_so v (Points t) (MayPoint u) e has = may_as t u v (eqb-true t u e) (pointer_may t v has)
gives_so v (Points t) (Points u) e has = points_as t u v (eqb-true t u e) has
gives_so v (Owns t) (Owns u) e has = points_as t u v (eqb-true t u e) has
gives_so v (Owes t) (Owes u) e has = may_as t u v (eqb-true t u e) has
gives_so v _ _ e has = absurd (false≢true e)

pub shares_so : (v : Value) (h g : Hold) → shares h g ≡ true → Has v h → Has v g
shares_so v (Owns t) Anything e has = tt
shares_so v (Owns t) (MayPoint u) e has = may_as t u v (eqb-true t u e) (pointer_may t v has)
shares_so v (Owns t) (Points u) e has = points_as t u v (eqb-true t u e) has
shares_so v (Owns t) (Owns u) e has = gives_so v (Owns t) (Owns u) e has
shares_so v (Owns t) (Owes u) e has = gives_so v (Owns t) (Owes u) e has
shares_so v Anything g e has = gives_so v Anything g e has
shares_so v (MayPoint t) g e has = gives_so v (MayPoint t) g e has
shares_so v (Points t) g e has = gives_so v (Points t) g e has
shares_so v (Owes t) g e has = gives_so v (Owes t) g e has

pub all_so : (f : Hold → Hold → Bool) → f Anything Anything ≡ true → (hs gs : List Hold) → all_give f hs gs ≡ true
    → (r : ℕ) → f (hold_of hs r) (hold_of gs r) ≡ true
all_so f none [] [] e r = none
all_so f none (h ∷ hs) [] e zero = (both (f h Anything) (all_give f hs []) e).0
all_so f none (h ∷ hs) [] e (suc r) = all_so f none hs [] (both (f h Anything) (all_give f hs []) e).1 r
all_so f none [] (g ∷ gs) e zero = (both (f Anything g) (all_give f [] gs) e).0
all_so f none [] (g ∷ gs) e (suc r) = all_so f none [] gs (both (f Anything g) (all_give f [] gs) e).1 r
all_so f none (h ∷ hs) (g ∷ gs) e zero = (both (f h g) (all_give f hs gs) e).0
all_so f none (h ∷ hs) (g ∷ gs) e (suc r) = all_so f none hs gs (both (f h g) (all_give f hs gs) e).1 r

abbrev pub HoldsIn : (ℕ → Value) → List Hold → Type 0
HoldsIn v hs = (r : ℕ) → r < 8 → Has (v r) (hold_of hs r)

pub lead_so : (v : ℕ → Value) (hs gs : List Hold) → all_give gives hs gs ≡ true → HoldsIn v hs → HoldsIn v gs
lead_so v hs gs e h r lt = gives_so (v r) (hold_of hs r) (hold_of gs r) (all_so gives refl hs gs e r) (h r lt)

pub share_so : (v : ℕ → Value) (hs gs : List Hold) → all_give shares hs gs ≡ true → HoldsIn v hs → HoldsIn v gs
share_so v hs gs e h r lt = shares_so (v r) (hold_of hs r) (hold_of gs r) (all_so shares refl hs gs e r) (h r lt)

pub hold_set : (hs : List Hold) (d : ℕ) (h : Hold) → hold_of (with_hold hs d h) d ≡ h
hold_set [] zero h = refl
hold_set [] (suc d) h = hold_set [] d h
hold_set (x ∷ hs) zero h = refl
hold_set (x ∷ hs) (suc d) h = hold_set hs d h

pub hold_other : (hs : List Hold) (d r : ℕ) (h : Hold) → r ≢ d → hold_of (with_hold hs d h) r ≡ hold_of hs r
hold_other [] zero zero h ne = absurd (ne refl)
hold_other [] zero (suc r) h ne = refl
hold_other [] (suc d) zero h ne = refl
hold_other [] (suc d) (suc r) h ne = hold_other [] d r h (λ e. ne (ap suc e))
hold_other (x ∷ hs) zero zero h ne = absurd (ne refl)
hold_other (x ∷ hs) zero (suc r) h ne = refl
hold_other (x ∷ hs) (suc d) zero h ne = refl
hold_other (x ∷ hs) (suc d) (suc r) h ne = hold_other hs d r h (λ e. ne (ap suc e))

pub set_so : (f g : ℕ → Value) (hs : List Hold) (d : ℕ) (h : Hold) → Has (g d) h → ((r : ℕ) → r < 8 → r ≢ d
    → g r ≡ f r) → HoldsIn f hs → HoldsIn g (with_hold hs d h)
set_so f g hs d h here others before r lt = by (cases_eq r d)
  where
    by : ((r ≡ d) ⊎ (r ≢ d)) → Has (g r) (hold_of (with_hold hs d h) r)
    by (inl e) =
        subst (λ (x : ℕ). Has (g x) (hold_of (with_hold hs d h) x)) (sym e)
        (subst (Has (g d)) (sym (hold_set hs d h)) here)
    by (inr ne) =
        subst (Has (g r)) (sym (hold_other hs d r h ne))
        (subst (λ (x : Value). Has x (hold_of hs r)) (sym (others r lt ne)) (before r lt))

pub same_so : (f g : ℕ → Value) (hs : List Hold) → ((r : ℕ) → r < 8 → g r ≡ f r) → HoldsIn f hs → HoldsIn g hs
same_so f g hs same before r lt = subst (λ (x : Value). Has x (hold_of hs r)) (sym (same r lt)) (before r lt)

-- Where nothing is held, the registers may hold anything.
pub none_held : (v : ℕ → Value) {hs : List Hold} → hs ≡ [] → HoldsIn v hs
none_held v e = subst (HoldsIn v) (sym e) (λ r lt. tt)
