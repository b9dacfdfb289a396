-- Lists of seats, and lists of others' events.
use Rattle.std.proofs.Common.{⊎_elim}
use Rattle.mk_laws.proofs.Vocabulary.{Bool, Caller, Config, Event, Host, List, Marker, Seat, ℕ, ap, arith, cases_eq}
use Rattle.mk_laws.proofs.Vocabulary.{eq-eqb, eqb-true, false, false_from_ne_true, if◌then◌else◌, inl, inr, is_one_of}
use Rattle.mk_laws.proofs.Vocabulary.{list_any-append, ltb-true, or_cases, refl, subst, suc, sym, true, zero, [], ◌++◌}
use Rattle.mk_laws.proofs.Vocabulary.{◌<◌, ◌||◌, ◌∙◌, ◌∷◌, ◌≡◌, ◌⊎◌}
use Rattle.mk_core.specs.History.{AreOfOthers, is_same_seat}
use Rattle.mk_words.specs.States.{Has, HasAll, all_seats, callers_below, markers_below, without_seat}

pub same_seat : (a b : Seat) → is_same_seat a b ≡ true → a ≡ b
same_seat x0 x1 h = grind (arith, eqb-true)

pub same_self : (a : Seat) → is_same_seat a a ≡ true
same_self (Caller k) = eq-eqb k k refl
same_self (Marker k) = eq-eqb k k refl
same_self Host = refl

or_true : (b : Bool) → (b || true) ≡ true
or_true true = refl
or_true false = refl

-- membership

pub has_first : (s : Seat) (xs : List Seat) → Has (s ∷ xs) s
has_first s xs = ap (λ b. b || is_one_of xs s) (same_self s)

pub has_later : (x : Seat) (xs : List Seat) (s : Seat) → Has xs s → Has (x ∷ xs) s
has_later x xs s h = ap (λ b. is_same_seat s x || b) h ∙ or_true (is_same_seat s x)

pub has_here : (x : Seat) (xs : List Seat) (s : Seat) → Has (x ∷ xs) s → (s ≡ x) ⊎ Has xs s
has_here x xs s h = grind (arith, same_seat, or_cases)

pub has_left : (xs ys : List Seat) (s : Seat) → Has xs s → Has (xs ++ ys) s
has_left xs ys s h = list_any-append (is_same_seat s) xs ys ∙ ap (λ b. b || is_one_of ys s) h

pub has_right : (xs ys : List Seat) (s : Seat) → Has ys s → Has (xs ++ ys) s
has_right xs ys s h = grind (arith, list_any-append, or_true)

pub has_either : (xs ys : List Seat) (s : Seat) → Has (xs ++ ys) s → Has xs s ⊎ Has ys s
has_either xs ys s h = or_cases (is_one_of xs s) (is_one_of ys s) (sym (list_any-append (is_same_seat s) xs ys) ∙ h)

pub only_one : (x s : Seat) → Has (x ∷ []) s → s ≡ x
only_one x s h = ⊎_elim (λ (t : s ≡ x). t) (λ (t : Has [] s). cc) (has_here x [] s h)

pub has_not : (xs : List Seat) (s : Seat) → (Has xs s → ⊥) → is_one_of xs s ≡ false
has_not xs s out = false_from_ne_true (is_one_of xs s) out

pub not_both : (xs : List Seat) (s : Seat) → is_one_of xs s ≡ false → Has xs s → ⊥
not_both xs s out h = let e : true ≡ false = sym h ∙ out in cc

-- a list without a seat

pub without_less : (x : Seat) (xs : List Seat) (s : Seat) → Has (without_seat x xs) s → Has xs s
without_less x [] s h = h
without_less x (y ∷ ys) s h = by (is_same_seat x y) (λ u. without_less x ys s u) h
  where
    by : (b : Bool) → (Has (without_seat x ys) s → Has ys s)
        → Has (if b then without_seat x ys else y ∷ without_seat x ys) s → Has (y ∷ ys) s
    by true next h = has_later y ys s (next h)
    by false next h = grind (arith, has_first, has_later, has_here)

pub without_it : (x : Seat) (xs : List Seat) → Has (without_seat x xs) x → ⊥
without_it x [] h = cc
without_it x (y ∷ ys) h = by (is_same_seat x y) refl (λ u. without_it x ys u) h
  where
    by : (b : Bool) → is_same_seat x y ≡ b → (Has (without_seat x ys) x → ⊥)
        → Has (if b then without_seat x ys else y ∷ without_seat x ys) x → ⊥
    by true is next h = next h
    by false is next h = grind (arith, same_self, has_here)

pub without_keeps : (x : Seat) (xs : List Seat) (s : Seat) → is_same_seat x s ≡ false → Has xs s
    → Has (without_seat x xs) s
without_keeps x [] s ne h = h
without_keeps x (y ∷ ys) s ne h = by (is_same_seat x y) refl (λ u. without_keeps x ys s ne u) (has_here y ys s h)
  where
    by : (b : Bool) → is_same_seat x y ≡ b → (Has ys s → Has (without_seat x ys) s) → (s ≡ y) ⊎ Has ys s
        → Has (if b then without_seat x ys else y ∷ without_seat x ys) s
    by x0 is next x3 = grind (arith, has_first, has_later)

-- events of others

pub others_append : (seats : List Seat) (xs ys : List Event) → AreOfOthers seats xs → AreOfOthers seats ys
    → AreOfOthers seats (xs ++ ys)
unfolding AreOfOthers
others_append seats [] ys a b = b
others_append seats (x ∷ xs) ys a b = (a.0, others_append seats xs ys a.1 b)

pub others_none : (seats : List Seat) → AreOfOthers seats []
unfolding AreOfOthers
others_none seats = tt

pub others_one : (seats : List Seat) (e : Event) → (Has seats e.seat → ⊥) → AreOfOthers seats (e ∷ [])
unfolding AreOfOthers
others_one seats e out = (has_not seats e.seat out, tt)

pub others_fewer : (seats fewer : List Seat) (es : List Event) → ((s : Seat) → Has fewer s → Has seats s)
    → AreOfOthers seats es → AreOfOthers fewer es
unfolding AreOfOthers
others_fewer seats fewer [] sub a = tt
others_fewer seats fewer (e ∷ es) sub a =
    (has_not fewer e.seat (λ h. not_both seats e.seat a.0 (sub e.seat h)), others_fewer seats fewer es sub a.1)

pub others_own : (seats : List Seat) (s : Seat) (es : List Event) → Has seats s → AreOfOthers seats es
    → AreOfOthers (s ∷ []) es
others_own seats s es has a = grind (arith, others_fewer, only_one)

pub others_nobody : (es : List Event) → AreOfOthers [] es
unfolding AreOfOthers
others_nobody [] = tt
others_nobody (e ∷ es) = (refl, others_nobody es)

-- all seats

has_callers : (n k : ℕ) → k < n → Has (callers_below n) (Caller k)
has_callers zero k lt = absurd (omega arith)
has_callers (suc n) k lt = elim (cases_eq k n) [
  | inl e ↦ subst (λ (i : ℕ). Has (Caller i ∷ callers_below n) (Caller k)) e (has_first (Caller k) (callers_below n))
  | inr ne ↦ has_later (Caller n) (callers_below n) (Caller k) (has_callers n k (omega arith))
]

has_markers : (n k : ℕ) → k < n → Has (markers_below n) (Marker k)
has_markers zero k lt = absurd (omega arith)
has_markers (suc n) k lt = elim (cases_eq k n) [
  | inl e ↦ subst (λ (i : ℕ). Has (Marker i ∷ markers_below n) (Marker k)) e (has_first (Marker k) (markers_below n))
  | inr ne ↦ has_later (Marker n) (markers_below n) (Marker k) (has_markers n k (omega arith))
]

pub has_all : (c : Config) → HasAll c (all_seats c)
has_all c (Caller k) h = grind (arith, has_later, has_left, has_callers, ltb-true)
has_all c (Marker k) h = grind (arith, has_later, has_right, has_markers, ltb-true)
has_all c Host h = has_first Host (callers_below c.callers ++ markers_below 8)
