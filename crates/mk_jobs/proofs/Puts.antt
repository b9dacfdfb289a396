-- What an operation makes of who knows an allocation: one role is put in place of another.
use Rattle.mk_heap.proofs.Below.Laws.Vocabulary.{Bool, Ptr, Value, arith, cond, eq-eqb, false, if◌then◌else◌, ne_eqb}
use Rattle.mk_heap.proofs.Below.Laws.Vocabulary.{ap, refl}
use Rattle.mk_heap.proofs.Below.Laws.Vocabulary.{subst, sym, true, ℕ, ◌==◌, ◌∙◌, ◌≡◌, ◌≢◌, ◌||◌}
use Rattle.mk_jobs.specs.{Keeping.{Public, Role}, Laws.is_pointer_to}

-- Allocation b now has this role, and all others have theirs.
pub record Puts (b : ℕ) (r : Role) (f g : ℕ → Role) : Type 0 where
  pub here : g b ≡ r
  pub others : (a : ℕ) → a ≢ b → g a ≡ f a

-- Two objects are shared at once.
pub record PutsTwo (b c : ℕ) (f g : ℕ → Role) : Type 0 where
  pub first : g b ≡ Public
  pub second : g c ≡ Public
  pub others : (a : ℕ) → a ≢ b → a ≢ c → g a ≡ f a

pub points_to : (b ty : ℕ) (v : Value) → v ≡ Ptr b ty 0 → is_pointer_to b v ≡ true
points_to b ty v is = subst (λ (x : Value). is_pointer_to b x ≡ true) (sym is) (eq-eqb b b refl)

points_elsewhere : (a b ty : ℕ) (v : Value) → v ≡ Ptr b ty 0 → a ≢ b → is_pointer_to a v ≡ false
points_elsewhere a b ty v is ne =
    subst (λ (x : Value). is_pointer_to a x ≡ false) (sym is) (ne_eqb b a (λ e. ne (sym e)))

-- where the register with this pointer is the one that tells,
pub puts_at : {b ty : ℕ} {v : Value} (r : Role) {f g : ℕ → Role} → v ≡ Ptr b ty 0
    → ((a : ℕ) → g a ≡ (if is_pointer_to a v then r else f a)) → Puts b r f g
puts_at {b} {ty} {v} r {f} is roles = record {
  here = roles b ∙ ap (λ (x : Bool). cond x r (f b)) (points_to b ty v is);
  others = λ a ne. roles a ∙ ap (λ (x : Bool). cond x r (f a)) (points_elsewhere a b ty v is ne);
}

pub puts_one : {b ty : ℕ} {v : Value} (r : Role) {f g : ℕ → Role} → v ≡ Ptr b ty 0
    → ((a : ℕ) → g a ≡ (if is_pointer_to a v || false then r else f a)) → Puts b r f g
puts_one {v = v} r {f} is roles =
    puts_at r is (λ a. roles a ∙ ap (λ (x : Bool). cond x r (f a)) (or_none (is_pointer_to a v)))
  where
    or_none : (b : Bool) → (b || false) ≡ b
    or_none x0 = grind arith

-- or one of two,
pub puts_two : {b c ty uy : ℕ} {v y : Value} {f g : ℕ → Role} → v ≡ Ptr b ty 0 → y ≡ Ptr c uy 0
    → ((a : ℕ) → g a ≡ (if is_pointer_to a v || (is_pointer_to a y || false) then Public else f a)) → PutsTwo b c f g
puts_two {b} {c} {ty} {uy} {v} {y} {f} is is' roles = record {
  first = roles b ∙ ap (λ (x : Bool). cond (x || (is_pointer_to b y || false)) Public (f b)) (points_to b ty v is);
  second = roles c ∙ last (is_pointer_to c v) (is_pointer_to c y) _ (points_to c uy y is');
  others = λ a ne ne'. roles a ∙ none (is_pointer_to a v) (is_pointer_to a y) _ (points_elsewhere a b ty v is ne)
      (points_elsewhere a c uy y is' ne');
}
  where
    last : (s t : Bool) (r : Role) → t ≡ true → cond (s || (t || false)) Public r ≡ Public
    last x0 x1 r e = grind arith

    none : (s t : Bool) (r : Role) → s ≡ false → t ≡ false → cond (s || (t || false)) Public r ≡ r
    none x0 x1 r e e' = grind arith

-- or it is a new one.
pub puts_new : {b : ℕ} (r : Role) {f g : ℕ → Role} → ((a : ℕ) → g a ≡ (if a == b then r else f a)) → Puts b r f g
puts_new {b} r {f} roles = record {
  here = roles b ∙ ap (λ (x : Bool). cond x r (f b)) (eq-eqb b b refl);
  others = λ a ne. roles a ∙ ap (λ (x : Bool). cond x r (f a)) (ne_eqb a b ne);
}
