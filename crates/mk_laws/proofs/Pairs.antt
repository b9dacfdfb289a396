-- Two lists that are changed at one place together, and facts on images under changes of what they read.
use Rattle.std.proofs.Common.{set}
use Rattle.mk_laws.proofs.Vocabulary.{Carries, Flight, IsMet, IsSound, List, NeverState, Ptr, Stage, Value, ℕ}
use Rattle.mk_laws.proofs.Vocabulary.{address_of, allocation_at, ap, arith, cases_eq, d_of, eq-eqb, false, get_or}
use Rattle.mk_laws.proofs.Vocabulary.{get_or-set_other, get_or-set_same, get_or_append_left, image_of, inl, inr}
use Rattle.mk_laws.proofs.Vocabulary.{is_past_probe, is_put, is_unmapped, length, ne_eqb, refl, shown, true, words_of}
use Rattle.mk_laws.proofs.{Vocabulary.{◌++◌, ◌+◌, ◌<◌, ◌≡◌, ◌≢◌}, ImagesMoves.is_bare}

pub set_both : {A B : Type 0} (P : A → B → Type 0) (xs : List A) (ys : List B) (k i : ℕ) (x dx : A) (y dy : B)
    → k < length xs → k < length ys → (i ≡ k → P x y) → (i ≢ k → P (get_or xs i dx) (get_or ys i dy))
    → P (get_or (set xs k x) i dx) (get_or (set ys k y) i dy)
set_both P xs ys k i x dx y dy lx ly new old = elim (cases_eq i k) [
  | inl e ↦ rw e (rw (get_or-set_same xs k x dx lx) (rw (get_or-set_same ys k y dy ly) (new e)))
  | inr ne ↦ rw (get_or-set_other xs k i x dx ne) (rw (get_or-set_other ys k i y dy ne) (old ne))
]

-- a stage that carries nothing
pub bare_carries : (bs : List ℕ) (f : Flight) (a b d : Value) → is_bare f.stage ≡ true → Carries bs f a b d
bare_carries bs f a b d h = grind (arith, is_bare)

pub put_carries : (bs : List ℕ) (f : Flight) (a b d : Value) → f.stage ≡ Stage.Put → Carries bs f a b d
put_carries bs f a b d h = grind arith

pub bare_unprobed : (s : Stage) → is_bare s ≡ true → is_past_probe s ≡ false
bare_unprobed s h = grind arith

-- what a flight shows of a register
pub shows_plain : (f : Flight) (r x : ℕ) → is_put f.stage ≡ false → shown f r x ≡ x
shows_plain f r x h = grind arith

pub shows_owed : (f : Flight) (x : ℕ) → f.stage ≡ Stage.Put → shown f (d_of f.op) x ≡ f.loaded
shows_owed f x h = rw h (rw (eq-eqb (d_of f.op) (d_of f.op) refl))

pub shows_other : (f : Flight) (r x : ℕ) → f.stage ≡ Stage.Put → d_of f.op ≢ r → shown f r x ≡ x
shows_other f r x h ne = rw h (rw (ne_eqb (d_of f.op) r ne))

pub bare_owes_nothing : (s : Stage) → is_bare s ≡ true → is_put s ≡ false
bare_owes_nothing s h = grind arith

-- images with one more base
pub image_more : (n : NeverState) (bs more : List ℕ) (v : Value) → length bs ≡ length n.allocations → IsSound n v
    → image_of (bs ++ more) v ≡ image_of bs v
image_more n bs more (Ptr a t o) e s = ap (λ x. address_of (x + o))
    (get_or_append_left bs more 0 a (let lt : a < length n.allocations = s.0 in omega (arith, e)))
image_more n bs more _ e s = refl

-- what is carried, if the values are others whose images are these
pub carries_same : {bs : List ℕ} (cs : List ℕ) {f : Flight} {a b d : Value} (a2 b2 d2 : Value)
    → image_of cs a2 ≡ image_of bs a
    → image_of cs b2 ≡ image_of bs b → image_of cs d2 ≡ image_of bs d → Carries bs f a b d → Carries cs f a2 b2 d2
carries_same cs a2 b2 d2 ea eb ed h = grind arith

-- an access that is met, if lengths and what is unmapped stay
pub met_same : (n m : NeverState) (v : Value) (i : ℕ) → ((a : ℕ) → length (words_of m a) ≡ length (words_of n a))
    → ((a : ℕ) → is_unmapped (allocation_at n a) ≡ false → is_unmapped (allocation_at m a) ≡ false)
    → IsMet n v i → IsMet m v i
met_same n m v i l u h = grind arith
