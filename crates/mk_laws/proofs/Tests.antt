-- Tests that still hold if their parts do.
use Rattle.mk_laws.proofs.Vocabulary.{Bool, List, MarkerState as Marker, Option, ℕ, all_below, all_below-at, and_from}
use Rattle.mk_laws.proofs.Vocabulary.{and_parts, ap, arith, eq-eqb, eqb-true, false, has_bit, has_bit_without}
use Rattle.mk_laws.proofs.Vocabulary.{if◌then◌else◌, is_attending, is_some_and, no_bit, none_attends, not, outside}
use Rattle.mk_laws.proofs.Vocabulary.{refl, slice_index_or, suc, sym, true, without, zero, [], ◌&&◌, ◌<◌, ◌==◌, ◌||◌}
use Rattle.mk_laws.proofs.Vocabulary.{◌∙◌, ◌∷◌, ◌≡◌}
use Rattle.mk_core.proofs.WordBits.{zero_from_bits}

pub or_on : (a b x y : Bool) → (a ≡ true → x ≡ true) → (b ≡ true → y ≡ true) → (a || b) ≡ true → (x || y) ≡ true
or_on a b x y f g h = grind arith

pub and_on : (a b x y : Bool) → (a ≡ true → x ≡ true) → (b ≡ true → y ≡ true) → (a && b) ≡ true → (x && y) ≡ true
and_on a b x y f g h = let p = and_parts a b h in and_from x y (f p.0) (g p.1)

pub if_on : (t a b x y : Bool) → (t ≡ true → a ≡ true → x ≡ true) → (t ≡ false → b ≡ true → y ≡ true)
    → (if t then a else b) ≡ true → (if t then x else y) ≡ true
if_on t a b x y f g h = grind arith

pub some_on : {A : Type 0} (p q : A → Bool) (o : Option A) → ((x : A) → p x ≡ true → q x ≡ true)
    → is_some_and p o ≡ true → is_some_and q o ≡ true
some_on p q o f h = grind arith

pub all_below_from : (n : ℕ) (test : ℕ → Bool) → ((k : ℕ) → k < n → test k ≡ true) → all_below n test ≡ true
unfolding all_below
all_below_from zero test h = refl
all_below_from (suc n) test h =
    and_from _ (test n) (all_below_from n test (λ k lt. h k (omega arith))) (h n (omega arith))

pub all_below_on : (n : ℕ) (p q : ℕ → Bool) → ((k : ℕ) → k < n → p k ≡ true → q k ≡ true) → all_below n p ≡ true
    → all_below n q ≡ true
all_below_on n p q f h = all_below_from n q (λ k lt. f k lt (all_below-at n k p h lt))

-- Bits that are all in one word are in one that has its bits.
pub without_on : (bits m n : ℕ) → ((k : ℕ) → has_bit m k ≡ true → has_bit n k ≡ true) → (without bits m == 0) ≡ true
    → (without bits n == 0) ≡ true
without_on bits m n grow h = eq-eqb _ 0 (zero_from_bits _ (λ k. has_bit_without bits n k ∙ (grind (arith, none))))
  where
    none : (k : ℕ) → (has_bit bits k && not (has_bit m k)) ≡ false
    none k = sym (has_bit_without bits m k) ∙ no_bit _ k (eqb-true _ 0 h)

-- each marker of a list
pub none_from : (xs : List Marker) → ((k : ℕ) → is_attending (slice_index_or xs k outside).presence ≡ false)
    → none_attends xs ≡ true
none_from [] h = refl
none_from (x ∷ xs) h = and_from _ (none_attends xs) (ap not (h 0)) (none_from xs (λ k. h (suc k)))
