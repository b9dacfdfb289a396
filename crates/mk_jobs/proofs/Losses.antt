-- Which allocations a caller holds no more so after an operation.
use Rattle.mk_jobs.proofs.Vocabulary.{Anything, Bool, Hold, List, NeverState, Value, [], and_from, and_parts, arith}
use Rattle.mk_jobs.proofs.Vocabulary.{false, false≢true, hold_of, inl, inr, is_held_no_more, is_pointer_to, not}
use Rattle.mk_jobs.proofs.Vocabulary.{or_cases, or_left, or_right, register_at, suc, sym, there, true, zero, ℕ, ◌&&◌}
use Rattle.mk_jobs.proofs.Vocabulary.{◌+◌, ◌∙◌, ◌∷◌, ◌≡◌}

-- A register that points to it is held so before, and not so after.
pub record Loses (f : Hold → Bool) (v : ℕ → Value) (hs gs : List Hold) (a : ℕ) : Type 0 where
  pub place : ℕ
  pub held : f (hold_of hs place) ≡ true
  pub lost : f (hold_of gs place) ≡ false
  pub points : is_pointer_to a (v place) ≡ true

record LosesFrom (f : Hold → Bool) (n : NeverState) (k a r : ℕ) (hs gs : List Hold) : Type 0 where
  pub i : ℕ
  pub j : ℕ
  pub is : j ≡ r + i
  pub held : f (hold_of hs i) ≡ true
  pub lost : f (hold_of gs j) ≡ false
  pub points : is_pointer_to a (register_at n k j) ≡ true

not_so : (b : Bool) → not b ≡ true → b ≡ false
not_so x0 e = grind arith

not_then : (b : Bool) → b ≡ false → not b ≡ true
not_then x0 e = grind arith

module _ (f : Hold → Bool) (n : NeverState) (k a : ℕ) where
  loses_from : (r : ℕ) (hs gs : List Hold) → is_held_no_more f n k a r hs gs ≡ true → LosesFrom f n k a r hs gs
  loses_from r [] gs e = absurd (false≢true e)
  loses_from r (h ∷ hs) gs e =
      elim (or_cases ((f h && not (f (hold_of gs r))) && is_pointer_to a (register_at n k r))
      (is_held_no_more f n k a (r + 1) hs gs) e) [
        | inl here ↦ at here
        | inr there ↦ later (loses_from (r + 1) hs gs there)
      ]
    where
      at : ((f h && not (f (hold_of gs r))) && is_pointer_to a (register_at n k r)) ≡ true
          → LosesFrom f n k a r (h ∷ hs) gs
      at here =
          let both = and_parts _ _ here in
          let one = and_parts _ _ both.0 in
          record {
            i = 0;
            j = r;
            is = omega arith;
            held = one.0;
            lost = not_so (f (hold_of gs r)) one.1;
            points = both.1;
          }

      later : LosesFrom f n k a (r + 1) hs gs → LosesFrom f n k a r (h ∷ hs) gs
      later l = record {
        i = suc l.i;
        j = l.j;
        is = omega (arith, l.is);
        held = l.held;
        lost = l.lost;
        points = l.points;
      }

  lost_from : f Anything ≡ false → (r i j : ℕ) (hs gs : List Hold) → j ≡ r + i → f (hold_of hs i) ≡ true
      → f (hold_of gs j) ≡ false → is_pointer_to a (register_at n k j) ≡ true
      → is_held_no_more f n k a r hs gs ≡ true
  lost_from none r i j [] gs is held lost points = absurd (false≢true (sym none ∙ held))
  lost_from none r zero j (h ∷ hs) gs is held lost points =
      let same : j ≡ r = omega (arith, is) in
      or_left _ _ (and_from _ _ (and_from _ _ held (not_then _ (rw same at lost))) (rw same at points))
  lost_from none r (suc i) j (h ∷ hs) gs is held lost points =
      or_right _ _ (lost_from none (r + 1) i j hs gs (omega (arith, is)) held lost points)

  pub loses : (hs gs : List Hold) → is_held_no_more f n k a 0 hs gs ≡ true → Loses f (register_at n k) hs gs a
  loses hs gs e =
      let l = loses_from 0 hs gs e in
      let same : l.j ≡ l.i = omega (arith, l.is) in
      record { place = l.i; held = l.held; lost = rw same at l.lost; points = rw same at l.points }

  pub lost_so : f Anything ≡ false → (hs gs : List Hold) → Loses f (register_at n k) hs gs a
      → is_held_no_more f n k a 0 hs gs ≡ true
  lost_so none hs gs l =
      lost_from none 0 l.place l.place hs gs (omega arith) l.held l.lost l.points
