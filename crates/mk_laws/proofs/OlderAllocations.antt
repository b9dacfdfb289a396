-- Allocations after events that grant none: what is unreleased was so before, and each keeps its place.
use Rattle.mk_laws.proofs.Vocabulary.{Config, Event, IsHistory, List, PlacedAllocation, Seat, Step, World, ℕ, ap, false}
use Rattle.mk_laws.proofs.Vocabulary.{flight_of, is_release, left, length, placed_at, refl, sym, true≢false, ◌++◌, ◌<◌}
use Rattle.mk_laws.proofs.{Vocabulary.{◌∙◌, ◌≡◌}, Basics.{Came, IsNew, Stayed, WorldBehind, is_grant}}
use Rattle.mk_laws.proofs.{Ground.{AreOfOne, GoesOn, allocation_step, goes_on, of_one_joined}, Marking.one_more}
use Rattle.mk_laws.proofs.{Precise.came_behind, Stretches.{None_of, along_without}}

pub record AreOlder (xs ys : List PlacedAllocation) : Type 0 where
  pub was : (j : ℕ) → (placed_at ys j).released ≡ false → (placed_at xs j).released ≡ false
  pub there : (i : ℕ) → i < length xs → i < length ys
  pub same : (i : ℕ) → i < length xs → AreOfOne (placed_at xs i) (placed_at ys i)

pub older_same : (xs : List PlacedAllocation) → AreOlder xs xs
older_same xs = record { was = λ j u. u; there = λ i lt. lt; same = λ i lt. record { base = refl; ty = refl } }

pub older_joined : {xs ys zs : List PlacedAllocation} → AreOlder xs ys → AreOlder ys zs → AreOlder xs zs
older_joined a b = record {
  was = λ j u. a.was j (b.was j u);
  there = λ i lt. b.there i (a.there i lt);
  same = λ i lt. of_one_joined _ _ _ (a.same i lt) (b.same i (a.there i lt));
}

goes_on_behind : (c : Config) (w : World) (seat : Seat) (x : Step) (i : ℕ) → i < length w.allocations
    → GoesOn w.allocations (WorldBehind c w seat x).allocations x i
goes_on_behind c w seat x i lt = goes_on w.allocations (WorldBehind c w seat x).allocations x i
    (allocation_step c w.now (flight_of w.now seat) x w.allocations) lt

pub older_behind : (c : Config) (w : World) (seat : Seat) (x : Step) → is_grant x ≡ false
    → AreOlder w.allocations (WorldBehind c w seat x).allocations
older_behind c w seat x other = record {
  was = λ j u. by j (came_behind c w seat x j u);
  there = λ i lt. (goes_on_behind c w seat x i lt).there;
  same = λ i lt. (goes_on_behind c w seat x i lt).same;
}
  where
    by : (j : ℕ) → Came w.allocations (WorldBehind c w seat x).allocations x j
        → (placed_at w.allocations j).released ≡ false
    by j (Stayed was same) = was
    by j (IsNew grant at) = absurd (true≢false (sym (ap is_grant grant) ∙ other))

-- An allocation is there and unreleased.
pub record IsKept (w : World) (i : ℕ) : Type 0 where
  pub there : i < length w.allocations
  pub unreleased : (placed_at w.allocations i).released ≡ false

-- It stays so after events that aren't a `release`.
pub kept_along : (c : Config) (start rest : List Event) (i : ℕ) → IsHistory c (start ++ rest)
    → None_of is_release rest → IsKept (left c start) i → IsKept (left c (start ++ rest)) i
kept_along c start rest i = along_without c is_release (λ (es : List Event). IsKept (left c es) i) start rest
    (λ es e g other at.
    let on = goes_on_behind c (left c es) e.seat e.step i at.there in
    rw (one_more c es e g).left (record { there = on.there; unreleased = on.stays other at.unreleased }))
