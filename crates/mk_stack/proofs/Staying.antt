-- What a caller has stays so after an operation on which it may rely.
use Rattle.mk_heap.proofs.Below.Laws.Vocabulary.{List, Option, arith, inl, inr, refl, subst, sym, ℕ, ◌<◌, ◌∙◌, ◌≢◌}
use Rattle.mk_jobs.specs.Keeping.{Covers, Waits, World}
use Rattle.mk_jobs.proofs.{Clients.OwnStays, Relying.relies_covered, Roots.shared_covered, Rows.row_covered}
use Rattle.mk_jobs.proofs.Having.{IsSame, founder_waits, own_stays, own_waits, points_stay, root_stays, word_stays}
use Rattle.mk_stack.specs.{declared.jobs.Done.Done, declared.points.Point.Point}
use Rattle.mk_stack.proofs.Invariant.{HasLinked, HasTaken, IsAtTop, Local, Rely, Shared}

module _ {j k : ℕ} {w w' : World} (rely : Rely j w w') where
  pub at_top : {u : Option Done} → IsSame w w' k 0 → IsAtTop w k u → IsAtTop w' k u
  at_top same h = (h.0, root_stays rely same h.1)

  pub taken : {u : Option Done} → IsSame w w' k 2 → HasTaken w k u → HasTaken w' k u
  taken same h = record { number = h.number; word = word_stays rely same refl h.word; owes = h.owes }

-- Another caller leaves it what it has.
module _ {j k : ℕ} {w w' : World} (other : j ≢ k) (waits : Waits k w w') (rely : Rely j w w') where
  same : (r : ℕ) → r < 8 → IsSame w w' k r
  same r lt = waits.registers r lt

  top : {u : Option Done} → IsAtTop w k u → IsAtTop w' k u
  top h = at_top rely (same 0 (omega arith)) h

  alone : OwnStays k w w'
  alone = own_waits waits

  pub stays : (s : Point) (u : Option Done) → Local w k s u → Local w' k s u
  stays Point.Founding u h = founder_waits rely other h
  stays Point.Placing u h = (founder_waits rely other h.0, own_stays (same 0 (omega arith)) alone h.1)
  stays (Point.Checking x) u h =
      elim h [
        | inl none ↦ inl (same 0 (omega arith) ∙ none.0, none.1)
        | inr has ↦ inr (has.0, root_stays rely (same 0 (omega arith)) has.1)
      ]
  stays (Point.Making m) u h = top h
  stays (Point.Filling m) u h = (top h.0, own_stays (same 1 (omega arith)) alone h.1)
  stays (Point.Looking m) u h = (top h.0, own_stays (same 1 (omega arith)) alone h.1)
  stays (Point.Linking m) u h = (top h.0, own_stays (same 1 (omega arith)) alone h.1)
  stays (Point.Publishing m) u h = (
    top h.0,
    subst (HasLinked w' k m) (sym (same 2 (omega arith))) (own_stays (same 1 (omega arith)) alone h.1),
  )
  stays Point.Peeking u h = top h
  stays Point.Testing u h =
      elim h [
        | inl none ↦ inl (same 2 (omega arith) ∙ none.0, none.1)
        | inr has ↦ inr (top has.0, points_stay rely (same 2 (omega arith)) has.1)
      ]
  stays Point.Following u h = (top h.0, points_stay rely (same 2 (omega arith)) h.1)
  stays Point.Taking u h = (top h.0, word_stays rely (same 2 (omega arith)) (same 1 (omega arith)) h.1)
  stays Point.Freeing u h = taken rely (same 2 (omega arith)) h
  stays Point.Reading u h = taken rely (same 2 (omega arith)) h
  stays _ u h = h

pub covered : {w w' : World} (xs : List ℕ) (j : ℕ) → Covers w w' → Shared w xs → Shared w' xs × Rely j w w'
covered xs j covers shared = (
  shared_covered covers (λ t q. record { nodes = q.nodes; row = row_covered covers q.row }) shared,
  relies_covered covers,
)
