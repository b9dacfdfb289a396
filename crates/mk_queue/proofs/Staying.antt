-- What a caller has stays so after an operation on which it may rely.
use Rattle.mk_heap.proofs.Below.Laws.Vocabulary.{List, Null, Option, Some, Value, ap, arith, get_or, inl, inr}
use Rattle.mk_heap.proofs.Below.Laws.Vocabulary.{number_of}
use Rattle.mk_heap.proofs.Below.Laws.Vocabulary.{register_at, subst, sym, word_at, ℕ, ◌∙◌, ◌≡◌, ◌≢◌}
use Rattle.mk_jobs.{specs.Keeping.{Waits, World}, proofs.Having.{own_stays, own_waits, points_stay}}
use Rattle.mk_jobs.proofs.{Clients.OwnStays, Having.{root_stays, HasOwn, IsSame, PointsTo, founder_waits, not_null}}
use Rattle.mk_queue.{specs.{declared.jobs.Done.Done, declared.points.Point.Point}, proofs.Invariant.{Rely}}
use Rattle.mk_queue.proofs.Invariant.{HasEnds, HasHead, HasNext, HasTail, HasTaken, IsEnqueuing, IsFounding, Local}

module _ {j k : ℕ} {w w' : World} (rely : Rely j w w') where
  unfoldable pub ends : {u : Option Done} → IsSame w w' k 0 → HasEnds w k u → HasEnds w' k u
  ends same h = (h.0, root_stays rely.stays same h.1)

  pub enqueuing : {Also : List Value → Type 0} {u : Option Done} → IsSame w w' k 0 → IsSame w w' k 1
      → OwnStays k w w' → IsEnqueuing w k Also u → IsEnqueuing w' k Also u
  enqueuing same same' alone h = (ends same h.0, own_stays same' alone h.1)

  pub tail : {m : ℕ} {u : Option Done} → IsSame w w' k 0 → IsSame w w' k 1 → IsSame w w' k 2 → OwnStays k w w'
      → HasTail w k m u → HasTail w' k m u
  tail same same' same'' alone h = (enqueuing same same' alone h.0, points_stay rely.stays same'' h.1)

  pub head : {u : Option Done} → IsSame w w' k 0 → IsSame w w' k 2 → HasHead w k u → HasHead w' k u
  unfolding root_stays points_stay
  head same same' h = record {
    ends = (h.ends.0, root_stays rely.stays same h.ends.1);
    node = points_stay rely.stays same' h.node;
    was = elim h.was [
      | inl is ↦ rely.head h.ends.1.t h.ends.1.global h.node.a is
      | inr passed ↦ inr (rely.stays.passed h.node.a passed)
    ];
  }

  -- The next one, which was loaded or is there still
  pub followed : {u : Option Done} {v : Value} → IsSame w w' k 0 → IsSame w w' k 2 → register_at w'.n k 3 ≡ v
      → (h : HasHead w k u) → word_at w.n h.node.a 1 ≡ v → PointsTo w 0 v → HasNext w' k u
  unfolding head
  followed same same' register h link to = record {
    head = head same same' h;
    link = rely.stays.words h.node.a 1 h.node.known (λ null. not_null to.a 0 _ to.is (sym link ∙ null)) ∙ link
        ∙ sym register;
    next = points_stay rely.stays register to;
  }

  pub next : {u : Option Done} → IsSame w w' k 0 → IsSame w w' k 2 → IsSame w w' k 3 → HasNext w k u → HasNext w' k u
  next same same' same'' h = followed same same' same'' h.head h.link h.next

  pub taken : {u : Option Done} → IsSame w w' k 3 → HasTaken w k u → HasTaken w' k u
  unfolding points_stay
  taken same h = record {
    node = points_stay rely.stays same h.node;
    owes = h.owes
        ∙ ap (λ (v : Value). Some (Done.Dequeued (number_of v))) (sym (rely.stays.words h.node.a 0 h.node.known tt));
  }

-- Another caller leaves it what it has.
module _ {j k : ℕ} {w w' : World} (other : j ≢ k) (waits : Waits k w w') (rely : Rely j w w') where
  same : IsSame w w' k 0 × IsSame w w' k 1 × IsSame w w' k 2 × IsSame w w' k 3
  same =
      let at = waits.registers in (at 0 (omega arith), at 1 (omega arith), at 2 (omega arith), at 3 (omega arith))

  founding : (Ends : Value → List Value → Type 0) {u : Option Done} → IsFounding w k u Ends → IsFounding w' k u Ends
  founding Ends h = (
    founder_waits rely.stays other h.0,
    subst (λ (v : Value). HasOwn w' k 0 1 (Ends v)) (sym same.1) (own_stays same.0 (own_waits waits) h.1),
    own_stays same.1 (own_waits waits) h.2,
  )

  pub stays : (s : Point) (u : Option Done) → Local w k s u → Local w' k s u
  stays Point.Founding u h = founder_waits rely.stays other h
  stays Point.Grounding u h = (founder_waits rely.stays other h.0, own_stays same.0 (own_waits waits) h.1)
  stays Point.Dropping u h = (founder_waits rely.stays other h.0, own_stays same.0 (own_waits waits) h.1)
  stays Point.FirstHead u h = founding (λ v ws. Unit {0}) h
  stays Point.FirstTail u h = founding (λ v ws. get_or ws 0 Null ≡ v) h
  stays Point.Placing u h = founding (λ v ws. (get_or ws 0 Null ≡ v) × (get_or ws 1 Null ≡ v)) h
  stays (Point.Checking j) u h =
      elim h [ inl none ↦ inl (same.0 ∙ none.0, none.1) | inr has ↦ inr (ends rely same.0 has) ]
  stays (Point.Making m) u h = ends rely same.0 h
  stays (Point.Filling m) u h = enqueuing rely same.0 same.1 (own_waits waits) h
  stays (Point.Loading m) u h = enqueuing rely same.0 same.1 (own_waits waits) h
  stays (Point.Following m) u h = tail rely same.0 same.1 same.2 (own_waits waits) h
  stays (Point.Testing m) u h = (
    tail rely same.0 same.1 same.2 (own_waits waits) h.0,
    elim h.1 [ inl null ↦ inl (same.3 ∙ null) | inr to ↦ inr (points_stay rely.stays same.3 to) ],
  )
  stays (Point.Linking m) u h = (tail rely same.0 same.1 same.2 (own_waits waits) h.0, same.3 ∙ h.1)
  stays Point.Swinging u h = (h.0, root_stays rely.stays same.0 h.1, points_stay rely.stays same.1 h.2)
  stays (Point.Helping m) u h = (enqueuing rely same.0 same.1 (own_waits waits) h.0, points_stay rely.stays same.3 h.1)
  stays Point.Heading u h = ends rely same.0 h
  stays Point.Peeking u h = head rely same.0 same.2 h
  stays Point.Asking u h =
      elim h [ inl none ↦ inl (same.3 ∙ none.0, none.1) | inr has ↦ inr (tt, next rely same.0 same.2 same.3 has.1) ]
  stays Point.Taking u h = next rely same.0 same.2 same.3 h
  stays Point.Freeing u h = (taken rely same.3 h.0, points_stay rely.stays same.2 h.1)
  stays Point.Reading u h = taken rely same.3 h
  stays _ u h = h
