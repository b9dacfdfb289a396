-- The turn's holder takes the cell of its New's place, grants the object and counts it.
use Rattle.std.proofs.{Common.bit_and, Math.Nat.div-le_self, lemmas.Nat.{or_disjoint, Bits.bit_at_and}}
use Rattle.mk_caller.proofs.Below.Laws.Vocabulary.{Answer, AreOfPages, Caller, Config, Flight, IsHistory, IsSettled}
use Rattle.mk_caller.proofs.Below.Laws.Vocabulary.{Object, Place, Seat, Some, Steady, Step, Tally, World, ℕ, address_of}
use Rattle.mk_caller.proofs.Below.Laws.Vocabulary.{answer_decided, ap, arith, base_made, bit_or, caller_number}
use Rattle.mk_caller.proofs.Below.Laws.Vocabulary.{cells_made, cond-false, cond-true, d_of, entry_of, false, flight_of}
use Rattle.mk_caller.proofs.Below.Laws.Vocabulary.{granted_base_is, granted_object, has_bit, has_operands}
use Rattle.mk_caller.proofs.Below.Laws.Vocabulary.{is_undecided_new, left, length, ltb-true, phase_of, refl}
use Rattle.mk_caller.proofs.Below.Laws.Vocabulary.{storage_words, sym, true, used_at, words_made, [], ◌%◌, ◌*◌, ◌+◌}
use Rattle.mk_caller.proofs.Below.Laws.{Vocabulary.{◌<◌, ◌^◌, ◌∙◌, ◌≡◌, ◌≤◌}, Tracked.unplaced_settles}
use Rattle.mk_alloc.proofs.ObjectVocabulary.{Acts, ComesTo, IsCellReady, IsEnabledTo, IsGrantedAt, IsOutOfStop}
use Rattle.mk_alloc.proofs.ObjectVocabulary.{IsUnplaced, Known, MayTake, PassState, call_of, entry_for}
use Rattle.mk_alloc.proofs.ObjectVocabulary.{held_by_allocations, is_acting, known_left, now_of, object_at_place}
use Rattle.mk_alloc.proofs.{ObjectVocabulary.{object_for, world_of}, FoundPlaces.{held_is_little, held_one_more}}
use Rattle.mk_alloc.proofs.MayAct.{IsActing, grant_admitted, may_grant, may_take, may_tally, off_four, register_small}
use Rattle.mk_alloc.proofs.{Reaching.{IsCallers, reaches_on, reaches_still}, Serves.{KnowsPlace, block_of}}
use Rattle.mk_alloc.proofs.Serves.{free_pages_of, out_of_stop, place_unused, served_acting}
use Rattle.mk_alloc.proofs.Serving.{IsTakenAt, granted_behind, granted_left, ready_left, ready_takes, taken_behind}
use Rattle.mk_alloc.proofs.{Serving.{taken_left, tallied_behind}, Looks.acts_there, Unchanged.acting_has_call}
use Rattle.mk_alloc.specs.Placing.{HeldIsExact, serves_at}
use Rattle.mk_caller.specs.Below.Words.{Steps.IsAdmittedTo, TurnSteps.granted_address}
use Rattle.mk_core.{proofs.WordBits.{bit_for_small, bit_is_none, bit_of_power, zero_from_bits}, specs.Words.{bit_for}}

-- A bit more, where it wasn't set.
pub one_bit_more : (n k : ℕ) → k < 64 → has_bit n k ≡ false → bit_or n (1 * 2 ^ k % 2 ^ 64) ≡ n + 2 ^ k
one_bit_more n k lt clear =
    ap (λ m. bit_or n m) (let e : 1 * 2 ^ k % 2 ^ 64 ≡ bit_for k = ap (λ x. x % 2 ^ 64) (omega arith) in e
    ∙ bit_for_small k lt) ∙ or_disjoint n (2 ^ k) (zero_from_bits (bit_and n (2 ^ k))
    (λ i. grind (arith, bit_of_power, bit_is_none, bit_at_and)))

few_cells : (o : Object) → cells_made o ≤ 64
few_cells o = grind (arith, cond-true, div-le_self, cond-false)

pub small_index : {p : PassState} {place : Place} → KnowsPlace p place → place.index < 64
small_index k = grind (arith, free_pages_of, block_of, few_cells)

-- The call is settled before it is served, so few words are held.
pub unplaced_settled : {p : PassState} → IsActing p.table.config (now_of p) p.seat → IsCallers p → IsUnplaced p
    → IsHistory p.table.config p.seen → IsSettled (world_of p)
unplaced_settled at caller unplaced h = grind (arith, unplaced_settles, ltb-true, off_four)

pub few_held : {p : PassState} {place : Place} → KnowsPlace p place
    → held_by_allocations p.table.config (world_of p).allocations ≤ 64 * p.table.config.pages
few_held k = held_is_little k.history (unplaced_settled k.acting k.caller k.goes.unplaced k.history)

module _ {p : PassState} {place : Place} (k : KnowsPlace p place) where
  abbrev pub c : Config
  c = p.table.config

  low_still : (w : World) → phase_of w.now.words ≡ phase_of (now_of p).words → IsOutOfStop w.now
  low_still w same = out_of_stop (now_of p) w.now same k.goes.unplaced.phase

  -- `used`
  abbrev pub HasTaken : PassState → Type 0
  HasTaken q = ComesTo (serves_at (object_for p) place) p
      (IsTakenAt p.table.config p.seat (object_for p) place (world_of p)) [] q

  pub used_may : {q : PassState} {used : ℕ} → MayTake p place q → used_at (now_of p).words place.page ≡ used
      → IsEnabledTo q (Step.Used place.page (used + 2 ^ place.index))
  used_may {q} {used} reached known =
      let w : World = left c q.seen in
      let unused : has_bit used place.index ≡ false = sym (ap (λ n. has_bit n place.index) known) ∙ place_unused k in
      rw reached.same (may_take (served_acting k reached.world.serving) place.page (used + 2 ^ place.index) k.within
      (low_still w (ap (λ (x : Steady). x.phase) reached.world.serving.steady)) reached.world.serving.once
      (ready_takes reached.world known unused))

  pub used_on : {q r : PassState} {value : ℕ} → MayTake p place q → Acts q (Step.Used place.page value) r → HasTaken r
  used_on {value} reached a =
      reaches_still (IsCellReady c p.seat (object_for p) place (world_of p)) (IsTakenAt c p.seat (object_for p) place
      (world_of p)) reached a refl refl k.caller refl (λ w v here kept known pages.
      let on = ready_left here kept in
      let call = acting_has_call known.orderly.flights (served_acting k on.serving) in
      taken_behind place.page value on.serving call (low_still v (ap (λ (x : Steady). x.phase) on.serving.steady)))

  -- `grant`
  taken_acting : {v : World} → IsTakenAt c p.seat (object_for p) place (world_of p) v → IsActing c v.now p.seat
  taken_acting {v} at = acts_there (world_of p) v k.acting at.call

  taken_new : {v : World} → IsTakenAt c p.seat (object_for p) place (world_of p) v
      → is_undecided_new (flight_of v.now p.seat) ≡ true
  taken_new at = ap (λ (f : Flight). is_undecided_new f) at.call ∙ k.goes.unplaced.new

  pub grant_may : {q : PassState} → HasTaken q → IsEnabledTo q Step.Grant
  grant_may reached = grind (arith, may_grant, taken_acting, taken_new, low_still)

  -- the register that it stores to, and the address
  pub grant_register : {q : PassState} → HasTaken q → d_of (call_of q).op ≡ d_of (call_of p).op
  grant_register reached = grind arith

  pub grant_address : {q : PassState} → HasTaken q
      → granted_address q ≡ address_of (base_made (object_for p) place) % 2 ^ 64
  grant_address reached = grind (arith, granted_base_is)

  operands : has_operands c (call_of p).op ≡ true
  operands = cc (k.caller.is, (known_left c p.seen k.history.within_limits k.history.enabled).operands k.caller.number)

  pub grant_admits : {q : PassState} → HasTaken q → IsHistory q.table.config q.seen → IsAdmittedTo q Step.Grant
  grant_admits reached history = grind (arith, taken_new, operands, grant_admitted, ltb-true)

  abbrev pub HasGranted : PassState → Type 0
  HasGranted q = ComesTo (serves_at (object_for p) place) p (IsGrantedAt p.table.config p.seat place (world_of p))
      (entry_for p Answer.Done) q

  pub grant_on : {q r : PassState} → HasTaken q → Acts q Step.Grant r → HasGranted r
  grant_on reached a =
      reaches_on (IsTakenAt c p.seat (object_for p) place (world_of p)) (IsGrantedAt c p.seat place (world_of p))
      reached a refl refl k.caller (λ w v here kept known pages.
      let on = taken_left here kept in
      let call = acting_has_call known.orderly.flights (taken_acting on) in
      record {
        world = granted_behind on call (λ j is. room v j is known pages);
        answer = Some Answer.Done;
        decides = ap (λ (x : Seat). answer_decided c v.now (record { seat = x; step = Step.Grant })) k.caller.is;
        no_full = refl;
        entry = ap (λ (f : Flight). entry_of (caller_number p.seat) f.op (Some Answer.Done)) on.call;
      })
    where
      room : (v : World) (j : ℕ) → p.seat ≡ Caller j → Known c v.now → AreOfPages c.pages v.now.words
          → 8 * j + d_of (call_of p).op < length v.now.words.registers
      room v j is known pages = grind (arith, ltb-true, register_small, operands)

  -- `tally`
  granted_acting : {v : World} → IsGrantedAt c p.seat place (world_of p) v → IsActing c v.now p.seat
  granted_acting at = record { there = k.acting.there; acts = ap (λ (f : Flight). is_acting f.stage) at.call }

  pub tally_may : {q : PassState} (n : ℕ) → HasGranted q → IsEnabledTo q (Step.Tally Tally.Held n)
  tally_may n reached = grind (arith, may_tally, granted_acting)

  abbrev pub HasCounted : ℕ → PassState → Type 0
  HasCounted n q =
      ComesTo (serves_at (object_for p) place) p (λ w. IsGrantedAt p.table.config p.seat place (world_of p) w ×
      (w.now.words.held ≡ n)) (entry_for p Answer.Done) q

  pub tally_on : {q r : PassState} {n : ℕ} → HasGranted q → Acts q (Step.Tally Tally.Held n) r → HasCounted n r
  tally_on {n} reached a =
      reaches_still (IsGrantedAt c p.seat place (world_of p)) (λ w. IsGrantedAt c p.seat place (world_of p) w
      × (w.now.words.held ≡ n)) reached a refl refl k.caller refl (λ w v here kept known pages.
      let on = granted_left (register_small c (call_of p) k.goes.unplaced.new operands) here kept in
      let call = acting_has_call known.orderly.flights (granted_acting on) in
      (tallied_behind n on call, refl))

  -- all three
  pub served : {q r s t : PassState} {value n : ℕ} → MayTake p place q → Acts q (Step.Used place.page value) r
      → Acts r Step.Grant s → Acts s (Step.Tally Tally.Held n) t → HasCounted n t
  served ready uses grants tallies = tally_on (grant_on (used_on ready uses) grants) tallies

  pub counted : {r : PassState} {n : ℕ} → HasCounted n r → HasGranted r
  counted reached = grind arith

  object_words : storage_words c (object_at_place c (call_of p) place) ≡ words_made (object_for p)
  object_words = ap (λ (o : Object). words_made o) (granted_object c (now_of p) (call_of p) k.goes.unplaced.new)

  pub counted_held : {r : PassState} {held size : ℕ} → held ≡ held_by_allocations c (world_of p).allocations → size
      ≡ words_made (object_for p) → HasCounted (held + size) r → HeldIsExact r
  counted_held before words reached = grind (arith, object_words, held_one_more)
