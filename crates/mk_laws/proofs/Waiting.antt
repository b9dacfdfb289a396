-- Nobody waits in a ring.
use Rattle.mk_laws.proofs.Vocabulary.{Bool, Caller, Config, Event, Flight, Holds, Host, IsHistory, List, Marker, Moment}
use Rattle.mk_laws.proofs.Vocabulary.{None, Op, OfHistories, Option, Protocol, Seat, Some, Stage, Step, ℕ, and_parts}
use Rattle.mk_laws.proofs.Vocabulary.{arith, at_rest, cases_lt, comes_next, false, flight_of, get_or_past, group_of}
use Rattle.mk_laws.proofs.Vocabulary.{inl, inr, ap, is_in, is_open_to, is_under_turn, left, ltb-true, marker_of, not}
use Rattle.mk_laws.proofs.Vocabulary.{not-true, refl, slice_index, subst, sym, true, true≢false, eqb-false, ◌+◌, ◌&&◌}
use Rattle.mk_laws.proofs.Vocabulary.{◌∙◌, ◌<◌, ◌≡◌, ◌⊎◌, earlier_part_is_history, ◌++◌}
use Rattle.mk_laws.proofs.{CallsGoOn.{InCallAt, in_call_at, seven_left}, NextSteps.{at_enter, at_no_take, at_take}}
use Rattle.mk_laws.proofs.{NextSteps.of_turn, Protocols.lists_keep_the_protocol, Stages.is_turn_stage}
use Rattle.mk_laws.{proofs.StepsAside.{rests_within, leaves_its_call, marker_quits}, specs.Waiting.{needs_markers_out}}
use Rattle.mk_laws.proofs.EarlierCalls.{earlier_calls_are_admitted}
use Rattle.mk_core.specs.Readings.{is_idle, is_in_call}
use Rattle.mk_laws.specs.Waiting.{CallsInFlightAreAdmitted, ComesTo, IsKeptBy, NobodyWaitsInARing}
use Rattle.mk_laws.specs.Waiting.{NobodyEverWaitsInARing, RestingCallsAreAdmitted, StepsAside, WaitsFor}

-- a caller that is in a call outside the turn, and a marker that is in
data OutOfTurn (m : Moment) : Seat → Type 0 where
  InCall : (k : ℕ) → slice_index m.words.gates k ≡ 1 → OutOfTurn m (Caller k)
  In : (k : ℕ) → is_in (marker_of m k) ≡ true → OutOfTurn m (Marker k)

-- the steps that may have to wait
abbrev may_wait : Step → Bool
may_wait (Step.Enter o) = true
may_wait (Step.Take o) = true
may_wait (Step.Hold k) = true
may_wait x = needs_markers_out x

kept_waits : {c : Config} {m : Moment} {s t : Seat} {x : Step} → IsKeptBy c m s x t → may_wait x ≡ true
kept_waits (IsKeptBy.Turn s t o holds) = refl
kept_waits (IsKeptBy.Gate k t o two holds) = refl
kept_waits (IsKeptBy.Call s k one) = refl
kept_waits (IsKeptBy.Mark s x k needs is) = needs_waits x needs
  where
    needs_waits : (x : Step) → needs_markers_out x ≡ true → may_wait x ≡ true
    needs_waits x h = grind arith

-- No marker comes to one.
marker_waits_not : (x : Step) (k : ℕ) → may_wait x ≡ true → is_open_to (Marker k) (group_of x) ≡ true → ⊥
marker_waits_not x k g h = grind arith

-- who takes the turn is between calls

takes_idle : (s : Stage) (o : Op) (next : Option Op) → comes_next s o (Step.Take next) ≡ true → s ≡ Stage.Idle
takes_idle s o None h = absurd (at_no_take s o h)
takes_idle s o (Some next) h = (at_take s o next h).0

-- A caller in its call outside the turn comes to none.

not_idle : (s : Stage) (o : Op) → InCallAt s o → s ≡ Stage.Idle → ⊥
not_idle s o h is = grind arith

not_in_turn : (s : Stage) (o : Op) → InCallAt s o → is_turn_stage s ≡ true → ⊥
not_in_turn s o h is = grind arith

call_waits_not : (s : Stage) (o : Op) (x : Step) → InCallAt s o → comes_next s o x ≡ true → may_wait x ≡ false
call_waits_not s o (Step.Enter next) h on = absurd (not_idle s o h (at_enter s o next on).0)
call_waits_not s o (Step.Take next) h on = absurd (not_idle s o h (takes_idle s o next on))
call_waits_not s o (Step.Hold k) h on = absurd (not_in_turn s o h (of_turn s o (Step.Hold k) refl refl on))
call_waits_not s o Step.Close h on = absurd (not_in_turn s o h (of_turn s o Step.Close refl refl on))
call_waits_not s o (Step.Undirty p) h on = absurd (not_in_turn s o h (of_turn s o (Step.Undirty p) refl refl on))
call_waits_not s o (Step.Black p n) h on = absurd (not_in_turn s o h (of_turn s o (Step.Black p n) refl refl on))
call_waits_not s o (Step.Unblack p) h on = absurd (not_in_turn s o h (of_turn s o (Step.Unblack p) refl refl on))
call_waits_not s o _ h on = refl

-- who takes the turn hasn't it

idle_no_turn : (s : Stage) (o : Op) → s ≡ Stage.Idle → (not (is_idle s) && is_under_turn o) ≡ true → ⊥
idle_no_turn s o is h = grind arith

taker_holds_not : {c : Config} {m : Moment} (s : Seat) (o : Option Op) → ComesTo c m s (Step.Take o) → Holds c m s → ⊥
taker_holds_not {m = m} (Caller k) o next holds =
    let f = flight_of m (Caller k) in
    idle_no_turn f.stage f.op (takes_idle f.stage f.op o next.order) holds.1
taker_holds_not (Marker k) o next holds = holds
taker_holds_not {c} {m} Host None next holds =
    eqb-false m.words.turn (1 + c.callers) (not-true _ next.order) holds
taker_holds_not Host (Some o) next holds = true≢false (sym (and_parts _ false next.order).1)

module _ {c : Config} {es : List Event} (h : IsHistory c es) where
  abbrev m : Moment
  m = (left c es).now

  protocol : Protocol c m
  protocol = lists_keep_the_protocol c es h.within_limits h.enabled

  -- who is waited for
  waited_by : {s t : Seat} {x : Step} → IsKeptBy c m s x t → Holds c m t ⊎ OutOfTurn m t
  waited_by (IsKeptBy.Turn s t o holds) = inl holds
  waited_by (IsKeptBy.Gate k t o two holds) = inl holds
  waited_by (IsKeptBy.Call s k one) = inr (InCall k one)
  waited_by (IsKeptBy.Mark s x k needs is) = inr (In k is)

  -- for whom the turn's holder waits
  holder_waits : {s t : Seat} {x : Step} → Holds c m s → ComesTo c m s x → IsKeptBy c m s x t → OutOfTurn m t
  holder_waits holds next (IsKeptBy.Turn s t o other) = absurd (taker_holds_not s o next holds)
  holder_waits holds next (IsKeptBy.Gate k t o two other) =
      let f = flight_of m (Caller k) in
      absurd (idle_no_turn f.stage f.op (at_enter f.stage f.op o next.order).0 holds.1)
  holder_waits holds next (IsKeptBy.Call s k one) = InCall k one
  holder_waits holds next (IsKeptBy.Mark s x k needs is) = In k is

  call_at : {k : ℕ} → k < c.callers → slice_index m.words.gates k ≡ 1
      → InCallAt (flight_of m (Caller k)).stage (flight_of m (Caller k)).op
  call_at {k} lt one = in_call_at _ _ (protocol.stage k lt) ((protocol.in_call k lt).0 one)

  -- and they wait for nobody
  out_waits_not : {u v : Seat} → OutOfTurn m u → WaitsFor c m u v → ⊥
  out_waits_not (InCall k one) wait =
      let f = flight_of m (Caller k) in
      let quiet = call_waits_not f.stage f.op wait.step (call_at (ltb-true k c.callers wait.next.seat) one)
      wait.next.order in
      true≢false (sym (kept_waits wait.kept) ∙ quiet)
  out_waits_not (In k is) wait = marker_waits_not wait.step k (kept_waits wait.kept) wait.next.kind

  steps_aside : {t : Seat} → CallsInFlightAreAdmitted c es → OutOfTurn m t → StepsAside c es t
  steps_aside ad (In k is) = marker_quits c es k 6 is
  steps_aside ad (InCall k one) = elim (cases_lt k c.callers) [
    | inl lt ↦ leaves_its_call 7 es (record {
      history = h;
      exists = lt;
      at = call_at lt one;
      few = seven_left _ _;
      admitted = ad k lt ((protocol.in_call k lt).0 one);
    })
    | inr past ↦
        let count = protocol.callers in
        rests_within 7 c es (Caller k)
        (record { call = get_or_past m.seats.flights k at_rest (omega arith); out = refl })
  ]

  pub nobody_waits : CallsInFlightAreAdmitted c es → NobodyWaitsInARing c es
  nobody_waits ad = record {
    ends = λ s t wait. record {
      another = λ e. elim (waited_by wait.kept) [
        | inl holds ↦
            out_waits_not (subst (OutOfTurn m) (sym e) (holder_waits (subst (Holds c m) (sym e) holds) wait.next
            wait.kept)) wait
        | inr out ↦ out_waits_not (subst (OutOfTurn m) (sym e) out) wait
      ];
      goes_on = elim (waited_by wait.kept) [ inl holds ↦ inl holds | inr out ↦ inr (steps_aside ad out) ];
      holder = λ holds. steps_aside ad (holder_waits holds wait.next wait.kept);
    };
    short = λ s t u v a b d. elim (waited_by a.kept) [
      | inl holds ↦ out_waits_not (holder_waits holds b.next b.kept) d
      | inr out ↦ out_waits_not out b
    ];
  }

pub resting_calls_are_admitted : RestingCallsAreAdmitted
resting_calls_are_admitted c es rest k lt call still =
    absurd (true≢false (sym call ∙ ap (λ (f : Flight). is_in_call f) (rest k lt).call))

pub nobody_ever_waits_in_a_ring : OfHistories NobodyEverWaitsInARing
nobody_ever_waits_in_a_ring c es h ad front more is =
    let parts : IsHistory c (front ++ more) = subst (IsHistory c) is h in
    nobody_waits (earlier_part_is_history c front more parts)
    (earlier_calls_are_admitted c front more parts (subst (CallsInFlightAreAdmitted c) is ad))

pub ruleset nobody_waits_in_a_ring_facts = (nobody_ever_waits_in_a_ring, resting_calls_are_admitted)
