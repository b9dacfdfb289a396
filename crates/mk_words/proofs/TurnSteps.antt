-- What the steps of the turn's holder leave.
use Rattle.mk_laws.proofs.Vocabulary.{Bool, Caller, Config, Holds, Host, List, Marker, Moment, Op, Option, Progress}
use Rattle.mk_laws.proofs.Vocabulary.{Protocol, Seat, Some, Step, World, ℕ, and_from, and_parts, ap, arith, at_rest}
use Rattle.mk_laws.proofs.Vocabulary.{eq-eqb, eqb-false, false, flight_of, found, get_or-set_same, group_of, has_phase}
use Rattle.mk_laws.proofs.Vocabulary.{held_by_pages, histories_keep_lengths, holder_number, if◌then◌else◌, is_held}
use Rattle.mk_laws.proofs.Vocabulary.{is_number_of, is_open_to, length, ltb-true, ne_eqb, not-true, nothing_done}
use Rattle.mk_laws.proofs.Vocabulary.{others_are_held, phase_of, refl, seat_exists, slice_index, subst, suc, sym, true}
use Rattle.mk_laws.proofs.{Vocabulary.{zero, ◌++◌, ◌+◌, ◌<◌, ◌==◌, ◌||◌, ◌∙◌, ◌≡◌, ◌≢◌}, SameWords.{Behind, reg_keeps}}
use Rattle.mk_laws.proofs.{SameWords.tally_keeps, NextSteps.at_no_take, Protocols.lists_keep_the_protocol}
use Rattle.mk_core.specs.{Words.all_below, Frames.HoldsAll, Moments.none_is_held, Conditions.is_in_order}
use Rattle.mk_words.proofs.{CallSteps.{begins, goes}, FreeTurns.{hands_none, turn_word_stays}, Made.{Made, made}}
use Rattle.mk_words.proofs.Tallies.{free_tallies}
use Rattle.mk_words.specs.{States.{IsTurn, PassState, call_of, now_of, world_of}, TurnSteps.{Acts, GatesAre, IsFresh}}
use Rattle.mk_words.specs.{TurnSteps.{begun_for, gates_stay, turn_stays}, Steps.{Finds, Makes, Tells, moment_of}}

-- who holds the turn, by the turn word

holds_named : (c : Config) (m : Moment) (seat : Seat) → Protocol c m → Holds c m seat
    → m.words.turn ≡ 1 + holder_number c seat
holds_named c m (Caller k) p h = (p.holder k h.0).1 h.1
holds_named c m (Marker k) p h = absurd h
holds_named c m Host p h = h

abbrev is_marker : Seat → Bool
is_marker (Marker k) = true
is_marker _ = false

named_holds : (c : Config) (m : Moment) (seat : Seat) → Protocol c m → seat_exists c seat ≡ true
    → is_marker seat ≡ false → m.words.turn ≡ 1 + holder_number c seat → Holds c m seat
named_holds c m (Caller k) p exists one named = let lt = ltb-true k c.callers exists in (lt, (p.holder k lt).0 named)
named_holds c m (Marker k) p exists one named = cc
named_holds c m Host p exists one named = named

-- the step of whoever holds the turn
module _ (p : PassState) (s : Step) (q : PassState) (m : Makes p s q) where
  abbrev d : Made p s q m
  d = made p s q m

  pub protocol_now : Protocol p.table.config (world_of q).now
  protocol_now =
      subst (λ (r : PassState). Protocol p.table.config (world_of r).now) (sym m.is)
      (lists_keep_the_protocol p.table.config _ d.whole.within_limits d.whole.enabled)

  unfoldable pub acts : Holds p.table.config (now_of p) p.seat → Acts p s q
  acts h =
      let turn = d.frame.turn h in
      record {
        makes = m;
        holds = h;
        own = d.frame.own;
        holding = (d.frame.own.holding h).1;
        turn = turn.0;
        counts = turn.1;
        stop = d.frame.stop;
        world = d.world;
        call = λ k is. (goes p s q m k is).call;
      }

  holds_then : Holds p.table.config (now_of p) p.seat → Holds p.table.config (moment_of m) p.seat
  holds_then h = (d.frame.own.holding h).0

  holds_still : turn_stays s ≡ true → Holds p.table.config (now_of p) p.seat → Holds q.table.config (now_of q) q.seat
  holds_still stays h =
      let c : Config = p.table.config in
      let named : (world_of q).now.words.turn ≡ 1 + holder_number c p.seat =
      ap (λ (w : World). w.now.words.turn) d.world ∙ turn_word_stays c (moment_of m) p.seat s (hands_none s stays)
      ∙ holds_named c (moment_of m) p.seat d.protocol (holds_then h) in
      let holds : Holds c (world_of q).now p.seat = grind (arith, named_holds, protocol_now) in
      subst (λ (r : PassState). Holds r.table.config (world_of q).now r.seat) (sym m.is) holds

  pub still_turn : turn_stays s ≡ true → IsTurn p → IsTurn q
  still_turn stays t = record { own = m.pass.own; holds = holds_still stays t.holds; history = m.pass.history }

-- After a step of the holder that isn't its last the seat still holds the turn.
pub holds_after : {p : PassState} {s : Step} {q : PassState} → Acts p s q → turn_stays s ≡ true
    → Holds q.table.config (now_of q) q.seat
holds_after {p} {s} {q} a stays = holds_still p s q a.makes stays a.holds

-- the gates, while they stay
pub gates_left : (p : PassState) (s : Step) (q : PassState) → Acts p s q → gates_stay s ≡ true
    → HoldsAll p.table.config (now_of p) p.seat → (world_of q).now.words.gates ≡ (now_of p).words.gates
gates_left p s q a stays all = grind (arith, reg_keeps, tally_keeps)

pub still_stopped : (p : PassState) (s : Step) (q : PassState) → Acts p s q → gates_stay s ≡ true
    → others_are_held p.table.config.callers (now_of p).words p.seat ≡ true
    → others_are_held q.table.config.callers (now_of q).words q.seat ≡ true
still_stopped p s q a stays all =
    ap (λ (r : PassState). others_are_held r.table.config.callers (now_of q).words r.seat) a.makes.is
    ∙ ap (λ (gs : List ℕ). all_below p.table.config.callers (λ j. is_number_of p.seat j || (slice_index gs j == 2)))
    (gates_left p s q a stays (a.holds, all)) ∙ all

-- So what is known of the gates stays known.
pub gates_still : (held : Bool) (p : PassState) (s : Step) (q : PassState) → Acts p s q
    → (held ≡ true → gates_stay s ≡ true) → GatesAre held p → GatesAre held q
gates_still true p s q a stays all = still_stopped p s q a (stays refl) all
gates_still false p s q a stays any = any

pub turn_stays_too : (s : Step) → gates_stay s ≡ true → turn_stays s ≡ true
turn_stays_too (Step.Hold j) h = cc
turn_stays_too (Step.Open j) h = cc
turn_stays_too s h = h

-- `hold` finds the gate open, or its caller in a call
module _ (p : PassState) (j n : ℕ) (q : PassState) (t : Tells p (Step.Hold j) n q) where
  abbrev gs : List ℕ
  gs = (moment_of t.makes).words.gates

  h : Made p (Step.Hold j) q t.makes
  h = made p (Step.Hold j) q t.makes

  caller_is : j < p.table.config.callers
  caller_is = grind (arith, ltb-true, and_parts, h)

  not_two : slice_index gs j ≢ 2
  not_two = eqb-false (slice_index gs j) 2 (not-true (slice_index gs j == 2) h.meets.gates)

  gate_then : slice_index (now_of q).words.gates j ≡ (if slice_index gs j == 0 then 2 else slice_index gs j)
  gate_then =
      let long = (histories_keep_lengths p.table.config (p.seen ++ t.makes.others)).gates in
      let few = h.known.small in
      ap (λ (w : World). slice_index w.now.words.gates j) h.world ∙ get_or-set_same gs j _ 0 (omega (arith, caller_is))

  pub hold_finds : n ≢ 0 → n ≡ 1
  hold_finds some =
      let least = h.protocol.gate j caller_is in let is : n ≡ slice_index gs j = t.tells in omega (arith, not_two)

  pub hold_holds : n ≡ 0 → is_held (now_of q).words j ≡ true
  hold_holds none =
      eq-eqb _ 2 (gate_then ∙ ap (λ (b : Bool). if b then 2 else slice_index gs j)
      (eq-eqb (slice_index gs j) 0 (sym t.tells ∙ none)))

  pub hold_misses : n ≢ 0 → is_held (now_of q).words j ≡ false
  hold_misses some =
      ne_eqb _ 2 (λ two. not_two (sym (gate_then ∙ ap (λ (b : Bool). if b then 2 else slice_index gs j)
      (ne_eqb (slice_index gs j) 0 (λ z. some (t.tells ∙ z)))) ∙ two))

-- `take`

pub all_from : (n : ℕ) (test : ℕ → Bool) → ((k : ℕ) → k < n → test k ≡ true) → all_below n test ≡ true
unfolding all_below
all_from zero test h = refl
all_from (suc n) test h = and_from (all_below n test) (test n) (all_from n test (λ k lt. h k (omega arith)))
    (h n (omega arith))

-- a seat that takes the turn where it finds it free

takes_for : (c : Config) (m : Moment) (seat : Seat) (o : Option Op) → is_open_to seat (group_of (Step.Take o)) ≡ true
    → is_in_order c m seat (Step.Take o) ≡ true → is_marker seat ≡ false
takes_for c m (Marker k) o kind order = cc
takes_for c m _ o kind order = refl

takes_call : (c : Config) (m : Moment) (seat : Seat) (o : Option Op) → Protocol c m → seat_exists c seat ≡ true
    → is_open_to seat (group_of (Step.Take o)) ≡ true → is_in_order c m seat (Step.Take o) ≡ true → m.words.turn ≡ 0
    → flight_of (Behind c m seat (Step.Take o)) seat ≡ begun_for o
takes_call c m (Caller k) (Some o) p exists kind order free =
    let lt : k < length m.seats.flights = subst (λ (i : ℕ). k < i) (sym p.callers) (ltb-true k c.callers exists) in
    get_or-set_same m.seats.flights k _ at_rest lt
    ∙ ap (λ (x : Progress). x.flight) (begins (flight_of m (Caller k)) o m.words.turn m.words.turn refl free)
takes_call c m x3 o p exists kind order free = grind (arith, at_no_take)

-- no gate is held while nobody has the turn
none_held_free : (c : Config) (m : Moment) → Protocol c m → m.words.turn ≡ 0 → none_is_held c.callers m.words ≡ true
none_held_free c m p free = grind (arith, all_from, ne_eqb)

-- nor is a stop on
free_phase : (c : Config) (m : Moment) → Protocol c m → m.words.turn ≡ 0 → has_phase (phase_of m.words) Step.Give ≡ true
free_phase c m p free = grind arith

module _ (p : PassState) (o : Option Op) (n : ℕ) (q : PassState) (t : Tells p (Step.Take o) n q) where
  e : Made p (Step.Take o) q t.makes
  e = made p (Step.Take o) q t.makes

  pub take_finds : (found : ℕ) → n ≡ found → Finds p (Step.Take o) found q
  take_finds found is = record { makes = t.makes; finds = sym is ∙ t.tells }

  module _ (none : n ≡ 0) where
    free : (moment_of t.makes).words.turn ≡ 0
    free = sym t.tells ∙ none

    pub takes : IsTurn q
    takes =
        let c : Config = p.table.config in
        let m : Moment = moment_of t.makes in
        let named : (world_of q).now.words.turn ≡ 1 + holder_number c p.seat =
        ap (λ (w : World). w.now.words.turn) e.world
        ∙ ap (λ (b : Bool). if b then 1 + holder_number c p.seat else m.words.turn) (eq-eqb m.words.turn 0 free) in
        let holds : Holds c (world_of q).now p.seat = named_holds c (world_of q).now p.seat (protocol_now p
        (Step.Take o) q t.makes) e.meets.seat (takes_for c m p.seat o e.meets.kind e.meets.order) named in
        record { own = t.makes.pass.own; holds = grind (arith, Holds); history = t.makes.pass.history }

    pub takes_fresh : IsFresh q o
    takes_fresh =
        let c : Config = p.table.config in
        let m : Moment = moment_of t.makes in
        record {
          call =
              ap (λ (s : Seat). flight_of (world_of q).now s) e.seat ∙ ap (λ (w : World). flight_of w.now p.seat)
              e.world ∙ takes_call c m p.seat o e.protocol e.meets.seat e.meets.kind e.meets.order free;
          holding =
              ap (λ (w : World). w.now.seats.holding) e.world
              ∙ ap (λ (b : Bool). if b then nothing_done else m.seats.holding) (eq-eqb m.words.turn 0 free);
          gates =
              ap (λ (r : PassState). none_is_held r.table.config.callers (world_of q).now.words) t.makes.is
              ∙ ap (λ (w : World). none_is_held c.callers w.now.words) e.world ∙ none_held_free c m e.protocol free;
          phase = ap (λ (w : World). has_phase (phase_of w.now.words) Step.Give) e.world
              ∙ free_phase c m e.protocol free;
          held = ap (λ (w : World). w.now.words.held) e.world ∙ (free_tallies c (p.seen ++ t.makes.others) e.history
              e.protocol free).0 ∙ sym (ap (λ (w : World). held_by_pages w.now.words) e.world);
          fresh = ap (λ (w : World). w.now.words.fresh) e.world ∙ (free_tallies c (p.seen ++ t.makes.others) e.history
              e.protocol free).1 ∙ sym (ap (λ (w : World). w.now.fresh_words) e.world);
        }

-- `give`
pub gives_rest : (p : PassState) (q : PassState) (m : Makes p Step.Give q) → call_of q ≡ at_rest
gives_rest p q m =
    let d = made p Step.Give q m in
    ap (λ (s : Seat). flight_of (world_of q).now s) d.seat ∙ ap (λ (w : World). flight_of w.now p.seat) d.world
    ∙ by p.seat d.meets.seat d.protocol
  where
    by : (s : Seat) → seat_exists p.table.config s ≡ true → Protocol p.table.config (moment_of m)
        → flight_of (Behind p.table.config (moment_of m) s Step.Give) s ≡ at_rest
    by (Caller k) exists protocol =
        get_or-set_same (moment_of m).seats.flights k _ at_rest
        (subst (λ (i : ℕ). k < i) (sym protocol.callers) (ltb-true k p.table.config.callers exists))
    by (Marker k) exists protocol = refl
    by Host exists protocol = refl
