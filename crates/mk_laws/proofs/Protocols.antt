-- The protocol holds after every enabled list.
use Rattle.mk_laws.proofs.Vocabulary.{Bool, Caller, Config, Flight, Moment, Protocol, ℕ, arith, at_rest, cases_lt}
use Rattle.mk_laws.proofs.Vocabulary.{false, flight_of, get_or_past, is_decided_free, is_undecided_new, left, refl, sym}
use Rattle.mk_laws.proofs.{Vocabulary.{true, ◌+◌, ◌-◌, ◌<◌, ◌↔◌, ◌∙◌, ◌≡◌, ◌≢◌, ◌≤◌}, Basics.{Known, Orderly}}
use Rattle.mk_laws.proofs.Basics.{flight_in, gate_in, in_call_told, known_left, not_astray, standing, view_of}
use Rattle.mk_laws.proofs.Standings.{in_turn_told, is_standing_in_call, shows_gate, shows_turn, stage_told}
use Rattle.mk_laws.proofs.{Known.HaveOperands, Protocol.{ListsKeepTheProtocol, SomeCaller, is_decided_new}}

-- what is in order is as the protocol says

-- the holder is a caller, if its call is so and no call is astray
some_caller : {c : Config} (m : Moment) (test : Flight → Bool) → Orderly c (view_of m) → test at_rest ≡ false
    → test (flight_in (view_of m) (m.words.turn - 1)) ≡ true → SomeCaller c m test
some_caller m test o rests is = grind (arith, cases_lt, get_or_past)

told : (c : Config) (m : Moment) → Orderly c (view_of m) → HaveOperands c m.seats.flights → Protocol c m
told c m o operands = record {
  callers = o.flights;
  markers = o.markers;
  low = o.low;
  high = let e = o.phase in omega arith;
  turn = o.turn;
  gate = λ k lt. (gates k lt).0;
  in_call = λ k lt.
      let told = in_call_told (flight_of m (Caller k)).stage (flight_of m (Caller k)).op (not_astray c m o k lt) in
      (λ x. sym told ∙ (gates k lt).1.0 x, λ x. (gates k lt).1.1 (told ∙ x));
  held = λ k lt. (gates k lt).2;
  holder = λ k lt.
      let t = shows_turn m.words.turn (gate_in (view_of m) k) k (standing (flight_of m (Caller k))) (o.each k lt) in
      let told = in_turn_told (flight_of m (Caller k)).stage (flight_of m (Caller k)).op (not_astray c m o k lt) in
      (λ x. sym told ∙ t.0 x, λ x. t.1 (told ∙ x));
  stage = λ k lt. stage_told (flight_of m (Caller k)).stage (flight_of m (Caller k)).op (not_astray c m o k lt);
  operands = operands;
  cycle = o.cycle;
  stopped = o.stopped;
  attends = o.attends;
  idle = o.idle;
  free = o.free;
  placed = λ e. some_caller m is_undecided_new o refl (o.served.placed e);
  granted = λ e. some_caller m is_decided_new o refl (o.served.granted e);
  freed = λ run e. some_caller m is_decided_free o refl (o.served.freed (rw e));
}
  where
    gates : (k : ℕ) → k < c.callers → (gate_in (view_of m) k ≤ 2)
        × ((gate_in (view_of m) k ≡ 1) ↔ (is_standing_in_call (standing (flight_of m (Caller k))) ≡ true))
        × (gate_in (view_of m) k ≡ 2 → (m.words.turn ≢ 0) × (m.words.turn ≢ 1 + k))
    gates k lt = shows_gate m.words.turn (gate_in (view_of m) k) k (standing (flight_of m (Caller k))) (o.each k lt)

pub protocol_of : (c : Config) (m : Moment) → Known c m → Protocol c m
protocol_of c m known = told c m known.orderly known.operands

pub lists_keep_the_protocol : ListsKeepTheProtocol
lists_keep_the_protocol c es limits on = protocol_of c (left c es).now (known_left c es limits on)
