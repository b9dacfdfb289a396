-- The frame law: what the events of other seats leave, for one event and for many.
use Rattle.std.proofs.lemmas.List.Sums.{sum_by-append}
use Rattle.mk_laws.proofs.Vocabulary.{AreEnabled, AreEnabledFrom, AreOfOthers, Caller, Config, Event, Flight, Holds}
use Rattle.mk_laws.proofs.Vocabulary.{IsInCall, IsLeft, IsWithinLimits, List, Marker, Moment, Named, OnlyGrow}
use Rattle.mk_laws.proofs.Vocabulary.{Protocol, Seat, Stage, Steady}
use Rattle.mk_laws.proofs.Vocabulary.{Step, TurnIsLeft, Word, Words, World, ℕ, accessed, ap, arith, at_rest, calls_from}
use Rattle.mk_laws.proofs.Vocabulary.{cases_lt, enabled_meets, enabled_parts, ends, eq-eqb, false, first_world}
use Rattle.mk_laws.proofs.Vocabulary.{flight_of, get_or-set_other, get_or_past, header_in, inl, inr, is_one_of}
use Rattle.mk_laws.proofs.Vocabulary.{is_unmapped_header, left, left_append, left_from, marker_at, others_are_held}
use Rattle.mk_laws.proofs.Vocabulary.{outside, refl, reg_access, register_met, slice_index, slice_set, sym, true}
use Rattle.mk_laws.proofs.Vocabulary.{world_behind, [], ◌*◌, ◌++◌, ◌+◌, ◌/◌, ◌<◌, ◌∙◌, ◌∷◌, ◌≡◌, ◌≢◌, ◌≤◌}
use Rattle.mk_laws.proofs.Basics.{Behind, Known, Meets, WorldBehind, actor_of, grants_new, in_call_told, known_behind}
use Rattle.mk_laws.proofs.Basics.{known_left, not_astray, operands_of, others_held, register_small, same_holder}
use Rattle.mk_laws.proofs.{Basics.{standing, turn_of, view_of}, Changes.{attending_grows, colour_step, grows_joined}}
use Rattle.mk_laws.proofs.{Changes.grows_same, OthersCounts.{counts_nothing, entry_fulls, fulls_append, fulls_of}}
use Rattle.mk_laws.proofs.TurnFrame.{holding_out, turn_after, turn_joined, turn_same}
use Rattle.mk_laws.proofs.{HeaderSteps.{header_step, stays_mapped}, Known.{HaveOperands, Operands, holds_turn}}
use Rattle.mk_laws.proofs.{OthersMoves.{OthersMove, gate_one, others_move}, ProtocolReadings.in_counts}
use Rattle.mk_laws.proofs.{Protocols.protocol_of, Standings.{InCall, in_call_is}}
use Rattle.mk_core.proofs.{Histories.calls_append, RegisterAccesses.tally_leaves_registers}
use Rattle.mk_core.specs.Frames.{Attends, CountsAreLeft, HoldsAll, IsIn, OwnIsLeft, written_of}
use Rattle.mk_core.specs.{History.is_same_seat, Readings.is_in_call}

-- What an event may do to registers: each caller's are its own.

pub data RegisterStep (w : Words) : Seat → List ℕ → Type 0 where
  KeepsRegisters : {seat : Seat} → RegisterStep w seat w.registers
  SetsOwn : {k : ℕ} (r v : ℕ) → r < 8 → RegisterStep w (Caller k) (slice_set w.registers (8 * k + r) v)

reg_registers : (w : Words) (k : ℕ) (f : Flight) (s : Stage) → Operands f.op
    → RegisterStep w (Caller k) (accessed w (Named (Word.Reg k (register_met f s))) (reg_access f s)).registers
reg_registers w k f s o = grind (arith, register_small, SetsOwn, KeepsRegisters)

pub register_step : (c : Config) (m : Moment) (seat : Seat) (x : Step) → HaveOperands c m.seats.flights
    → Meets c m seat x → RegisterStep m.words seat (Behind c m seat x).words.registers
register_step c m seat x ops h =
    grind (arith, reg_registers, operands_of, grants_new, tally_leaves_registers, SetsOwn, KeepsRegisters)

pub others_registers : {w : Words} {seat : Seat} {rs : List ℕ} (k r : ℕ) → RegisterStep w seat rs → seat ≢ Caller k
    → r < 8 → slice_index rs (8 * k + r) ≡ slice_index w.registers (8 * k + r)
others_registers k r KeepsRegisters ne lt = refl
others_registers {w} k r (SetsOwn {k = j} s v ls) ne lt =
    get_or-set_other w.registers (8 * j + s) (8 * k + r) v 0 (λ e. ne (rw (let same : j ≡ k = omega arith in same)))

-- the call of another caller, and another marker

others_flight : (c : Config) (w : World) (seat s : Seat) (x : Step) → seat ≢ s
    → flight_of (WorldBehind c w seat x).now s ≡ flight_of w.now s
others_flight c w (Caller j) (Caller k) x ne = get_or-set_other w.now.seats.flights j k _ at_rest (λ e. ne (rw (← e)))
others_flight c w _ _ x ne = cc

others_marker : (c : Config) (w : World) (seat s : Seat) (x : Step) → seat ≢ s
    → marker_at (WorldBehind c w seat x).now s ≡ marker_at w.now s
others_marker c w (Marker j) (Marker k) x ne = get_or-set_other w.now.seats.markers j k _ outside (λ e. ne (rw (← e)))
others_marker c w _ _ x ne = cc

-- A seat that holds the turn holds it still, after an event of another.
others_out : {c : Config} (w : World) (seat s : Seat) (x : Step) → Known c w.now → Meets c w.now seat x → seat ≢ s
    → Holds c w.now s → OthersMove c w seat (WorldBehind c w seat x)
others_out {c} w seat s x known h ne holds =
    let t = holds_turn c w.now s known.orderly holds in
    grind (arith, others_move, turn_of, view_of, same_holder)

still_holds : (c : Config) (s : Seat) (w v : World) → flight_of v.now s ≡ flight_of w.now s
    → v.now.words.turn ≡ w.now.words.turn → Holds c w.now s → Holds c v.now s
still_holds c s w v flight turn h = grind arith

-- what is left, by worlds
pub record Left (c : Config) (s : Seat) (w v : World) : Type 0 where
  pub own : OwnIsLeft c s w v
  pub mapped : IsInCall w.now s → (p : ℕ) → is_unmapped_header (header_in w.now.words p) ≡ false
      → is_unmapped_header (header_in v.now.words p) ≡ false
  pub turn : Holds c w.now s → TurnIsLeft w v
  pub stop : HoldsAll c w.now s → written_of v ≡ written_of w
  pub scan : Attends w.now s
      → OnlyGrow w.now.words.marks v.now.words.marks × OnlyGrow w.now.words.blacks v.now.words.blacks

-- who is in a call
pub in_call_stands : {c : Config} {m : Moment} (k : ℕ) → Known c m → is_in_call (flight_of m (Caller k)) ≡ true
    → (k < c.callers) × (standing (flight_of m (Caller k)) ≡ InCall)
in_call_stands {c} k known is = elim (cases_lt k c.callers) [
  | inl lt ↦ grind (arith, in_call_is, standing, in_call_told, not_astray)
  | inr past ↦ grind (arith, get_or_past)
]

-- and whose gate is 1
in_call_gate : {c : Config} {m : Moment} (k : ℕ) → Known c m → is_in_call (flight_of m (Caller k)) ≡ true
    → (k < c.callers) × (slice_index m.words.gates k ≡ 1)
in_call_gate {c} {m} k known is = let s = in_call_stands k known is in (s.0, gate_one k known s.0 s.1)

mapped_after : {c : Config} (w : World) (seat s : Seat) (x : Step) → Known c w.now → Meets c w.now seat x → seat ≢ s
    → IsInCall w.now s → (p : ℕ) → is_unmapped_header (header_in w.now.words p) ≡ false
    → is_unmapped_header (header_in (WorldBehind c w seat x).now.words p) ≡ false
mapped_after {c} w seat (Caller k) x known h ne call p is =
    let g = in_call_gate k known call in
    stays_mapped p (header_step c w.now seat x k h g.0 ne g.1) is
mapped_after w seat _ x known h ne call p is = absurd call

stop_out : {c : Config} {w : World} {seat : Seat} (s : Seat) {v : World} → OthersMove c w seat v → seat ≢ s
    → Holds c w.now s
    → others_are_held c.callers w.now.words s ≡ true → written_of v ≡ written_of w
stop_out s h ne holds all = grind (arith, others_held)

scan_after : {c : Config} (w : World) (seat s : Seat) (x : Step) → Known c w.now → Meets c w.now seat x
    → Attends w.now s → OnlyGrow w.now.words.marks (WorldBehind c w seat x).now.words.marks
    × OnlyGrow w.now.words.blacks (WorldBehind c w seat x).now.words.blacks
scan_after {c} w seat (Marker k) x known h a = attending_grows k (known.orderly.attends k a) a
    (colour_step c w.now seat x h)
scan_after w seat _ x known h a = absurd a

-- one event of another seat
own_after : {c : Config} (w : World) (seat s : Seat) (x : Step) → Known c w.now → Meets c w.now seat x → seat ≢ s
    → OwnIsLeft c s w (WorldBehind c w seat x)
own_after {c} w seat s x known h ne = record {
  flight = others_flight c w seat s x ne;
  marker = others_marker c w seat s x ne;
  registers = λ k r is lt. others_registers k r (register_step c w.now seat x known.operands h)
      (λ e. ne (e ∙ sym is)) lt;
  holding = λ holds.
      let move = others_out w seat s x known h ne holds in
      let turn = turn_after c w seat _ known move in (
        still_holds c s w (WorldBehind c w seat x) (others_flight c w seat s x ne)
            (ap (λ (y : Steady). y.turn) turn.steady) holds,
        holding_out move,
      );
}

pub left_after : (c : Config) (w : World) (seat s : Seat) (x : Step) → Known c w.now → Meets c w.now seat x → seat ≢ s
    → Left c s w (WorldBehind c w seat x)
left_after c w seat s x known h ne = record {
  own = own_after w seat s x known h ne;
  mapped = mapped_after w seat s x known h ne;
  turn = λ holds. turn_after c w seat _ known (others_out w seat s x known h ne holds);
  stop = λ all. stop_out s (others_out w seat s x known h ne all.0) ne all.0 all.1;
  scan = scan_after w seat s x known h;
}

-- what the seat is in the middle of, it still is

still_calls : {c : Config} {s : Seat} {w u : World} → OwnIsLeft c s w u → IsInCall w.now s → IsInCall u.now s
still_calls l call = grind arith

pub still_attends : {c : Config} {s : Seat} {w u : World} → OwnIsLeft c s w u → Attends w.now s → Attends u.now s
still_attends l a = grind arith

still_in : {c : Config} {s : Seat} {w u : World} → OwnIsLeft c s w u → IsIn w.now s → IsIn u.now s
still_in l i = grind arith

still_stopped : {c : Config} {s : Seat} {w u : World} → Left c s w u → HoldsAll c w.now s → HoldsAll c u.now s
still_stopped l all = grind arith

pub left_joined : {c : Config} {s : Seat} {w u v : World} → Left c s w u → Left c s u v → Left c s w v
left_joined {c} {s} {w} {u} {v} a b = record {
  own = grind arith;
  mapped = λ call p is. b.mapped (still_calls a.own call) p (a.mapped call p is);
  turn = λ holds. turn_joined (a.turn holds) (b.turn (a.own.holding holds).0);
  stop = λ all. b.stop (still_stopped a all) ∙ a.stop all;
  scan = grind (arith, still_attends, grows_joined);
}

-- the list goes on with events of others

same_seat : (s : Seat) → is_same_seat s s ≡ true
same_seat s = grind (arith, eq-eqb)

pub other_seat : (s seat : Seat) → is_one_of (s ∷ []) seat ≡ false → seat ≢ s
other_seat s seat h e = grind (arith, same_seat)

pub left_later : {c : Config} (s : Seat) (w : World) (es : List Event) → Known c w.now → AreEnabledFrom c w es
    → AreOfOthers (s ∷ []) es → Left c s w (left_from c w es)
unfolding left_from AreEnabledFrom AreOfOthers
left_later s w [] k on others = grind (arith, turn_same, grows_same)
left_later {c} s w (e ∷ es) k on others = left_joined (left_after c w e.seat s e.step k (enabled_meets c w.now e on.0)
    (other_seat s e.seat others.0)) (left_later s (world_behind c w e) es (known_behind c w.now e k on.0) on.1 others.1)

-- the counts

record CountsNothing (c : Config) (w : World) (es : List Event) : Type 0 where
  none_ends : ends es ≡ 0
  none_full : fulls_of (calls_from c w es) ≡ 0

counts_later : {c : Config} (s : Seat) (w : World) (es : List Event) → Known c w.now → AreEnabledFrom c w es
    → AreOfOthers (s ∷ []) es → Holds c w.now s → CountsNothing c w es
unfolding calls_from AreEnabledFrom AreOfOthers
counts_later s w [] k on others holds = record { none_ends = refl; none_full = refl }
counts_later {c} s w (e ∷ es) k on others holds =
    let h = enabled_meets c w.now e on.0 in
    let ne = other_seat s e.seat others.0 in
    let t = holds_turn c w.now s k.orderly holds in
    let now = counts_nothing c w.now e.seat e.step (λ out. ne (same_holder c (view_of w.now) e.seat s k.orderly out t))
    (actor_of c w.now e.seat e.step k.orderly h) in
    let rest = counts_later s (world_behind c w e) es (known_behind c w.now e k on.0) on.1 others.1
    ((left_after c w e.seat s e.step k h ne).own.holding holds).0 in
    grind (arith, entry_fulls, sum_by-append, fulls_append)

-- the law

visit_left : {c : Config} (s : Seat) {m : Moment} → Protocol c m → IsIn m s → 1 ≤ m.words.phase / 8
visit_left s p i = grind (arith, in_counts)

is_left : {c : Config} (s : Seat) (es more : List Event) → Left c s (left c es) (left c (es ++ more))
    → Known c (left c (es ++ more)).now
    → (Holds c (left c es).now s → CountsAreLeft c es (es ++ more)) → IsLeft c s es (es ++ more)
is_left {c} s es more l known counts = record {
  own = l.own;
  in_call = λ k is call. record {
    gate = (in_call_gate k known (rw is at (still_calls l.own call))).1;
    mapped = l.mapped call;
  };
  turn = λ holds. (l.turn holds, counts holds);
  stop = l.stop;
  scan = λ a. grind (arith, still_attends);
  visit = λ i. visit_left s (protocol_of c _ known) (still_in l.own i);
}

counts_left : {c : Config} (es : List Event) {more : List Event} → CountsNothing c (left c es) more
    → CountsAreLeft c es (es ++ more)
counts_left es h = grind (arith, sum_by-append, calls_append, fulls_append)

-- What other seats leave to a seat, in each enabled list.
pub others_leave : (c : Config) (es more : List Event) (s : Seat) → IsWithinLimits c → AreEnabled c (es ++ more)
    → AreOfOthers (s ∷ []) more → IsLeft c s es (es ++ more)
others_leave c es more s limits on others =
    let parts = enabled_parts c (first_world c) es more on in
    let known = known_left c es limits parts.0 in
    is_left s es more (rw (left_append c (first_world c) es more)
    (left_later s (left c es) more known parts.1 others)) (known_left c (es ++ more) limits on)
    (λ holds. counts_left es (counts_later s (left c es) more known parts.1 others holds))
