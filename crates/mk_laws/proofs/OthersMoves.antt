-- What an event may do whose seat doesn't hold the turn, while another holds it.
use Rattle.mk_laws.proofs.Vocabulary.{Bool, Caller, Config, Flight, Group, Marker, MarkerState, Moment, Named, None, Op}
use Rattle.mk_laws.proofs.Vocabulary.{Seat, Stage, Step, Word, Words, World, ℕ, accessed, arith, at_rest, begun, bit_or}
use Rattle.mk_laws.proofs.Vocabulary.{cases_eq, eq-eqb, false, flight_of, found, group_of, if◌then◌else◌, inl, inr}
use Rattle.mk_laws.proofs.Vocabulary.{is_attending, is_in, marker_of, ne_eqb, outside, refl, reg_access, register_met}
use Rattle.mk_laws.proofs.Vocabulary.{set-get_or, slice_index, slice_set, still, sym, true, true≢false, world_behind}
use Rattle.mk_laws.proofs.{Vocabulary.{◌%◌, ◌*◌, ◌+◌, ◌-◌, ◌<◌, ◌^◌, ◌∙◌, ◌≡◌, ◌≢◌, ◌≤◌}, Actors.{Actor, AsHolder}}
use Rattle.mk_laws.proofs.{Actors.{AsMarker, CallTakes, HostTakes, InCallOf, Meets}, Known.{Known, Operands}}
use Rattle.mk_laws.proofs.{Known.{operands_of, register_small}, NextSteps.{at_its_stage, at_reg, has_stage_of_its_own}}
use Rattle.mk_laws.proofs.{NextSteps.{is_take, stage_of}, Stages.{calls_stand, is_call_stage, is_reg_stage, regs_work}}
use Rattle.mk_laws.proofs.{IdleMarkers.{look_stays, work_attends}, Orderly.{count_in-at, shows_at, turn_of}}
use Rattle.mk_laws.proofs.{OrderlyLists.{actor_of, not_astray}, Sorts.attends_at, Standings.{InCall, is_astray}}
use Rattle.mk_laws.proofs.{Standings.standing, Views.{HoldsTurn, view_of}}
use Rattle.mk_core.specs.Moments.{Seats}

-- the words and the seats of a world are others
abbrev pub with_words_seats : World → Words → Seats → World
with_words_seats w x s = record {
  now = record { words = x; seats = s; fresh_words = w.now.fresh_words };
  allocations = w.allocations;
}

-- what a caller outside the turn writes
pub data CallWrite (k : ℕ) (w : Words) : Words → Type 0 where
  CallLoads : CallWrite k w w
  SetsGate : (v : ℕ) → v ≤ 1 → CallWrite k w (record w { gates = slice_set w.gates k v })
  SetsRegister : (r v : ℕ) → r < 8 → CallWrite k w (record w { registers = slice_set w.registers (8 * k + r) v })
  SetsGlobal : (g v : ℕ) → CallWrite k w (record w { globals = slice_set w.globals g v })
  SetsHeap : (n v : ℕ) → CallWrite k w (record w { heap = slice_set w.heap n v })
  SetsDirty : (p : ℕ) → CallWrite k w (record w { dirty = slice_set w.dirty p 1 })

-- what a marker writes that comes, goes or attends
pub data MarkerWrite (k : ℕ) (m : Moment) : MarkerState → Words → Type 0 where
  MarkerLoads : {y : MarkerState} → y.presence ≡ (marker_of m k).presence → MarkerWrite k m y m.words
  ComesIn : {y : MarkerState} → (is_attending y.presence ≡ true → m.words.phase % 8 ≡ 1)
      → MarkerWrite k m y (record m.words { phase = (m.words.phase + 8) % 2 ^ 64 })
  GoesOut : {y : MarkerState} → is_attending y.presence ≡ false → 8 ≤ m.words.phase
      → MarkerWrite k m y (record m.words { phase = (m.words.phase + (2 ^ 64 - 8)) % 2 ^ 64 })
  AddsMarks : {y : MarkerState} (p bits : ℕ) → is_attending (marker_of m k).presence ≡ true
      → y.presence ≡ (marker_of m k).presence → MarkerWrite k m y (record m.words
      { marks = slice_set m.words.marks p (bit_or (slice_index m.words.marks p) bits) })
  AddsBlacks : {y : MarkerState} (p bits : ℕ) → is_attending (marker_of m k).presence ≡ true
      → y.presence ≡ (marker_of m k).presence → MarkerWrite k m y (record m.words
      { blacks = slice_set m.words.blacks p (bit_or (slice_index m.words.blacks p) bits) })

-- all of it
pub data OthersMove (c : Config) (w : World) : Seat → World → Type 0 where
  Waits : {seat : Seat} → OthersMove c w seat w
  Calls : {k : ℕ} (f : Flight) {x : Words} → k < c.callers → slice_index w.now.words.gates k ≤ 1
      → CallWrite k w.now.words x → OthersMove c w (Caller k)
      (with_words_seats w x (record w.now.seats { flights = slice_set w.now.seats.flights k f }))
  Marks : {k : ℕ} (y : MarkerState) {x : Words} → k < 8 → MarkerWrite k w.now y x → OthersMove c w (Marker k)
      (with_words_seats w x (record w.now.seats { markers = slice_set w.now.seats.markers k y }))

abbrev pub WorldBehind : Config → World → Seat → Step → World
WorldBehind c w seat x = world_behind c w (record { seat = seat; step = x })

abbrev Outs : Config → World → Seat → Step → Type 0
Outs c w seat x = OthersMove c w seat (WorldBehind c w seat x)

abbrev finds : Config → World → Seat → Step → ℕ
finds c w seat x = found c w.now (record { seat = seat; step = x })

-- nothing is changed
waits_flight : (c : Config) (w : World) (k : ℕ) → OthersMove c w (Caller k) (with_words_seats w w.now.words
    (record w.now.seats { flights = slice_set w.now.seats.flights k (flight_of w.now (Caller k)) }))
waits_flight c w k = rw (set-get_or w.now.seats.flights k at_rest) Waits

-- a call that begins, as it may
abbrev begun_if : Bool → Op → Flight → Flight
begun_if b o f = (if b then record { flight = begun o; answer = None } else still f).flight

-- `enter`, if the gate is 0, and if it is held
abbrev entered : World → ℕ → Op → Bool → World
entered w k o b = with_words_seats w (record w.now.words
    { gates = slice_set w.now.words.gates k (if b then 1 else slice_index w.now.words.gates k) })
    (record w.now.seats { flights = slice_set w.now.seats.flights k (begun_if b o (flight_of w.now (Caller k))) })

enter_out : (c : Config) (w : World) (k : ℕ) (o : Op) → k < c.callers → Outs c w (Caller k) (Step.Enter o)
enter_out c w k o lt = elim (cases_eq (slice_index w.now.words.gates k) 0) [
  | inl z ↦ rw (eq-eqb _ 0 z) (Calls (begun o) lt (omega arith) (SetsGate 1 (omega arith)))
  | inr ne ↦ rw (ne_eqb _ 0 ne) (rw (set-get_or w.now.words.gates k 0) (waits_flight c w k))
]

-- the gate of a caller in a call

pub gate_one : {c : Config} {m : Moment} (k : ℕ) → Known c m → k < c.callers
    → standing (flight_of m (Caller k)) ≡ InCall → slice_index m.words.gates k ≡ 1
gate_one {c} {m} k h lt is = (shows_at c (view_of m) k InCall h.orderly lt is).0

in_call : {c : Config} {m : Moment} (k : ℕ) (x : Step) → Known c m → k < c.callers → Meets c m (Caller k) x
    → has_stage_of_its_own x ≡ true → is_call_stage (stage_of x) ≡ true → slice_index m.words.gates k ≤ 1
in_call k x known lt h own is = grind (arith, gate_one, calls_stand, is_call_stage, at_its_stage, not_astray)

-- `reg` is in a call outside the turn, unless its seat holds the turn
reg_in_call : {c : Config} {m : Moment} (k : ℕ) → Known c m → k < c.callers → is_reg_stage
    (flight_of m (Caller k)).stage ≡ true → (HoldsTurn c (view_of m) (Caller k) → ⊥) → slice_index m.words.gates k ≤ 1
reg_in_call k known lt is free = grind (arith, gate_one, standing, regs_work, is_astray, not_astray)

reg_write : (w : Words) (k : ℕ) (f : Flight) (s : Stage) → Operands f.op
    → CallWrite k w (accessed w (Named (Word.Reg k (register_met f s))) (reg_access f s))
reg_write w k f s o = grind (arith, register_small, SetsRegister, CallLoads)

ruleset call_out_facts = (at_reg, reg_write, operands_of, Calls, SetsGate, CallLoads, SetsHeap, SetsGlobal, SetsDirty)

-- markers, whoever holds the turn

in_counts : {c : Config} {m : Moment} (k : ℕ) → Known c m → k < 8 → is_in (marker_of m k) ≡ true → 8 ≤ m.words.phase
in_counts k h lt is = grind (arith, count_in-at)

marker_out : {c : Config} (w : World) (k : ℕ) (x : Step) → Known c w.now → k < 8 → group_of x ≡ Group.Markers
    → Meets c w.now (Marker k) x → Outs c w (Marker k) x
marker_out w k Step.Attend known lt g h = Marks _ lt (ComesIn (attends_at w.now.words.phase))
marker_out {c} w k Step.Quit known lt g h = Marks outside lt (GoesOut refl (in_counts k known lt h.marker))
marker_out w k (Step.Mlook y) known lt g h = grind (arith, look_stays, finds, Marks, MarkerLoads)
marker_out w k (Step.Claim p i) known lt g h = Marks _ lt (MarkerLoads refl)
marker_out w k Step.Mload known lt g h = Marks _ lt (MarkerLoads refl)
marker_out w k Step.Mmark known lt g h = grind (arith, work_attends, Marks, AddsMarks)
marker_out w k Step.Mblack known lt g h = grind (arith, work_attends, Marks, AddsBlacks)
marker_out w k _ known lt g h = cc

-- any seat that doesn't hold the turn, and takes none that is free
moves_out : {c : Config} (w : World) (seat : Seat) (x : Step) → Known c w.now
    → (is_take x ≡ true → w.now.words.turn ≢ 0)
    → (HoldsTurn c (view_of w.now) seat → ⊥) → Meets c w.now seat x → OthersMove c w seat (WorldBehind c w seat x)
moves_out {c} w seat x known held out h = by seat x (actor_of c w.now seat x known.orderly h) held out h
  where
    by : (seat : Seat) (x : Step) → Actor c w.now seat x → (is_take x ≡ true → w.now.words.turn ≢ 0)
        → (HoldsTurn c (view_of w.now) seat → ⊥) → Meets c w.now seat x → Outs c w seat x
    by seat x (InCallOf k _ lt g) held out h = grind (arith, call_out_facts, enter_out, in_call, reg_in_call)
    by seat x (AsMarker k _ lt g) held out h = marker_out w k x known lt g h
    by seat x (CallTakes k o lt idle is) held out h = rw (ne_eqb w.now.words.turn 0 (held refl)) (waits_flight c w k)
    by seat x (HostTakes free) held out h = rw (ne_eqb w.now.words.turn 0 (held refl)) Waits
    by seat x (AsHolder _ _ t n) held out h = absurd (out t)

pub others_move : (c : Config) (w : World) (seat : Seat) (x : Step) → Known c w.now → w.now.words.turn ≢ 0
    → (HoldsTurn c (view_of w.now) seat → ⊥) → Meets c w.now seat x → OthersMove c w seat (WorldBehind c w seat x)
others_move c w seat x known held = moves_out w seat x known (λ _. held)

-- While nobody holds the turn: any step but a take.
pub free_move : (c : Config) (w : World) (seat : Seat) (x : Step) → Known c w.now → w.now.words.turn ≡ 0
    → is_take x ≡ false → Meets c w.now seat x → OthersMove c w seat (WorldBehind c w seat x)
free_move c w seat x known free takes = moves_out w seat x known (λ is. absurd (true≢false (sym is ∙ takes)))
    (λ t. absurd (omega (arith, free, turn_of c (view_of w.now) seat known.orderly t)))
