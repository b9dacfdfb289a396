-- Each move keeps all in order.
use Rattle.mk_laws.proofs.Vocabulary.{Caller, Config, Flight, Holding, Host, List, Marker, MarkerState, Seat, ℕ, ap}
use Rattle.mk_laws.proofs.Vocabulary.{arith, at_rest, cases_eq, get_or-set_other, get_or-set_same, holder_number, inl}
use Rattle.mk_laws.proofs.Vocabulary.{inr, is_attending, length, length-set, nothing_done, outside, refl, slice_index}
use Rattle.mk_laws.proofs.Vocabulary.{slice_index_or, slice_set, sym, true, ◌%◌, ◌*◌, ◌+◌, ◌-◌, ◌<◌, ◌∙◌, ◌≡◌, ◌≢◌, ◌≤◌}
use Rattle.mk_laws.proofs.{Vocabulary.◌⊎◌, Orderly.{AllShow, Orderly, all_but_both, all_but_flight, all_but_gate}}
use Rattle.mk_laws.proofs.Orderly.{all_but_seat, count_in, counted_less, counted_more, counted_same, down_eight}
use Rattle.mk_laws.proofs.Orderly.{down_four, few_in, giver_shows, holder_shows, holders_flight, length_with}
use Rattle.mk_laws.proofs.Orderly.{marker_set, shows_at, taker_number, taker_shows, turn_of, up_eight, up_five, up_one}
use Rattle.mk_laws.proofs.ProtocolMoves.{Attends, Begins, Closes, Ends, Enters, Gives, GoesOn, Holds, IdlesOutside}
use Rattle.mk_laws.proofs.ProtocolMoves.{Leaves, Move, Opens, Phases, PhaseStep, Quits, Releases, Scans, Stays, Stops}
use Rattle.mk_laws.proofs.{ProtocolMoves.{Takes, Wants, Works}, Standings.{InCall, Resting, Shows, shows_given}}
use Rattle.mk_laws.proofs.{Standings.{shows_held, shows_opened, shows_taken, standing}, Views.{HoldsTurn, View}}
use Rattle.mk_laws.proofs.{Views.{flight_at, flight_in, flights_with, gate_in, marker_in}, Services.{Served, Service}}
use Rattle.mk_laws.proofs.Services.{nothing_served, served_on, service_rests, service_stands}

-- What a step of the phase leaves.

pub record PhaseKept (c : Config) (v : View) (p : ℕ) : Type 0 where
  pub phase : p ≡ p % 8 + 8 * count_in v.markers
  pub low : p % 8 ≤ 5
  pub stopped : p % 8 ≡ 3 → (k : ℕ) → k < c.callers → v.turn ≢ 1 + k → gate_in v k ≡ 2
  pub attends : (k : ℕ) → is_attending (marker_in v k).presence ≡ true → (p % 8 ≡ 1) ⊎ (p % 8 ≡ 2)

-- from a phase in which no marker attends to one that isn't the stop
quiet : {c : Config} {v : View} (p m : ℕ) → Orderly c v → (p % 8 ≡ m) × (p ≡ m + 8 * count_in v.markers) → m ≤ 5 → m ≢ 3
    → (v.phase % 8 ≡ 0) ⊎ (3 ≤ v.phase % 8) → PhaseKept c v p
quiet p m h n low no_stop idle = grind arith

pub phase_kept : {c : Config} {v : View} {seat : Seat} {p : ℕ} → Orderly c v → HoldsTurn c v seat → PhaseStep c v seat p
    → PhaseKept c v p
phase_kept {c} {v} {p} h t (Begins z) =
    quiet p _ h (up_one v.phase _ (v.phase % 8) h.phase h.low (few_in h) (omega arith)) (omega arith)
    (λ e. omega arith) (inl z)
phase_kept {c} {v} h t (Wants z) =
    let n = up_one v.phase _ (v.phase % 8) h.phase h.low (few_in h) (omega arith) in
    grind arith
phase_kept {c} {v} h t (Closes z held none) =
    let n = up_one v.phase _ (v.phase % 8) h.phase h.low (few_in h) (omega arith) in
    grind (arith, turn_of)
phase_kept {c} {v} {p} h t (Releases z) =
    quiet p _ h (up_one v.phase _ (v.phase % 8) h.phase h.low (few_in h) (omega arith)) (omega arith)
    (λ e. omega arith) (inr (omega arith))
phase_kept {c} {v} {p} h t (Ends z) = quiet p _ h (down_four v.phase _ (v.phase % 8) h.phase (few_in h) z)
    (omega arith) (λ e. omega arith) (inr (omega arith))
phase_kept {c} {v} {p} h t (Stops z) = quiet p _ h (up_five v.phase _ (v.phase % 8) h.phase (few_in h) z)
    (omega arith) (λ e. omega arith) (inl z)

flights_kept : {c : Config} {v : View} (seat : Seat) (f : Flight) → Orderly c v
    → length (flights_with v.flights seat f) ≡ c.callers
flights_kept {v} seat f h = length_with v.flights seat f ∙ h.flights

-- a caller that isn't the holder goes on
others_served : {c : Config} {v : View} (k : ℕ) (f : Flight) → Orderly c v → v.turn ≢ 1 + k
    → Served (slice_index_or (slice_set v.flights k f) (v.turn - 1) at_rest) v.holding
others_served {v} k f h ne = elim (cases_eq v.turn 0) [
  | inl z ↦ rw (h.free z) (nothing_served _ _)
  | inr held ↦ rw (get_or-set_other v.flights k (v.turn - 1) f at_rest (λ e. ne (omega arith))) h.served
]

-- the holder goes on
works_served : {c : Config} {v : View} (seat : Seat) {f : Flight} {i : Holding} → Orderly c v → HoldsTurn c v seat
    → Service (flight_at v.flights seat) v.holding f i
    → Served (slice_index_or (flights_with v.flights seat f) (v.turn - 1) at_rest) i
works_served {c} {v} seat {f = f} {i = i} h t s =
    rw (behind c v seat f i h t s) (grind (arith, served_on, holders_flight))
  where
    behind : (c : Config) (v : View) (seat : Seat) (f : Flight) (i : Holding) → Orderly c v → HoldsTurn c v seat
        → Service (flight_at v.flights seat) v.holding f i
        → slice_index_or (flights_with v.flights seat f) (v.turn - 1) at_rest ≡ f
    behind c v (Caller k) f i h t s =
        let turn = turn_of c v (Caller k) h t in
        let e : v.turn - 1 ≡ k = omega arith in
        cc (e, get_or-set_same v.flights k f at_rest (omega (arith, h.flights, t.0)))
    behind c v (Marker k) f i h t s = absurd t
    behind c v Host f i h t s = holders_flight Host h t ∙ sym (service_rests refl s)

works_shown : {c : Config} {v : View} (seat : Seat) {f : Flight} {i : Holding} → Orderly c v → HoldsTurn c v seat
    → Service (flight_at v.flights seat) v.holding f i
    → AllShow c.callers v.turn v.gates (flights_with v.flights seat f)
works_shown {c} {v} seat {f = f} {i = i} h t s = all_but_seat c v.turn seat v.gates v.flights f
    (holder_shows seat f h t (λ is. service_stands is s)) (λ b lb ne. h.each b lb)

-- a gate of another is set
gate_shown : {c : Config} {v : View} (j x : ℕ) → c.callers ≤ 16 → Orderly c v → j < c.callers
    → Shows v.turn x j (standing (flight_in v j)) → AllShow c.callers v.turn (slice_set v.gates j x) v.flights
gate_shown {v} j x small h lj s = all_but_gate _ _ j x v.gates _ (omega (arith, h.gates)) s (λ b lb nb. h.each b lb)

-- one gate is set to 2, or stays
held_or : (gs : List ℕ) (j b : ℕ) → j < length gs → (b ≢ j → slice_index gs b ≡ 2)
    → slice_index (slice_set gs j 2) b ≡ 2
held_or gs j b lt other = elim (cases_eq b j) [
  | inl e ↦ rw e (get_or-set_same gs j 2 0 lt)
  | inr ne ↦ get_or-set_other gs j b 2 0 ne ∙ other ne
]

-- if the turn, the phase and the markers stay
seats_kept : {c : Config} {v : View} (fs : List Flight) (gs : List ℕ) (i : Holding) → Orderly c v
    → length fs ≡ c.callers → length gs ≡ 16 → AllShow c.callers v.turn gs fs
    → Served (slice_index_or fs (v.turn - 1) at_rest) i → (v.turn ≡ 0 → i ≡ nothing_done)
    → (v.phase % 8 ≡ 3 → (k : ℕ) → k < c.callers → v.turn ≢ 1 + k → slice_index gs k ≡ 2)
    → Orderly c (record v { flights = fs; gates = gs; holding = i })
seats_kept fs gs i h flights gates each served free stopped = grind arith

-- if the turn is taken or given
turn_kept : {c : Config} {v : View} (fs : List Flight) (t : ℕ) → Orderly c v → length fs ≡ c.callers → t ≤ 1 + c.callers
    → AllShow c.callers t v.gates fs → (2 ≤ v.phase % 8 → v.phase % 8 ≤ 4 → t ≢ 0)
    → (v.phase % 8 ≡ 3 → (k : ℕ) → k < c.callers → t ≢ 1 + k → gate_in v k ≡ 2)
    → Orderly c (record v { flights = fs; turn = t; holding = nothing_done })
turn_kept fs t h flights turn each cycle stopped = grind (arith, nothing_served)

-- if the markers change, and how many of them are in, but not how far the phase is
markers_kept : {c : Config} {v : View} (k : ℕ) (x : MarkerState) (p : ℕ) → Orderly c v → p % 8 ≡ v.phase % 8
    → p ≡ v.phase % 8 + 8 * count_in (slice_set v.markers k x)
    → (is_attending x.presence ≡ true → (v.phase % 8 ≡ 1) ⊎ (v.phase % 8 ≡ 2)) → (k < length v.markers → IdlesOutside x)
    → Orderly c (record v { phase = p; markers = slice_set v.markers k x })
markers_kept {v} k x p h same count own idle = record {
  flights = h.flights;
  gates = h.gates;
  markers = length-set v.markers k x ∙ h.markers;
  turn = h.turn;
  each = h.each;
  served = h.served;
  free = h.free;
  phase = omega (arith, count, same);
  low = omega (arith, same, h.low);
  cycle = λ a b. h.cycle (omega (arith, same)) (omega (arith, same));
  stopped = λ e. h.stopped (omega (arith, same));
  attends = λ b a. rw same (marker_set v.markers k b x (λ (y : MarkerState). is_attending y.presence ≡ true
      → (v.phase % 8 ≡ 1) ⊎ (v.phase % 8 ≡ 2)) (λ lk. own) (h.attends b) a);
  idle = λ b. marker_set v.markers k b x (λ (y : MarkerState). IdlesOutside y) idle (h.idle b);
}

pub kept : {c : Config} {v : View} {seat : Seat} {n : View} → c.callers ≤ 16 → Orderly c v → Move c v seat n
    → Orderly c n
kept small h Stays = h
kept {c} {v} small h (Enters {k} f lt free was is) =
    let s = shows_at c v k Resting h lt was in
    let g : gate_in v k ≡ 0 = free in
    seats_kept _ _ v.holding h (length-set v.flights k f ∙ h.flights) (length-set v.gates k 1 ∙ h.gates) (all_but_both
    c.callers v.turn k 1 v.gates v.flights f (omega (arith, h.gates)) (omega (arith, h.flights)) (rw is (refl, s.3))
    h.each) (others_served k f h s.3) h.free (λ e b lb ne. absurd (omega (arith, g, h.stopped e k lt s.3)))
kept {c} {v} small h (GoesOn {k} f lt was is) =
    let s = shows_at c v k InCall h lt was in
    seats_kept _ v.gates v.holding h (length-set v.flights k f ∙ h.flights) h.gates
    (all_but_flight c.callers v.turn k v.gates v.flights f (omega (arith, h.flights)) (rw is s)
    (λ b lb ne. h.each b lb)) (others_served k f h s.1) h.free h.stopped
kept {c} {v} small h (Leaves {k} lt was) =
    let s = shows_at c v k InCall h lt was in
    let g : gate_in v k ≡ 1 = s.0 in
    seats_kept _ _ v.holding h (length-set v.flights k at_rest ∙ h.flights) (length-set v.gates k 0 ∙ h.gates)
    (all_but_both c.callers v.turn k 0 v.gates v.flights at_rest (omega (arith, h.gates)) (omega (arith, h.flights))
    (λ e. absurd (omega arith), omega arith, λ e. refl, s.1) h.each)
    (others_served k at_rest h s.1) h.free (λ e b lb ne. absurd (omega (arith, g, h.stopped e k lt s.1)))
kept {c} {v} {seat} small h (Takes f z may) = turn_kept _ _ h (flights_kept seat f h) (omega (
  arith,
  taker_number c v
      seat f may,
)) (all_but_seat c (1 + holder_number c seat) seat v.gates v.flights f (taker_shows seat f h z may) (λ b
    lb ne. shows_taken (gate_in v b) b (holder_number c seat) (standing (flight_in v b)) ne (rw z at (h.each b lb))))
    (λ a b e. absurd (omega arith)) (λ e. absurd (h.cycle (omega arith) (omega arith) z))
kept {c} {v} {seat} small h (Gives t none at) =
    let turn = turn_of c v seat h t in
    turn_kept _ 0 h (flights_kept seat at_rest h) (omega arith)
    (all_but_seat c 0 seat v.gates v.flights at_rest (giver_shows seat h t)
    (λ b lb ne. shows_given v.turn (gate_in v b) b (holder_number c seat) (standing (flight_in v b)) ne turn
    (none b lb) (h.each b lb)))
    (λ a b. elim at [ inl l ↦ absurd (omega arith) | inr l ↦ absurd (omega arith) ])
    (λ e. elim at [ inl l ↦ absurd (omega arith) | inr l ↦ absurd (omega arith) ])
kept small h (Works f i t s) = grind (arith, turn_of, length_with, works_shown, works_served)
kept {c} {v} {seat} small h (Holds j t lj ne was) =
    let turn = turn_of c v seat h t in
    seats_kept v.flights _ v.holding h h.flights (length-set v.gates j 2 ∙ h.gates) (gate_shown j 2 small h lj
    (shows_held v.turn j (holder_number c seat) (standing (flight_in v j)) ne turn (rw was at (h.each j lj)))) h.served
    h.free (λ e k lk nk. held_or v.gates j k (omega (arith, h.gates)) (λ _. h.stopped e k lk nk))
kept {c} {v} {seat} small h (Opens j t lj ne was open3) =
    let turn = turn_of c v seat h t in
    seats_kept v.flights _ v.holding h h.flights (length-set v.gates j 0 ∙ h.gates)
    (gate_shown j 0 small h lj (shows_opened v.turn j (holder_number c seat) (standing (flight_in v j)) ne turn
    (rw was at (h.each j lj)))) h.served h.free (λ e. absurd (open3 e))
kept small h (Phases i {n = p} t same_place same_run step) = grind (arith, turn_of, phase_kept, served_on, flight_in)
kept {c} {v} small h (Attends {k} x lt was is at idle) =
    let more = counted_more v.markers k x (omega (arith, h.markers)) was is in
    let up = up_eight v.phase (count_in v.markers) (v.phase % 8) h.phase h.low (few_in h) in
    markers_kept k x _ h up.0 (omega (arith, up.1, more)) (λ y. inl (at y)) (λ lk _. idle)
kept {c} {v} small h (Quits {k} lt was) =
    let less = counted_less v.markers k outside (omega (arith, h.markers)) was refl in
    let down = down_eight v.phase (count_in v.markers) (count_in (slice_set v.markers k outside))
    (v.phase % 8) h.phase h.low (few_in h) less in
    markers_kept k outside _ h down.0 (omega (arith, down.1)) (λ y. cc)
    (λ lk _. record { scan = refl; hand = refl; seen = refl })
kept {c} {v} {n} small h (Scans {k} x lt same idle) =
    let less = counted_same v.markers k x (omega (arith, h.markers)) same in
    markers_kept k x v.phase h refl (h.phase ∙ ap (λ n. v.phase % 8 + 8 * n) (sym less))
    (λ y. h.attends k (rw (← same) y)) (λ lk. idle (h.idle k))
