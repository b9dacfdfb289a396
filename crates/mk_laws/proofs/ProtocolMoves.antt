-- The moves of the protocol: what an event may do to what it reads.
use Rattle.mk_laws.proofs.Vocabulary.{Caller, Config, Flight, Holding, Host, IsIdle, Marker, MarkerState, Seat, ℕ}
use Rattle.mk_laws.proofs.Vocabulary.{at_rest, false, holder_number, is_attending, is_in, nothing_done, outside}
use Rattle.mk_laws.proofs.Vocabulary.{slice_set, true, ◌%◌, ◌+◌, ◌-◌, ◌<◌, ◌^◌, ◌≡◌, ◌≢◌, ◌≤◌, ◌⊎◌}
use Rattle.mk_laws.proofs.{Standings.{InCall, Resting, UnderTurn, standing}, Views.{HoldsTurn, View, flight_at}}
use Rattle.mk_laws.proofs.{Views.{flight_in, flights_with, gate_in, marker_in}, Services.Service}

-- the seat may take the turn, with this call
abbrev pub MayTake : Config → View → Seat → Flight → Type 0
MayTake c v (Caller k) f = (k < c.callers) × (standing (flight_in v k) ≡ Resting) × (standing f ≡ UnderTurn)
MayTake c v (Marker k) f = ⊥
MayTake c v Host f = Unit {0}

-- the gates of all others are held
abbrev pub OthersAreHeld : Config → View → Seat → Type 0
OthersAreHeld c v seat = (j : ℕ) → j < c.callers → holder_number c seat ≢ j → gate_in v j ≡ 2

-- A marker that doesn't attend is in the middle of nothing.
abbrev pub IdlesOutside : MarkerState → Type 0
IdlesOutside x = is_attending x.presence ≡ false → IsIdle x

-- how the holder moves the phase on
pub data PhaseStep (c : Config) (v : View) (seat : Seat) : ℕ → Type 0 where
  Begins : v.phase % 8 ≡ 0 → PhaseStep c v seat ((v.phase + 1) % 2 ^ 64)
  Wants : v.phase % 8 ≡ 1 → PhaseStep c v seat ((v.phase + 1) % 2 ^ 64)
  Closes : v.phase % 8 ≡ 2 → OthersAreHeld c v seat → ((k : ℕ) → is_attending (marker_in v k).presence ≡ false)
      → PhaseStep c v seat ((v.phase + 1) % 2 ^ 64)
  Releases : v.phase % 8 ≡ 3 → PhaseStep c v seat ((v.phase + 1) % 2 ^ 64)
  Ends : v.phase % 8 ≡ 4 → PhaseStep c v seat ((v.phase + (2 ^ 64 - 4)) % 2 ^ 64)
  Stops : v.phase % 8 ≡ 0 → PhaseStep c v seat ((v.phase + 5) % 2 ^ 64)

-- from what a seat finds to what it leaves
pub data Move (c : Config) (v : View) : Seat → View → Type 0 where
  Stays : {seat : Seat} → Move c v seat v
  Enters : {k : ℕ} (f : Flight) → k < c.callers → gate_in v k ≡ 0 → standing (flight_in v k) ≡ Resting
      → standing f ≡ InCall
      → Move c v (Caller k) (record v { gates = slice_set v.gates k 1; flights = slice_set v.flights k f })
  GoesOn : {k : ℕ} (f : Flight) → k < c.callers → standing (flight_in v k) ≡ InCall → standing f ≡ InCall
      → Move c v (Caller k) (record v { flights = slice_set v.flights k f })
  Leaves : {k : ℕ} → k < c.callers → standing (flight_in v k) ≡ InCall
      → Move c v (Caller k) (record v { gates = slice_set v.gates k 0; flights = slice_set v.flights k at_rest })
  Takes : {seat : Seat} (f : Flight) → v.turn ≡ 0 → MayTake c v seat f → Move c v seat (record v {
    flights = flights_with v.flights seat f;
    turn = 1 + holder_number c seat;
    holding = nothing_done;
  })
  Gives : {seat : Seat} → HoldsTurn c v seat → ((j : ℕ) → j < c.callers → gate_in v j ≢ 2)
      → (v.phase % 8 ≤ 1) ⊎ (v.phase % 8 ≡ 5)
      → Move c v seat (record v { flights = flights_with v.flights seat at_rest; turn = 0; holding = nothing_done })
  Works : {seat : Seat} (f : Flight) (h : Holding) → HoldsTurn c v seat
      → Service (flight_at v.flights seat) v.holding f h
      → Move c v seat (record v { flights = flights_with v.flights seat f; holding = h })
  Holds : {seat : Seat} (j : ℕ) → HoldsTurn c v seat → j < c.callers → holder_number c seat ≢ j → gate_in v j ≡ 0
      → Move c v seat (record v { gates = slice_set v.gates j 2 })
  Opens : {seat : Seat} (j : ℕ) → HoldsTurn c v seat → j < c.callers → holder_number c seat ≢ j → gate_in v j ≡ 2
      → v.phase % 8 ≢ 3 → Move c v seat (record v { gates = slice_set v.gates j 0 })
  Phases : {seat : Seat} (h : Holding) {n : ℕ} → HoldsTurn c v seat → h.placing ≡ v.holding.placing
      → h.freed ≡ v.holding.freed → PhaseStep c v seat n → Move c v seat (record v { phase = n; holding = h })
  Attends : {k : ℕ} (x : MarkerState) → k < 8 → is_in (marker_in v k) ≡ false → is_in x ≡ true
      → (is_attending x.presence ≡ true → v.phase % 8 ≡ 1)
      → IsIdle x → Move c v (Marker k) (record v { phase = (v.phase + 8) % 2 ^ 64; markers = slice_set v.markers k x })
  Quits : {k : ℕ} → k < 8 → is_in (marker_in v k) ≡ true → Move c v (Marker k)
      (record v { phase = (v.phase + (2 ^ 64 - 8)) % 2 ^ 64; markers = slice_set v.markers k outside })
  Scans : {k : ℕ} (x : MarkerState) → k < 8 → x.presence ≡ (marker_in v k).presence
      → (IdlesOutside (marker_in v k) → IdlesOutside x)
      → Move c v (Marker k) (record v { markers = slice_set v.markers k x })
