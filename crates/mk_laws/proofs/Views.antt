-- What the protocol reads of a moment, and who holds the turn by it.
use Rattle.mk_laws.proofs.Vocabulary.{Caller, Config, Flight, Holding, Host, List, Marker, MarkerState, Moment, Seat, ℕ}
use Rattle.mk_laws.proofs.Vocabulary.{at_rest, flight_of, outside, refl, slice_index, slice_index_or, slice_set, ◌+◌}
use Rattle.mk_laws.proofs.{Vocabulary.{◌<◌, ◌≡◌}, Standings.{UnderTurn, standing}}

pub record View : Type 0 where
  pub turn : ℕ
  pub phase : ℕ
  pub gates : List ℕ
  pub flights : List Flight
  pub holding : Holding
  pub markers : List MarkerState

abbrev pub view_of : Moment → View
view_of m = record {
  turn = m.words.turn;
  phase = m.words.phase;
  gates = m.words.gates;
  flights = m.seats.flights;
  holding = m.seats.holding;
  markers = m.seats.markers;
}

abbrev pub flight_in : View → ℕ → Flight
flight_in v k = slice_index_or v.flights k at_rest

abbrev pub gate_in : View → ℕ → ℕ
gate_in v k = slice_index v.gates k

abbrev pub marker_in : View → ℕ → MarkerState
marker_in v k = slice_index_or v.markers k outside

-- a seat's call among these, and with another call of it
abbrev pub flight_at : List Flight → Seat → Flight
flight_at fs (Caller k) = slice_index_or fs k at_rest
flight_at fs _ = at_rest

abbrev pub flights_with : List Flight → Seat → Flight → List Flight
flights_with fs (Caller k) f = slice_set fs k f
flights_with fs _ f = fs

pub flight_is : (m : Moment) (seat : Seat) → flight_of m seat ≡ flight_at m.seats.flights seat
flight_is m (Caller k) = refl
flight_is m _ = cc

-- the seat holds the turn
abbrev pub HoldsTurn : Config → View → Seat → Type 0
HoldsTurn c v (Caller k) = (k < c.callers) × (standing (flight_in v k) ≡ UnderTurn)
HoldsTurn c v (Marker k) = ⊥
HoldsTurn c v Host = v.turn ≡ 1 + c.callers
