-- Who waits for whom: nobody waits in a ring, and whoever is waited for gets out of the way.
use Rattle.std.specs.Prelude.{◌≡◌, ◌≢◌, ◌⊎◌, ℕ, suc, zero, ◌<◌, Bool, true, false, not, List, ◌∷◌, [], ◌++◌, Option}
use Rattle.std.specs.{Prelude.slice_index, List.list_any}
use Rattle.mk_never.specs.{declared.operations.Op.Op, Admitted.IsAdmitted}
use Rattle.mk_core.specs.declared.{config.Config.Config, events.{Event.Event, Seat.Seat}}
use Rattle.mk_core.specs.declared.events.{Seat.TheVariants.{Caller, Marker}, Step.Step}
use Rattle.mk_core.specs.{declared.seats.Stage.Stage, Calls.{at_rest, is_same_stage}, History.AreOfOthers}
use Rattle.mk_core.specs.{History.{IsHistory, left, never_behind}, Conditions.{group_of, is_in_order, is_open_to}}
use Rattle.mk_core.specs.{Conditions.seat_exists, Moments.{Moment, flight_of, marker_at, marker_of, outside}}
use Rattle.mk_core.specs.Readings.{Holds, is_in, is_in_call}

-- The seat is in the middle of nothing: it has no call in flight, and as a marker it is out.
pub record Rests (m : Moment) (s : Seat) : Type 0 where
  pub call : flight_of m s ≡ at_rest
  pub out : marker_at m s ≡ outside

-- The step is one that the seat comes to next, in the order of its steps.
pub record ComesTo (c : Config) (m : Moment) (s : Seat) (x : Step) : Type 0 where
  pub seat : seat_exists c s ≡ true
  pub kind : is_open_to s (group_of x) ≡ true
  pub order : is_in_order c m s x ≡ true

-- the steps of the turn's holder that come only while no marker attends
abbrev pub needs_markers_out : Step → Bool
needs_markers_out Step.Close = true
needs_markers_out (Step.Undirty p) = true
needs_markers_out (Step.Black p v) = true
needs_markers_out (Step.Unblack p) = true
needs_markers_out _ = false

-- This step of a seat has to wait, since another must do something first: the other has the turn; or it has the turn,
-- and holds the gate of the seat; or it is in a call, so that its gate can't be held; or it is a marker that is in.
pub data IsKeptBy (c : Config) (m : Moment) : Seat → Step → Seat → Type 0 where
  Turn : (s t : Seat) (o : Option Op) → Holds c m t → IsKeptBy c m s (Step.Take o) t
  Gate : (k : ℕ) (t : Seat) (o : Op) → slice_index m.words.gates k ≡ 2 → Holds c m t
      → IsKeptBy c m (Caller k) (Step.Enter o) t
  Call : (s : Seat) (k : ℕ) → slice_index m.words.gates k ≡ 1 → IsKeptBy c m s (Step.Hold k) (Caller k)
  Mark : (s : Seat) (x : Step) (k : ℕ) → needs_markers_out x ≡ true → is_in (marker_of m k) ≡ true
      → IsKeptBy c m s x (Marker k)

-- s waits for t: its next step has to.
pub record WaitsFor (c : Config) (m : Moment) (s t : Seat) : Type 0 where
  pub step : Step
  pub next : ComesTo c m s step
  pub kept : IsKeptBy c m s step t

-- the events, with a step of this seat after them
abbrev pub with_step : Seat → Step → List Event → List Event
with_step t x es = es ++ record { seat = t; step = x } ∷ []

-- Whatever others do first, this step of the seat may come then, and P holds after it.
abbrev pub Goes : Config → List Event → Seat → Step → (List Event → Type 0) → Type 0
Goes c es t x P =
    (more : List Event) → IsHistory c (es ++ more) → AreOfOthers (t ∷ []) more
    → IsHistory c (with_step t x (es ++ more)) × P (with_step t x (es ++ more))

-- By at most this many steps of its own, each of which may come whatever others did, the seat comes to rest.
unfoldable pub RestsWithin : ℕ → Config → List Event → Seat → Type 0
RestsWithin zero c es t = Rests (left c es).now t
RestsWithin (suc n) c es t =
    Rests (left c es).now t ⊎ ((x : Step) × Goes c es t x (λ (fs : List Event). RestsWithin n c fs t))

-- Seven are enough: those of a compare and exchange after its `enter`.
abbrev pub StepsAside : Config → List Event → Seat → Type 0
StepsAside c es t = RestsWithin 7 c es t

-- The call has still to be decided.
abbrev pub is_undecided : Stage → Bool
is_undecided s =
    not (list_any (is_same_stage s) (Stage.Idle ∷ Stage.Put ∷ Stage.Dirty ∷ Stage.Leave ∷ Stage.Give ∷ []))

-- The operations of calls that aren't decided yet are admitted, as those of a checked program are.
abbrev pub CallsInFlightAreAdmitted : Config → List Event → Type 0
CallsInFlightAreAdmitted c es =
    (k : ℕ) → k < c.callers → is_in_call (flight_of (left c es).now (Caller k)) ≡ true
    → is_undecided (flight_of (left c es).now (Caller k)).stage ≡ true
    → IsAdmitted c.globals (never_behind c es) k (flight_of (left c es).now (Caller k)).op

-- s waits for another, who has the turn or steps aside; if s itself has the turn, the other steps aside.
pub record WaitEnds (c : Config) (es : List Event) (s t : Seat) : Type 0 where
  pub another : s ≢ t
  pub goes_on : Holds c (left c es).now t ⊎ StepsAside c es t
  pub holder : Holds c (left c es).now s → StepsAside c es t

-- So there is no ring: of three that wait for one another in a row the last waits for nobody.
pub record NobodyWaitsInARing (c : Config) (es : List Event) : Type 0 where
  pub ends : (s t : Seat) → WaitsFor c (left c es).now s t → WaitEnds c es s t
  pub short :
      (s t u v : Seat) → WaitsFor c (left c es).now s t → WaitsFor c (left c es).now t u
      → WaitsFor c (left c es).now u v → ⊥

-- They are where all callers rest.
abbrev pub RestingCallsAreAdmitted : Type 0
RestingCallsAreAdmitted = (c : Config) (es : List Event)
    → ((k : ℕ) → k < c.callers → Rests (left c es).now (Caller k)) → CallsInFlightAreAdmitted c es

-- So it is at each moment of a history, if the calls in flight at its end are admitted.
abbrev pub NobodyEverWaitsInARing : Config → List Event → Type 0
NobodyEverWaitsInARing c es = CallsInFlightAreAdmitted c es → (front more : List Event) → es ≡ front ++ more
    → NobodyWaitsInARing c front
