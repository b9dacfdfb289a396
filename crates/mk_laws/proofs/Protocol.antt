-- Who holds what: the turn, the gates, the phase and the markers, after every enabled list of events.
use Rattle.std.specs.Prelude.{◌≡◌, ◌≢◌, ◌⊎◌, ◌↔◌, ℕ, ◌+◌, ◌/◌, ◌<◌, ◌≤◌, Bool, true, false, List, length, slice_index}
use Rattle.std.specs.{Prelude.{Some, None, count_by}, List.list_any}
use Rattle.mk_never.specs.declared.operations.Op.{Op}
use Rattle.mk_never.specs.declared.operations.Op.TheVariants as op
use Rattle.mk_core.specs.declared.{config.Config.Config, events.{Seat.TheVariants.Caller, Event.Event}}
use Rattle.mk_core.specs.declared.seats.{Stage.Stage, Flight.Flight, Placing.Placing}
use Rattle.mk_core.specs.declared.seats.Stage.TheVariants as stage
use Rattle.mk_core.specs.declared.seats.{Placing.TheVariants.Granted, Marker.Marker, RunPages.RunPages}
use Rattle.mk_core.specs.{Moments.IsWithinLimits, Words.phase_of, Calls.{has_operands, steps_of, is_same_stage}}
use Rattle.mk_core.specs.{NewPlaces.is_undecided_new, Moments.{Moment, flight_of, marker_of, nothing_done}}
use Rattle.mk_core.specs.{MarkingConditions.is_attending, History.{left, AreEnabled}, Readings.{is_in_call, is_in_turn}}
use Rattle.mk_core.specs.Readings.{is_in}
use Rattle.mk_laws.specs.Theorems.{has_place}

-- The operation has a stage. A refused Lea stores null, at a stage that it hasn't else.
abbrev pub has_stage : Op → Stage → Bool
has_stage o stage.Idle = true
has_stage (op.Lea d q i) stage.Put = true
has_stage o s = list_any (is_same_stage s) (steps_of o)

-- a decided New, about to give the turn back
abbrev pub is_decided_new_at : Stage → Op → Bool
is_decided_new_at stage.Give (op.New d ty full) = true
is_decided_new_at _ _ = false

-- a decided Free, about to give the turn back
abbrev pub is_decided_free_at : Stage → Op → Bool
is_decided_free_at stage.Give (op.Free p) = true
is_decided_free_at _ _ = false

-- the call is a decided New
abbrev pub is_decided_new : Flight → Bool
is_decided_new f = is_decided_new_at f.stage f.op

-- the call is a decided Free
abbrev pub is_decided_free : Flight → Bool
is_decided_free f = is_decided_free_at f.stage f.op

-- its object is granted
abbrev pub is_granted : Placing → Bool
is_granted Granted = true
is_granted _ = false

-- A marker is in the middle of nothing.
pub record IsIdle (x : Marker) : Type 0 where
  pub scan : x.scan ≡ None
  pub hand : x.hand ≡ None
  pub seen : x.seen ≡ None

-- There is a caller whose call is so.
pub record SomeCaller (c : Config) (m : Moment) (test : Flight → Bool) : Type 0 where
  pub caller : ℕ
  pub within : caller < c.callers
  pub holds : test (flight_of m (Caller caller)) ≡ true

-- Who has the turn, who holds which gate, who is in a call, and what each may be in the middle of.
pub record Protocol (c : Config) (m : Moment) : Type 0 where
  -- Each caller has a call or none, and there are eight markers.
  pub callers : length m.seats.flights ≡ c.callers
  pub markers : length m.seats.markers ≡ 8
  -- The phase word is a phase, and above it the count of the markers that are in.
  pub low : phase_of m.words ≤ 5
  pub high : m.words.phase / 8 ≡ count_by is_in m.seats.markers
  -- The turn word is 0, or 1 plus the number of a caller or of the host.
  pub turn : m.words.turn ≤ 1 + c.callers
  -- A gate is 1 exactly in a call of its caller outside the turn.
  pub gate : (k : ℕ) → k < c.callers → slice_index m.words.gates k ≤ 2
  pub in_call : (k : ℕ) → k < c.callers
      → (slice_index m.words.gates k ≡ 1) ↔ (is_in_call (flight_of m (Caller k)) ≡ true)
  -- A gate is held only while another seat than its caller has the turn.
  pub held : (k : ℕ) → k < c.callers → slice_index m.words.gates k ≡ 2 → (m.words.turn ≢ 0) × (m.words.turn ≢ 1 + k)
  -- The turn word names a caller exactly if it is in a New or a Free.
  pub holder : (k : ℕ) → k < c.callers → (m.words.turn ≡ 1 + k) ↔ (is_in_turn (flight_of m (Caller k)) ≡ true)
  -- A call is at a stage that its operation has.
  pub stage : (k : ℕ) → k < c.callers → has_stage (flight_of m (Caller k)).op (flight_of m (Caller k)).stage ≡ true
  -- Its registers, its global and its type are there.
  pub operands : (k : ℕ) → has_operands c (flight_of m (Caller k)).op ≡ true
  -- While a stop is wanted or made, and up to the end of releasing, somebody has the turn.
  pub cycle : 2 ≤ phase_of m.words → phase_of m.words ≤ 4 → m.words.turn ≢ 0
  -- Between `close` and `release` the gates of all but the holder are held.
  pub stopped : phase_of m.words ≡ 3 → (k : ℕ) → k < c.callers → m.words.turn ≢ 1 + k → slice_index m.words.gates k ≡ 2
  -- A marker attends only while cells are marked, or a stop is wanted.
  pub attends : (k : ℕ) → is_attending (marker_of m k).presence ≡ true → (phase_of m.words ≡ 1) ⊎ (phase_of m.words ≡ 2)
  -- One that doesn't attend is in the middle of nothing.
  pub idle : (k : ℕ) → is_attending (marker_of m k).presence ≡ false → IsIdle (marker_of m k)
  -- While nobody has the turn, nothing is done under it.
  pub free : m.words.turn ≡ 0 → m.seats.holding ≡ nothing_done
  -- Only an undecided New has a place, and only one that is decided has got its object.
  pub placed : has_place m.seats.holding.placing ≡ true → SomeCaller c m is_undecided_new
  pub granted : is_granted m.seats.holding.placing ≡ true → SomeCaller c m is_decided_new
  -- Only a Free that is decided unmaps a run.
  pub freed : (run : RunPages) → m.seats.holding.freed ≡ Some run → SomeCaller c m is_decided_free

-- So it is after every enabled list within limits, whether its calls are admitted or not.
abbrev pub ListsKeepTheProtocol : Type 0
ListsKeepTheProtocol = (c : Config) (es : List Event) → IsWithinLimits c → AreEnabled c es → Protocol c (left c es).now
