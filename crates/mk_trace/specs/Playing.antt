-- Playing a trace: the operations that its events make, given their answers, on a heap of one caller whose globals are
-- the slots.
use Rattle.std.specs.Prelude.{◌≡◌, ℕ, ◌+◌, ◌-◌, Bool, true, false, ◌&&◌, if◌then◌else◌, List, [], ◌∷◌, ◌++◌, length}
use Rattle.std.specs.{Prelude.{map, replicate, take, drop, ◌<◌, ◌≤◌, get_or, All}, List.{list_any, range_with_len}}
use Rattle.mk_never.specs.{declared.types.Kind.Kind, declared.types.Kind.TheVariants.{Num, To}}
use Rattle.mk_never.specs.{declared.operations.Op.Op, declared.operations.Op.TheVariants.{New, Free, SetNum, SetPtr}}
use Rattle.mk_never.specs.{declared.operations.Op.TheVariants.{Clear, GetGlobal, SetGlobal}, NeverHeap.Call}
use Rattle.mk_core.specs.{declared.config.Config.Config, declared.events.Answer.Answer, declared.events.Event.Event}
use Rattle.mk_core.specs.{declared.events.Seat.Seat, declared.events.Seat.TheVariants.{Caller, Host}}
use Rattle.mk_core.specs.{Counts.is_full_answer, Calls.{asked, answered}, History.{is_same_seat, calls, left}}
use Rattle.mk_core.specs.{Allocations.PlacedAllocation, Moments.{IsBetween, IsWithinLimits}}
use Rattle.mk_heap.specs.Below.Laws.{Releases.CyclesArePrecise, Promises.KeepsAllPromises}
pub use Rattle.mk_check.specs.Feed.{is_refusal}
use Rattle.mk_heap.specs.{Below.Objects.TurnCycles.{TurnsOfAreExact, is_of_cycle}, Hosts.IsWhole}
use Rattle.mk_heap.specs.{Below.Objects.Bounds.QuarantineIsBounded, Unswept.{IsUnswept, SeatSweepsNothing}}
use Rattle.mk_trace.specs.{declared.trace.TraceEvent.TraceEvent, declared.trace.TraceEvent.TheVariants.{A, K, F, C, W}}
use Rattle.mk_trace.specs.{declared.peaks.Peaks.Peaks, Peaks.peaks_of, Grammar.{Contents, slot_of}}
use Rattle.mk_heap.specs.Hosts as report

-- The type of a slot's objects: a pointer to such an object, and numbers.
abbrev pub slot_type : ℕ → ℕ → List Kind
slot_type slot words = To slot 0 ∷ replicate (words - 1) Num

-- the types of slots, the first of which has this number
abbrev pub types_from : ℕ → List ℕ → List (List Kind)
types_from slot [] = []
types_from slot (words ∷ slots) = slot_type slot words ∷ types_from (slot + 1) slots

-- the heap that a trace is played on
abbrev pub config_of : Contents → Config
config_of trace =
    record {
      pages = trace.pages;
      resident = trace.resident;
      callers = 1;
      markers = 0;
      types = types_from 0 trace.slots;
      globals = range_with_len 0 (length trace.slots);
    }

-- The operations of an event, where a New of its is full, or isn't. After each all registers are null.
abbrev pub ops_of : Bool → TraceEvent → List Op
ops_of false (A slot) = New 0 slot false ∷ SetGlobal slot 0 ∷ Clear 0 ∷ []
ops_of false (K slot) =
    New 0 slot false ∷ GetGlobal 1 slot ∷ SetPtr 0 0 1 ∷ SetGlobal slot 0 ∷ Clear 0 ∷ Clear 1 ∷ []
ops_of true (A slot) = New 0 slot true ∷ Clear 0 ∷ []
ops_of true (K slot) = New 0 slot true ∷ Clear 0 ∷ Clear 1 ∷ []
ops_of full (F slot) = GetGlobal 0 slot ∷ Free 0 ∷ Clear 0 ∷ []
ops_of full (C slot) = SetGlobal slot 0 ∷ []
ops_of full (W slot index value) = GetGlobal 0 slot ∷ SetNum 0 index value ∷ Clear 0 ∷ []

-- What the first of these answers says.
abbrev pub begins_full : List Answer → Bool
begins_full [] = false
begins_full (first ∷ answers) = is_full_answer first

-- the operations of the events, where these are the answers
abbrev pub ops_played : List TraceEvent → List Answer → List Op
ops_played [] answers = []
ops_played (event ∷ events) answers =
    let ops = ops_of (begins_full answers) event in ops ++ ops_played events (drop (length ops) answers)

-- how many of the events are refused: one of their own answers is a refusal
abbrev pub refused_events : List TraceEvent → List Answer → ℕ
refused_events [] answers = 0
refused_events (event ∷ events) answers =
    let count = length (ops_of (begins_full answers) event) in
    let later = refused_events events (drop count answers) in
    if list_any is_refusal (take count answers) then later + 1 else later

-- the operations as calls of the one caller
abbrev pub calls_of_caller : List Op → List Call
calls_of_caller ops = map (λ (o : Op). record { caller = 0; op = o }) ops

-- No step of the seat begins a cycle or ends one.
abbrev pub MakesNoCycle : Seat → List Event → Type 0
MakesNoCycle s es = list_any (λ (e : Event). is_same_seat s e.seat && is_of_cycle e.step) es ≡ false

-- A history is what playing the trace makes.
pub record IsPlayed (trace : Contents) (es : List Event) : Type 0 where
  -- It is a history of one heap for the trace, and tidy, and no call of it is under way.
  pub whole : IsWhole (config_of trace) es
  -- Its answers are those of the heap that never reuses storage, and all else holds of it that is promised of every
  -- history.
  pub promises : KeepsAllPromises (config_of trace) es
  -- Its calls are those of the trace's events, in order, given their answers.
  pub ops : asked (calls (config_of trace) es)
      ≡ calls_of_caller (ops_played trace.events (answered (calls (config_of trace) es)))
  -- A Free begins a cycle exactly where it is due, and ends it in its call. A New begins or ends one only where its
  -- object fits nowhere. The host makes none.
  pub cycles : TurnsOfAreExact false (config_of trace) (Caller 0) es
  pub host : MakesNoCycle Host es
  -- No mark is a sweeping one. So each cycle releases all of its snapshot that no pointer led to from the `begin` to
  -- the `close`, and after its `end` that storage counts as free.
  pub unswept : IsUnswept (config_of trace) es
  pub precise : CyclesArePrecise (config_of trace) es
  -- What quarantine costs: where nobody holds the turn, what was freed since the last `begin` is at most a quarter of
  -- what is held, the last cycle kept the rest, and freed large objects take no memory.
  pub bounded : QuarantineIsBounded false (config_of trace) es

-- the history of the heap on which the trace was played
abbrev pub history_of : Peaks → List Event
history_of peaks = report.history_of peaks.report

-- The peaks of a trace whose playing made this history.
pub record ArePeaks (trace : Contents) (es : List Event) (peaks : Peaks) : Type 0 where
  pub events : peaks.events ≡ length trace.events
  pub refused : peaks.refused ≡ refused_events trace.events (answered (calls (config_of trace) es))
  pub held : peaks.held ≡ (peaks_of (config_of trace) es).held
  pub quarantined : peaks.quarantined ≡ (peaks_of (config_of trace) es).quarantined
  pub reserved : peaks.reserved ≡ (peaks_of (config_of trace) es).reserved
  pub cycles : peaks.cycles ≡ (peaks_of (config_of trace) es).cycles
  pub ages : peaks.ages.items ≡ (peaks_of (config_of trace) es).ages

-- What the turns of the caller and of the host do with cycles while a trace is played.
-- Private functions alone cite these words.

-- Each turn of the caller did with cycles what its operation asks, the host made none, and neither made a sweeping
-- mark.
pub record AllTurnsAreExact (c : Config) (es : List Event) : Type 0 where
  pub caller : TurnsOfAreExact false c (Caller 0) es
  pub host : MakesNoCycle Host es
  pub caller_unswept : SeatSweepsNothing c (Caller 0) es
  pub host_unswept : SeatSweepsNothing c Host es

-- So it is still.
abbrev pub StayExact : Config → List Event → List Event → Type 0
StayExact c es fs = AllTurnsAreExact c es → AllTurnsAreExact c fs

-- an event is of one of the slots, and a write is to a number of the slot's objects
abbrev pub IsEventOf : List ℕ → TraceEvent → Type 0
IsEventOf slots (W slot index value) = (slot < length slots) × (1 ≤ index) × (index < get_or slots slot 0)
IsEventOf slots event = slot_of event < length slots

-- It can be played: its heap is within the limits, and its events are of its slots.
pub record IsPlayable (trace : Contents) : Type 0 where
  pub slot_count : IsBetween 1 64 (length trace.slots)
  pub slots : All (IsBetween 1 4096) trace.slots
  pub events : All (IsEventOf trace.slots) trace.events
  pub heap : IsWithinLimits (config_of trace)

-- a beginning of the events leaves allocations of this measure
pub record IsAttained (c : Config) (measure : List PlacedAllocation → ℕ) (es : List Event) (n : ℕ) : Type 0 where
  pub before : List Event
  pub behind : List Event
  pub is : es ≡ before ++ behind
  pub same : n ≡ measure (left c before).allocations

-- The greatest measure is reached, and no beginning of the events passes it.
pub record IsGreatest (c : Config) (measure : List PlacedAllocation → ℕ) (es : List Event) (n : ℕ) : Type 0 where
  pub reached : IsAttained c measure es n
  pub above : (before behind : List Event) → es ≡ before ++ behind → measure (left c before).allocations ≤ n
