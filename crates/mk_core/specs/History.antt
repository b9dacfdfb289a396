-- Histories: lists of events, oldest first. What they leave, which are enabled, the calls that they decide, and what a
-- seat has seen and others did since.
use Rattle.std.specs.Prelude.{ℕ, ◌+◌, List, map, slice_index, ◌≡◌, [], ◌∷◌, ◌++◌, ⊤, Bool, true, false, ◌==◌}
use Rattle.std.specs.{Prelude.{if◌then◌else◌, not}, List.list_any}
use Rattle.mk_never.specs.declared.values.Value.{Value, TheVariants.{Null, Num, Ptr}}
use Rattle.mk_never.specs.declared.operations.Reply.{Reply, TheVariants.{Double, Done}}
use Rattle.mk_never.specs.declared.operations.Reply.TheVariants.{Num as Number, Val, Full, Fault, Null as WasNull}
use Rattle.mk_never.specs.{NeverHeap.{NeverState, start_of, after_calls, replies_of}, Admitted.AreAdmitted}
use Rattle.mk_geom.specs.Addresses.{address_of}
use Rattle.mk_core.specs.declared.events.Answer.{Answer}
use Rattle.mk_core.specs.declared.events.Answer.TheVariants.{Done as IsDone, Num as IsNumber, Word, Full as IsFull}
use Rattle.mk_core.specs.declared.events.Answer.TheVariants.{Fault as IsFault, Null as IsNull, Double as IsDouble}
use Rattle.mk_core.specs.{declared.{config.Config.Config, events.Event.Event}, Moments.{IsWithinLimits, Moment}}
use Rattle.mk_core.specs.{Moments.{first_moment, flight_of}, Enabled.IsEnabled, Accesses.{caller_number, found}}
use Rattle.mk_core.specs.{Effects.{moment_behind, answer_decided}, Calls.{answered, Decided, entry_of, asked}}
use Rattle.mk_core.specs.{Allocations.{PlacedAllocation, allocations_behind}, declared.events.Seat.Seat}
use Rattle.mk_core.specs.declared.events.{Seat.TheVariants.{Caller, Marker, Host}, Step.Step}

-- a value as a word, if allocation a begins at heap word (slice_index bases a)
abbrev pub image_of : List ℕ → Value → ℕ
image_of bases Null = 0
image_of bases (Num n) = n
image_of bases (Ptr number ty offset) = address_of (slice_index bases number + offset)

-- the answer whose reply this is, with pointers as addresses
abbrev pub answer_of : List ℕ → Reply → Answer
answer_of bases Done = IsDone
answer_of bases (Number n) = IsNumber n
answer_of bases (Val value) = Word (image_of bases value)
answer_of bases Full = IsFull
answer_of bases Fault = IsFault
answer_of bases WasNull = IsNull
answer_of bases Double = IsDouble

-- the answers to these replies
abbrev pub answers_of : List ℕ → List Reply → List Answer
answers_of bases replies = map (answer_of bases) replies

-- All that events leave: the moment after them, and the allocations.
pub record World : Type 0 where
  pub now : Moment
  pub allocations : List PlacedAllocation

-- the world before any event
abbrev pub first_world : Config → World
first_world c = record { now = first_moment c; allocations = [] }

-- the world after an event
abbrev pub world_behind : Config → World → Event → World
world_behind c w e = record { now = moment_behind c w.now e; allocations = allocations_behind c w.now e w.allocations }

-- the world after these events
unfoldable pub left_from : Config → World → List Event → World
left_from c w [] = w
left_from c w (e ∷ es) = left_from c (world_behind c w e) es

-- what a history leaves, from all words 0
abbrev pub left : Config → List Event → World
left c es = left_from c (first_world c) es

-- Each event is enabled at its place.
unfoldable pub AreEnabledFrom : Config → World → List Event → Type 0
AreEnabledFrom c w [] = ⊤
AreEnabledFrom c w (e ∷ es) = IsEnabled c w.now e × AreEnabledFrom c (world_behind c w e) es

-- Each event may come at its place.
abbrev pub AreEnabled : Config → List Event → Type 0
AreEnabled c es = AreEnabledFrom c (first_world c) es

-- the call that an event decides, if it decides one
abbrev pub call_decided : Config → Moment → Event → List Decided
call_decided c m e = entry_of (caller_number e.seat) (flight_of m e.seat).op (answer_decided c m e)

-- the calls that these events decide, in order
unfoldable pub calls_from : Config → World → List Event → List Decided
calls_from c w [] = []
calls_from c w (e ∷ es) = call_decided c w.now e ++ calls_from c (world_behind c w e) es

-- the calls of a history, in the order of the events that decide them
abbrev pub calls : Config → List Event → List Decided
calls c es = calls_from c (first_world c) es

-- the heap that never reuses storage, before any operation and after the calls of a history
abbrev pub never_first : Config → NeverState
never_first c = start_of c.types c.callers

-- the heap that never reuses storage after the calls of these events
abbrev pub never_behind : Config → List Event → NeverState
never_behind c es = after_calls (never_first c) (asked (calls c es))

-- That heap is asked for nothing that isn't admitted.
abbrev pub CallsAreAdmitted : Config → List Event → Type 0
CallsAreAdmitted c es = AreAdmitted c.globals (never_first c) (asked (calls c es))

-- A list of events is a history of a heap of this configuration. Without the limits what holds of every history fails:
-- with 17 callers a register lies after the table's 128.
pub record IsHistory (c : Config) (es : List Event) : Type 0 where
  pub within_limits : IsWithinLimits c
  pub enabled : AreEnabled c es
  pub admitted : CallsAreAdmitted c es

-- an event that is enabled after a list, and one that is admitted
abbrev pub IsEnabledBehind : Config → List Event → Event → Type 0
IsEnabledBehind c es e = IsEnabled c (left c es).now e

-- With this event the calls are still admitted.
abbrev pub IsAdmittedBehind : Config → List Event → Event → Type 0
IsAdmittedBehind c es e = CallsAreAdmitted c (es ++ e ∷ [])

-- where each allocation is: its first heap word, whose address its grant stored
abbrev pub bases_of : List PlacedAllocation → List ℕ
bases_of xs = map (λ (a : PlacedAllocation). a.base) xs

-- The answers are the images of the replies of the heap that never reuses storage.
abbrev pub RefinesNever : Config → List Event → Type 0
RefinesNever c es =
    answered (calls c es)
    ≡ answers_of (bases_of (left c es).allocations) (replies_of (never_first c) (asked (calls c es)))

-- a core: its configuration, and the words and seats as they are
pub record CoreState : Type 0 where
  pub config : Config
  pub now : Moment

-- The core is what these events leave.
pub record CoreStandsFor (core : CoreState) (events : List Event) : Type 0 where
  pub enabled : AreEnabled core.config events
  pub now : core.now ≡ (left core.config events).now

-- they are one seat
abbrev pub is_same_seat : Seat → Seat → Bool
is_same_seat (Caller j) (Caller k) = j == k
is_same_seat (Marker j) (Marker k) = j == k
is_same_seat Host Host = true
is_same_seat _ _ = false

-- the seat is one of these
abbrev pub is_one_of : List Seat → Seat → Bool
is_one_of seats s = list_any (is_same_seat s) seats

-- No event is of one of these seats.
unfoldable pub AreOfOthers : List Seat → List Event → Type 0
AreOfOthers seats [] = ⊤
AreOfOthers seats (e ∷ es) = (is_one_of seats e.seat ≡ false) × AreOfOthers seats es

-- A list begins with what was seen, and goes on only with events of other seats.
pub record Grows (seats : List Seat) (seen es : List Event) : Type 0 where
  pub more : List Event
  pub is : es ≡ seen ++ more
  pub of_others : AreOfOthers seats more

-- an event, and what its access found
pub record Finding : Type 0 where
  pub event : Event
  pub found : ℕ

-- the events of a seat, each with what it found
unfoldable pub own_from : Config → Seat → World → List Event → List Finding
own_from c s w [] = []
own_from c s w (e ∷ es) =
    if is_same_seat s e.seat
    then record { event = e; found = found c w.now e } ∷ own_from c s (world_behind c w e) es
    else own_from c s (world_behind c w e) es

-- In a call: the events of the call's own seat after what was seen as it began, and what each of them found.
abbrev pub in_this_call : Config → Seat → List Event → List Event → List Finding
in_this_call c s seen more = own_from c s (left c seen) more

-- it holds this caller's gate
abbrev pub is_hold_of : ℕ → Step → Bool
is_hold_of i (Step.Hold j) = i == j
is_hold_of i _ = false

-- this caller's gate differs in the two worlds
abbrev pub changes_gate : ℕ → World → World → Bool
changes_gate i w v = not (slice_index v.now.words.gates i == slice_index w.now.words.gates i)

-- whether a gate is held after events, by whether it was held before
unfoldable pub is_gate_held_from : Config → ℕ → World → Bool → List Event → Bool
is_gate_held_from c i w held [] = held
is_gate_held_from c i w held (e ∷ es) =
    is_gate_held_from c i (world_behind c w e) (if changes_gate i w (world_behind c w e) then is_hold_of i e.step
    else held) es

-- The gate of caller i is held if the last event that changed it is `hold i`.
abbrev pub is_gate_held : Config → ℕ → List Event → Bool
is_gate_held c i es = is_gate_held_from c i (first_world c) false es
