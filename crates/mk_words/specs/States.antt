-- What contracts see of the shared words, of a pass, of a turn, and of a table that has ended.
use Rattle.std.specs.Prelude.{◌≡◌, ◌<◌, ℕ, zero, suc, Bool, true, false, List, [], ◌∷◌, ◌++◌, if◌then◌else◌, ◌+◌, ◌%◌}
use Rattle.std.specs.{Prelude.{◌^◌, slice_index, count_ones}, List.list_any}
use Rattle.mk_core.specs.declared.{config.Config.Config, events.Seat.Seat}
use Rattle.mk_core.specs.declared.events.{Seat.TheVariants.{Caller, Marker, Host}, Step.Step}
use Rattle.mk_core.specs.{declared.events.Event.Event, Conditions.seat_exists, History.{is_same_seat, is_one_of, World}}
use Rattle.mk_core.specs.{History.{left, IsHistory}, declared.seats.Flight.Flight, Moments.{Moment, flight_of}}
use Rattle.mk_core.specs.{Readings.Holds, Words.Words}
use Rattle.atomic_table.specs.Seated.{TableId}
use Rattle.mk_words.specs.declared.finals.Final.{Final}

-- The seat is one of these.
abbrev pub Has : List Seat → Seat → Type 0
Has seats s = is_one_of seats s ≡ true

-- the list without a seat
abbrev pub without_seat : Seat → List Seat → List Seat
without_seat s [] = []
without_seat s (x ∷ xs) = if is_same_seat s x then without_seat s xs else x ∷ without_seat s xs

-- the callers with numbers below this
abbrev pub callers_below : ℕ → List Seat
callers_below zero = []
callers_below (suc n) = Caller n ∷ callers_below n

-- the markers with numbers below this
abbrev pub markers_below : ℕ → List Seat
markers_below zero = []
markers_below (suc n) = Marker n ∷ markers_below n

-- all seats that there are
abbrev pub all_seats : Config → List Seat
all_seats c = Host ∷ (callers_below c.callers ++ markers_below 8)

-- Every seat that there is stands in the list.
abbrev pub HasAll : Config → List Seat → Type 0
HasAll c seats = (s : Seat) → seat_exists c s ≡ true → Has seats s

-- it is a caller
abbrev pub is_caller : Seat → Bool
is_caller (Caller k) = true
is_caller _ = false

-- it is an `over`
abbrev pub is_over : Step → Bool
is_over Step.Over = true
is_over _ = false

-- An `over` stands in the list.
abbrev pub has_over : List Event → Bool
has_over es = list_any (λ (e : Event). is_over e.step) es

-- Where a caller's seat is among these, and an `over` in the list, the host's seat is among them too. So no caller
-- steps after an `over`, whose holder has the seats of all callers.
abbrev pub CallersAreBeforeOver : Config → List Seat → List Event → Type 0
CallersAreBeforeOver c seats es = (k : ℕ) → k < c.callers → Has seats (Caller k) → has_over es ≡ true → Has seats Host

-- The seats of all callers stand in the list.
abbrev pub HasCallers : Config → List Seat → Type 0
HasCallers c seats = (k : ℕ) → k < c.callers → Has seats (Caller k)

-- which table it is, and the configuration that it was made for
pub record WordsState : Type 0 where
  pub id : TableId
  pub config : Config

-- A pass is of one table and one seat. It has seen a list of events, which has all events of these seats.
pub record PassState : Type 0 where
  pub table : WordsState
  pub seat : Seat
  pub seats : List Seat
  pub seen : List Event

-- What holds of every pass: its own seat is one of its seats, and what it has seen is a history.
pub record IsPass (p : PassState) : Type 0 where
  pub own : Has p.seats p.seat
  pub history : IsHistory p.table.config p.seen

-- what is left after all that a pass has seen
abbrev pub world_of : PassState → World
world_of p = left p.table.config p.seen

-- the words and seats after all that the pass has seen
abbrev pub now_of : PassState → Moment
now_of p = (world_of p).now

-- What holds of every turn: it has the pass of a seat, which holds the turn.
pub record IsTurn (p : PassState) : Type 0 where
  pub own : Has p.seats p.seat
  pub holds : Holds p.table.config (now_of p) p.seat
  pub history : IsHistory p.table.config p.seen

-- A turn has its holder's pass, of which that holds.
pub record TurnState : Type 0 where
  pub pass : PassState
  pub in_order : IsTurn pass

-- the call of its seat
abbrev pub call_of : PassState → Flight
call_of p = flight_of (now_of p) p.seat

-- a step of its seat
abbrev pub event_of : PassState → Step → Event
event_of p s = record { seat = p.seat; step = s }

-- the history of a closed table, which only proofs have
abbrev pub history_of : Final → List Event
history_of f = f.memory.me.0.own.seen

-- the configuration that it was made for
abbrev pub config_of : Final → Config
config_of f = f.memory.me.0.config

-- How many cells of this many pages are freed, by a word of each that has them in its low half.
abbrev pub freed_cells : (ℕ → ℕ) → ℕ → ℕ
freed_cells word zero = 0
freed_cells word (suc page) = freed_cells word page + count_ones (word page % 2 ^ 32)

-- It has the tallies, and the count of the freed cells of this many pages.
pub record HasTallies (w : Words) (pages : ℕ) (f : Final) : Type 0 where
  pub held : f.held ≡ w.held
  pub fresh : f.fresh ≡ w.fresh
  pub quarantined : f.quarantined ≡ freed_cells (slice_index w.freed) pages
  pub cycles : f.cycles ≡ w.cycles
  pub released : f.released ≡ w.released
  pub full : f.full ≡ w.full
