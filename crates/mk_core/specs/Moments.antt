-- A configuration, and a moment: the words of the table, and what each seat is in the middle of. It decides which event
-- may come next.
use Rattle.std.specs.Prelude.{ℕ, ◌≤◌, ◌<◌, List, length, All, ⊤, Bool, false, ◌||◌, not, ◌==◌, replicate, slice_index}
use Rattle.std.specs.Prelude.{slice_index_or, None}
use Rattle.mk_never.specs.{declared.types.Kind.{Kind, TheVariants.{Num, To}}, Types.kinds_of}
use Rattle.mk_core.specs.{declared.config.Config.Config, Words.{Words, zero_words_of, phase_of, all_below}}
use Rattle.mk_core.specs.declared.events.Seat.{TheVariants.{Caller, Marker}, Seat}
use Rattle.mk_core.specs.declared.seats.{Flight.Flight, Holding.Holding}
use Rattle.mk_core.specs.declared.seats.{Placing.TheVariants.Unplaced, OwnCycle.TheVariants.NotBegun}
use Rattle.mk_core.specs.{declared.seats.Presence.TheVariants.Out, Calls.at_rest}
use Rattle.mk_core.specs.declared.seats.Marker.{Marker as MarkerState}

-- n is within these bounds
abbrev pub IsBetween : ℕ → ℕ → ℕ → Type 0
IsBetween least greatest n = (least ≤ n) × (n ≤ greatest)

-- the type that a word points to is one of these, and has that word
abbrev pub IsAmong : List (List Kind) → Kind → Type 0
IsAmong types Num = ⊤
IsAmong types (To ty offset) = (ty < length types) × (offset < length (kinds_of types ty))

-- a type of 1 to 4,096 words, whose pointers point to words of these types
abbrev pub IsTypeAmong : List (List Kind) → List Kind → Type 0
IsTypeAmong types kinds = IsBetween 1 4096 (length kinds) × All (IsAmong types) kinds

-- each number is within its limits, and each type and word that is named exists
pub record IsWithinLimits (config : Config) : Type 0 where
  pub pages : IsBetween 1 4096 config.pages
  pub resident : IsBetween 1 config.pages config.resident
  pub callers : IsBetween 1 16 config.callers
  pub markers : config.markers ≤ 8
  pub type_count : length config.types ≤ 64
  pub global_count : length config.globals ≤ 64
  pub types : All (IsTypeAmong config.types) config.types
  pub globals : All (λ ty. ty < length config.types) config.globals

-- each caller's call, what the turn's holder has done, and the markers
pub record Seats : Type 0 where
  pub flights : List Flight
  pub holding : Holding
  pub markers : List MarkerState

-- The count of fresh words is kept beside the table: the storage of the small objects freed after the last `begin`.
pub record Moment : Type 0 where
  pub words : Words
  pub seats : Seats
  pub fresh_words : ℕ

-- what a turn's holder has done when it took the turn
abbrev pub nothing_done : Holding
nothing_done = record { hand = None; placing = Unplaced; freed = None; cycle = NotBegun }

-- a marker that is out
abbrev pub outside : MarkerState
outside = record { presence = Out; scan = None; hand = None; seen = None }

-- There are eight markers.
abbrev pub first_moment : Config → Moment
first_moment c =
    record {
      words = zero_words_of c.pages;
      seats = record { flights = replicate c.callers at_rest; holding = nothing_done; markers = replicate 8 outside };
      fresh_words = 0;
    }

-- the call of a seat; a host and a marker have none
abbrev pub flight_of : Moment → Seat → Flight
flight_of m (Caller k) = slice_index_or m.seats.flights k at_rest
flight_of m _ = at_rest

-- what a marker is in the middle of
abbrev pub marker_of : Moment → ℕ → MarkerState
marker_of m k = slice_index_or m.seats.markers k outside

-- what a seat is at as a marker; another is outside
abbrev pub marker_at : Moment → Seat → MarkerState
marker_at m (Marker k) = marker_of m k
marker_at m _ = outside

-- the number by which the turn names its holder
abbrev pub holder_number : Config → Seat → ℕ
holder_number c (Caller k) = k
holder_number c _ = c.callers

-- the seat is the caller of this number
abbrev pub is_number_of : Seat → ℕ → Bool
is_number_of (Caller k) j = k == j
is_number_of _ j = false

-- the caller's gate is held
abbrev pub is_held : Words → ℕ → Bool
is_held w j = slice_index w.gates j == 2

-- all gates but the seat's own are held
abbrev pub others_are_held : ℕ → Words → Seat → Bool
others_are_held callers w seat = all_below callers (λ j. is_number_of seat j || is_held w j)

-- no gate is held
abbrev pub none_is_held : ℕ → Words → Bool
none_is_held callers w = all_below callers (λ j. not (is_held w j))

-- the phase is this number
abbrev pub is_phase : Words → ℕ → Bool
is_phase w n = phase_of w == n
