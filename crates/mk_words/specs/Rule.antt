-- The rule of the table: what each step says of it, and what always holds of a pass.
use Rattle.std.specs.Prelude.{◌≡◌, ◌≢◌, ℕ, List, [], ◌∷◌, ◌++◌}
use Rattle.mk_core.specs.Below.Books.KnownPages.{KnownPages}
use Rattle.mk_core.specs.{Accesses.found, Counts.IsTidy, History.{left, IsHistory, AreOfOthers, Grows}, Layout.in_order}
use Rattle.mk_core.specs.{Words.Words, declared.accesses.Access.{Access, TheVariants.Store}}
use Rattle.mk_core.specs.declared.{config.Config.Config, events.{Event.Event, Seat.Seat}}
use Rattle.mk_words.specs.{declared.rule.{Part.Part, View.View}, States.{Has, CallersAreBeforeOver}}
use Rattle.mk_words.specs.{States.{without_seat, PassState}, PageMaps.IsMapOf}
use Rattle.atomic_table.specs.{Table.{State, Me, Step as TableStep, step, rest}, Seated.TableId}
use mathlib.Core.Option.{Option, some, none}
use lib.ListN.{get_elem?}

-- seats, and the events that they have seen
abbrev pub part : List Seat → List Event → Part
part seats seen = record { seats = seats; seen = seen }

-- no seat, and no event
abbrev pub no_part : Part
no_part = part [] []

-- the view of these seats, which were joined to none
abbrev pub view : Config → List Seat → List Event → View
view c seats seen = record { config = c; own = part seats seen; came = no_part }

-- what stands for a configuration that doesn't exist
abbrev pub no_config : Config
no_config = record { pages = 0; resident = 0; callers = 0; markers = 0; types = []; globals = [] }

-- the view of a seat that was joined to another
abbrev pub nobody : View
nobody = view no_config [] []

-- all seats of a view
abbrev pub seats_of : View → List Seat
seats_of v = v.own.seats ++ v.came.seats

-- The table's only slot has a map that shows these words.
abbrev pub IsHome : List (Option KnownPages) → Words → Type 0
IsHome homes w = (map : KnownPages) × (get_elem? homes 0 ≡ some (some map)) × IsMapOf map w

-- There is one history, which is tidy and leaves the words. Each view has seen a beginning of it that has all events of
-- the view's seats, no seat is in two views, and who has a caller's seat after an `over` has the host's. While nobody
-- has the turn, the page map is at home and shows what the history leaves.
pub record Kept (c : Config) (s : State KnownPages View) : Type 0 where
  pub events : List Event
  pub history : IsHistory c events
  pub tidy : IsTidy c events
  pub words : s.words ≡ in_order (left c events).now.words
  pub sees : (id : ℕ) (v : View) → get_elem? s.views id ≡ some v
      → Grows v.own.seats v.own.seen events × Grows v.came.seats v.came.seen events
  pub apart : (i j : ℕ) (v w : View) (x : Seat) → get_elem? s.views i ≡ some v → get_elem? s.views j ≡ some w
      → Has (seats_of v) x → Has (seats_of w) x → i ≡ j
  pub before_over : (id : ℕ) (v : View) → get_elem? s.views id ≡ some v → CallersAreBeforeOver c (seats_of v) events
  pub home : (left c events).now.words.turn ≡ 0 → IsHome s.homes (left c events).now.words

-- what a token has: the table's values, and a view
abbrev pub Mine : Type 0
Mine = Me KnownPages View

-- what an access tells where it finds that number: a store says what it stores
abbrev pub told_by : Access → ℕ → ℕ
told_by (Store value) n = value
told_by _ n = n

-- The event stands in the history after all that the view had seen and events of others, and finds this number there.
pub record Adds (e : Event) (v : View) (n : ℕ) (w : View) : Type 0 where
  pub others : List Event
  pub of_others : AreOfOthers v.own.seats others
  pub is : w ≡ record v { own = part v.own.seats (v.own.seen ++ others ++ e ∷ []) }
  pub history : IsHistory v.config (v.own.seen ++ others ++ e ∷ [])
  pub tidy : IsTidy v.config (v.own.seen ++ others ++ e ∷ [])
  pub before_over : CallersAreBeforeOver v.config v.own.seats (v.own.seen ++ others ++ e ∷ [])
  pub finds : n ≡ found v.config (left v.config (v.own.seen ++ others)).now e

-- what a step tells doesn't read the table's account of it
abbrev pub no_step : TableStep KnownPages
no_step = step 0 0 0 0 none

-- a step that adds an event to what a view has seen
abbrev pub adds : Event → TableStep KnownPages → Mine → ℕ → Mine → Type 0
adds e st m found n = (n.1 ≡ m.1) × Adds e m.0 found n.0

-- A look takes in what came by a join, and all events so far.
pub record Settles (v w : View) : Type 0 where
  pub is : w ≡ view v.config (seats_of v) w.own.seen
  pub own : Grows v.own.seats v.own.seen w.own.seen
  pub came : Grows v.came.seats v.came.seen w.own.seen
  pub history : IsHistory v.config w.own.seen
  pub tidy : IsTidy v.config w.own.seen
  pub before_over : CallersAreBeforeOver v.config (seats_of v) w.own.seen

-- a step after which what joined seats had seen is one list
abbrev pub settles : TableStep KnownPages → Mine → ℕ → Mine → Type 0
settles st m found n = (n.1 ≡ m.1) × Settles m.0 n.0

-- the view that stays when a seat is split off
abbrev pub stays_with : Seat → View → View
stays_with x v = record v { own = part (without_seat x v.own.seats) v.own.seen }

-- the view that goes with the seat, which has seen as much
abbrev pub goes_with : Seat → View → View
goes_with x v = view v.config (x ∷ []) v.own.seen

-- two views beside each other, up to the next look
abbrev pub beside : View → View → View
beside v w = record v { came = w.own }

-- A `take` that finds the turn free gets the page map too, which shows all that the new list leaves.
abbrev pub takes_map : Event → TableStep KnownPages → Mine → ℕ → Mine → Type 0
takes_map e st m found n =
    Adds e m.0 found n.0
    × (found ≡ 0 → (map : KnownPages) × (n.1 ≡ (0, map) ∷ m.1) × IsMapOf map (left n.0.config n.0.own.seen).now.words)
    × (found ≢ 0 → n.1 ≡ m.1)

-- A `give` leaves the map in the slot.
abbrev pub gives_map : Event → TableStep KnownPages → Mine → ℕ → Mine → Type 0
gives_map e st m stored n = (n.1 ≡ rest m.1) × ((found : ℕ) × Adds e m.0 found n.0)

-- a pass, from the view of its token and its seat
abbrev pub state_of : TableId → Mine → Seat → PassState
state_of id me seat =
    record {
      table = record { id = id; config = me.0.config };
      seat = seat;
      seats = me.0.own.seats;
      seen = me.0.own.seen;
    }

-- Nothing that came is still beside what is the token's own, its own seat is one of its seats, and what it has seen is
-- a history, and tidy.
pub record IsInOrder (me : Mine) (seat : Seat) : Type 0 where
  pub settled : me.0.came ≡ no_part
  pub own : Has me.0.own.seats seat
  pub history : IsHistory me.0.config me.0.own.seen
  pub tidy : IsTidy me.0.config me.0.own.seen
  pub before_over : CallersAreBeforeOver me.0.config me.0.own.seats me.0.own.seen

-- A token is in order, and holds such slots.
pub record IsHolding (such : List (ℕ × KnownPages) → Type 0) (me : Mine) (seat : Seat) : Type 0 where
  pub order : IsInOrder me seat
  pub slots : such me.1
