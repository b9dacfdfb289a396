-- The host of a run: what always holds of it, the crew on threads of their own, and the report of a closed heap.
use Rattle.std.specs.Prelude.{◌≡◌, ℕ, ◌+◌, ◌<◌, ◌≤◌, false, List, [], ◌∷◌, ◌++◌, Option, Some, None, true, count_by}
use Rattle.mk_core.specs.{History.{AreOfOthers, Grows, IsHistory, left}, Conditions.{host_has_turn, seat_exists}}
use Rattle.mk_core.specs.declared.events.{Event.Event, Seat.Seat}
use Rattle.mk_core.specs.declared.{events.Seat.TheVariants.{Caller, Marker, Host}, config.Config.Config}
use Rattle.mk_core.specs.{Allocations.{PlacedAllocation, held_by_allocations, fresh_words_of}, Counts.{IsTidy, ends}}
use Rattle.mk_core.specs.{Counts.{releases, full_answers, in_a_word}, Cycles.is_quarantined}
pub use Rattle.mk_alloc.specs.Below.Callers.Below.Laws.Waiting.{Rests}
use Rattle.mk_alloc.specs.Below.Words.States.{Has, all_seats, has_over, without_seat, WordsState, PassState, now_of}
use Rattle.mk_alloc.specs.Below.Words.{Rule.no_config, Sweeping.SweepsNothing}
use Rattle.mk_alloc.specs.Below.Callers.States.{IsIdleCaller}
use Rattle.mk_marker.specs.Markers.{IsOut}
use Rattle.mk_heap.specs.declared.reports.Report.{Report}
use Rattle.mk_alloc.specs.Below.Words.States as final

-- Its pass, and how many callers and markers were made.
pub record HostState : Type 0 where
  pub pass : PassState
  pub callers : ℕ
  pub markers : ℕ

-- the host of a new heap
abbrev pub first_host : WordsState → HostState
first_host w =
    record { pass = record { table = w; seat = Host; seats = all_seats w.config; seen = [] }; callers = 0; markers = 0 }

-- the pass that the host splits off for a seat
abbrev pub pass_for : HostState → Seat → PassState
pass_for h s = record { table = h.pass.table; seat = s; seats = s ∷ []; seen = h.pass.seen }

-- the host's pass after that
abbrev pub pass_without : HostState → Seat → PassState
pass_without h s = record h.pass { seats = without_seat s h.pass.seats }

-- the host with one caller more
abbrev pub with_caller_made : HostState → HostState
with_caller_made h = record { pass = pass_without h (Caller h.callers); callers = h.callers + 1; markers = h.markers }

-- A caller that was joined is out again.
abbrev pub with_caller_out : HostState → ℕ → HostState
with_caller_out h k = record h { pass = pass_without h (Caller k) }

-- the host with one marker more
abbrev pub with_marker_made : HostState → HostState
with_marker_made h = record { pass = pass_without h (Marker h.markers); callers = h.callers; markers = h.markers + 1 }

-- It has the seats of another pass besides, and has seen these events.
abbrev pub with_joined : HostState → PassState → List Event → HostState
with_joined h p seen = record h { pass = record h.pass { seats = h.pass.seats ++ p.seats; seen = seen } }

-- The host takes this pass back. What it has seen then is a history, with all that either had seen. It makes no
-- sweeping mark, and doesn't say that all is over.
pub record TakesBack (h : HostState) (p : PassState) (g : HostState) : Type 0 where
  pub host : g ≡ with_joined h p g.pass.seen
  pub history : IsHistory g.pass.table.config g.pass.seen
  pub own : Grows h.pass.seats h.pass.seen g.pass.seen
  pub came : Grows p.seats p.seen g.pass.seen
  pub reached : SweepsNothing h.pass g.pass
  pub overs : has_over g.pass.seen ≡ has_over h.pass.seen

-- It has seen these events.
abbrev pub with_seen : HostState → List Event → HostState
with_seen h seen = record h { pass = record h.pass { seen = seen } }

-- All callers and markers that were made are joined.
pub record AllAreJoined (h : HostState) : Type 0 where
  pub callers : (k : ℕ) → k < h.callers → Has h.pass.seats (Caller k)
  pub markers : (k : ℕ) → k < h.markers → Has h.pass.seats (Marker k)

-- A pass of one seat, which rests.
pub record IsDone (p : PassState) : Type 0 where
  pub alone : p.seats ≡ p.seat ∷ []
  pub rests : Rests (now_of p) p.seat

-- It hasn't the turn. Who isn't made is home in its pass, and who is home rests. A marker not yet made took no step.
pub record IsHost (h : HostState) : Type 0 where
  pub seat : h.pass.seat ≡ Host
  pub no_turn : host_has_turn h.pass.table.config (now_of h.pass) ≡ false
  pub rests : (s : Seat) → Has h.pass.seats s → Rests (now_of h.pass) s
  pub callers : (k : ℕ) → h.callers ≤ k → k < h.pass.table.config.callers → Has h.pass.seats (Caller k)
  pub markers : (k : ℕ) → h.markers ≤ k → k < 8 → Has h.pass.seats (Marker k)
  pub unmade : (k : ℕ) → h.markers ≤ k → k < 8 → AreOfOthers (Marker k ∷ []) h.pass.seen

-- what stands for a table that doesn't exist
abbrev pub no_table : WordsState
no_table =
    record {
      id = record { words = 0; slots = 0; views_name = 0; atom = 0; block = 0; offset = 0; slot_names = [] };
      config = no_config;
    }

-- the host with this pass
abbrev pub host_of : Option PassState → ℕ → ℕ → HostState
host_of (Some p) callers markers = record { pass = p; callers = callers; markers = markers }
host_of None callers markers = first_host no_table

-- The host has its pass, and all is in order.
abbrev pub IsWholeHost : Option PassState → ℕ → ℕ → Type 0
IsWholeHost (Some p) callers markers = IsHost (record { pass = p; callers = callers; markers = markers })
IsWholeHost None callers markers = ⊥

-- The host has made so many markers and callers, and joined none.
pub record HasMade (w : WordsState) (markers callers : ℕ) (h : HostState) : Type 0 where
  pub table : h.pass.table ≡ w
  pub seat : h.pass.seat ≡ Host
  pub own : Has h.pass.seats Host
  pub seen : h.pass.seen ≡ []
  pub count : h.callers ≡ callers
  pub same_markers : h.markers ≡ markers

-- The pass of caller k, before its first call.
pub record IsFirstPass (w : WordsState) (k : ℕ) (p : PassState) : Type 0 where
  pub table : p.table ≡ w
  pub seat : p.seat ≡ Caller k
  pub alone : p.seats ≡ Caller k ∷ []
  pub seen : p.seen ≡ []
  pub idle : IsIdleCaller p

-- The pass of a marker that is out.
pub record IsMarkersPass (w : WordsState) (j : ℕ) (p : PassState) : Type 0 where
  pub exists : j < 8
  pub table : p.table ≡ w
  pub seat : p.seat ≡ Marker j
  pub alone : p.seats ≡ Marker j ∷ []
  pub out : IsOut p

-- The markers are still out.
pub record HasMarkersOut (w : WordsState) (h : HostState) : Type 0 where
  pub table : h.pass.table ≡ w
  pub markers : h.markers ≡ w.config.markers

-- The host has joined the markers from j on. Since then it has seen no step of the seats that were home.
pub record JoinsMarkers (j : ℕ) (h g : HostState) : Type 0 where
  pub table : g.pass.table ≡ h.pass.table
  pub seat : g.pass.seat ≡ h.pass.seat
  pub callers : g.callers ≡ h.callers
  pub same_markers : g.markers ≡ h.markers
  pub home : (s : Seat) → Has h.pass.seats s → Has g.pass.seats s
  pub markers : (i : ℕ) → j ≤ i → i < g.markers → Has g.pass.seats (Marker i)
  pub behind : Grows h.pass.seats h.pass.seen g.pass.seen
  pub history : IsHistory g.pass.table.config g.pass.seen
  pub overs : has_over g.pass.seen ≡ has_over h.pass.seen

-- Beside the markers this was done by a host that had made them all, and then the markers from j on were joined.
pub record RanBeside {T : Type 0} (did : HostState → HostState × T → Type 0) (w : WordsState) (j : ℕ)
    (ran : HostState × T) : Type 0 where
  pub made : HostState
  pub has_made : HasMade w w.config.markers 0 made
  pub ended : HostState
  pub does : did made (ended, ran.1)
  pub joins : JoinsMarkers j ended ran.0

-- the history of the heap that was closed
abbrev pub history_of : Report → List Event
history_of r = final.history_of r.last

-- what that heap was made for
abbrev pub config_of : Report → Config
config_of r = final.config_of r.last

-- how many allocations are freed and unreleased
abbrev pub quarantined : List PlacedAllocation → ℕ
quarantined xs = count_by is_quarantined xs

-- Its numbers are the counts of the history.
pub record HasCounts (c : Config) (es : List Event) (r : Report) : Type 0 where
  pub held : r.held ≡ held_by_allocations c (left c es).allocations
  pub fresh : r.fresh ≡ in_a_word (fresh_words_of c (left c es).allocations)
  pub quarantined : r.quarantined ≡ quarantined (left c es).allocations
  pub released : r.released ≡ in_a_word (releases (left c es).allocations)
  pub cycles : r.cycles ≡ in_a_word (ends es)
  pub full : r.full ≡ in_a_word (full_answers c es)

-- No event is one of a marker of this number, or of a higher one.
abbrev pub MarkersAreBelow : ℕ → List Event → Type 0
MarkersAreBelow markers es = (k : ℕ) → markers ≤ k → AreOfOthers (Marker k ∷ []) es

-- The history is one of the heap's, and tidy; no call of it is in flight, and no marker is in.
pub record IsWhole (c : Config) (es : List Event) : Type 0 where
  pub history : IsHistory c es
  pub tidy : IsTidy c es
  pub rests : (s : Seat) → seat_exists c s ≡ true → Rests (left c es).now s

-- the pass of one of the heap's callers, which has the events of that seat alone
pub record IsPassOf (w : WordsState) (p : PassState) : Type 0 where
  pub number : ℕ
  pub exists : number < w.config.callers
  pub table : p.table ≡ w
  pub seat : p.seat ≡ Caller number
  pub seats : p.seats ≡ Caller number ∷ []
