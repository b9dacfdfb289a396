-- What is made ready for a `begin`, what `begin_cycle` makes and leaves, and what an engine does directly after it.
use Rattle.std.specs.Prelude.{◌≡◌, ℕ, List, ◌++◌, slice_index, ◌<◌, map, Bool, true, false, ◌&&◌, ◌||◌, not}
use Rattle.std.specs.{Prelude.{if◌then◌else◌, [], ◌∷◌}, List.list_all}
use Rattle.mk_core.specs.{Allocations.no_longer_fresh, Counts.{TalliesAreExact, TalliesAreTidy}, Cycles.{At, is_begin}}
use Rattle.mk_core.specs.{Cycles.through, Frames.{Steady, steady_of, CountsAreLeft}, History.{left, is_same_seat}}
use Rattle.mk_core.specs.declared.{config.Config.Config, events.{Event.Event, Seat.Seat}}
use Rattle.mk_core.specs.declared.{events.Step.Step, seats.OwnCycle.TheVariants.Begun}
use Rattle.mk_words.specs.{States.{PassState, now_of, world_of, call_of}, Steps.{Does, Makes}}
use Rattle.mk_cycle.specs.TurnKeeps.{clears, LeavesTurn, KeepsGates, but_cleaned, begins_marking, done_of, IsGone}
use Rattle.mk_cycle.specs.TurnKeeps.{holds_gates}

-- Nothing on the page is marked.
abbrev pub IsUnmarked : PassState → ℕ → Type 0
IsUnmarked p page = slice_index (now_of p).words.marks page ≡ 0

-- Nothing on the page is black.
abbrev pub IsUnscanned : PassState → ℕ → Type 0
IsUnscanned p page = slice_index (now_of p).words.blacks page ≡ 0

-- The page's freed cells are its snapshot.
abbrev pub HasTakenSnapshot : PassState → ℕ → Type 0
HasTakenSnapshot p page = slice_index (now_of p).words.snapshot page ≡ slice_index (now_of p).words.freed page

-- The page's dirty word was 0 at a moment between the two passes. A caller may set it again at once.
pub record WasUndirty (page : ℕ) (p q : PassState) : Type 0 where
  pub before : List Event
  pub behind : List Event
  pub is : q.seen ≡ p.seen ++ (before ++ behind)
  pub zero : slice_index (left p.table.config (p.seen ++ before)).now.words.dirty page ≡ 0

-- The page is ready for a `begin`.
pub record IsClean (p : PassState) (page : ℕ) : Type 0 where
  pub unmarked : IsUnmarked p page
  pub unscanned : IsUnscanned p page
  pub snapshot : HasTakenSnapshot p page

-- From one to the other pages were cleaned: this one is clean, and its dirty word was 0.
pub record IsReadyPage (page : ℕ) (p q : PassState) : Type 0 where
  pub clean : IsClean q page
  pub undirty : WasUndirty page p q

-- From one to the other pages were cleaned: what is clean stays so.
pub record Cleans (p q : PassState) : Type 0 where
  pub does : Does clears p q
  pub keeps : LeavesTurn but_cleaned p q
  pub gates : KeepsGates p q
  pub unmarked : (page : ℕ) → IsUnmarked p page → IsUnmarked q page
  pub unscanned : (page : ℕ) → IsUnscanned p page → IsUnscanned q page
  pub snapshot : (page : ℕ) → HasTakenSnapshot p page → HasTakenSnapshot q page

-- One `begin`: what is cleared before it, and what the engine does after it. Each page's dirty word was 0 at a moment
-- before it; that the marks and black words are 0 there is a condition of the `begin`.
pub record MakesBegin (p q : PassState) : Type 0 where
  pub cleared : PassState
  pub begun : PassState
  pub before : Does clears p cleared
  pub undirty : (page : ℕ) → page < p.table.config.pages → WasUndirty page p cleared
  pub begin : Makes cleared Step.Begin begun
  pub behind : Does begins_marking begun q

-- what it makes of all that only the turn's holder changes: the freed cells are the snapshot, and nothing is fresh
abbrev pub with_cycle_begun : Steady → Steady
with_cycle_begun s =
    record s {
      phase = 1;
      fresh = 0;
      snapshot = s.freed;
      fresh_words = 0;
      allocations = map no_longer_fresh s.allocations;
    }

-- A cycle began, and nothing else changed.
pub record BeginsCycle (p q : PassState) : Type 0 where
  pub makes : MakesBegin p q
  pub pass : q ≡ record p { seen = q.seen }
  pub call : call_of q ≡ call_of p
  pub done : done_of (now_of q) ≡ record (done_of (now_of p)) { cycle = Begun }
  pub steady : steady_of (world_of q) ≡ with_cycle_begun (steady_of (world_of p))
  pub counts : CountsAreLeft p.table.config p.seen q.seen
  pub gates : KeepsGates p q
  pub gone : IsGone q
  pub exact : TalliesAreExact p.table.config p.seen → TalliesAreExact q.table.config q.seen
  pub tidy : TalliesAreTidy p.table.config p.seen → TalliesAreTidy q.table.config q.seen

-- An engine's part after a `begin` is said of a seat, the events up to it, and those after it. This is to do nothing.
abbrev pub DoesNothing : Config → Seat → List Event → List Event → Type 0
DoesNothing c s es more = more ≡ []

-- The engine did its part from what the one pass had seen to what the other has seen.
pub record IsBegun (begins : Config → Seat → List Event → List Event → Type 0) (p q : PassState) : Type 0 where
  pub more : List Event
  pub is : q.seen ≡ p.seen ++ more
  pub part : begins p.table.config p.seat p.seen more

-- The last that was done is a `begin`, and directly after it the engine's part; what is cleared before it came first.
pub record IsBegunLast (begins : Config → Seat → List Event → List Event → Type 0) (p q : PassState) : Type 0 where
  pub cleared : PassState
  pub begun : PassState
  pub before : Does clears p cleared
  pub begin : Makes cleared Step.Begin begun
  pub part : IsBegun begins begun q

-- The seat's own events in a list are of these kinds.
abbrev pub are_own_of : (Step → Bool) → Seat → List Event → Bool
are_own_of kinds s es = list_all (λ (e : Event). not (is_same_seat s e.seat) || kinds e.step) es

-- by which the seat goes on to the end of the cycle that it began, or leaves it on
abbrev pub leaves_begun : Step → Bool
leaves_begun Step.Want = true
leaves_begun Step.Give = true
leaves_begun _ = false

-- The seat only holds gates, until it wants the close or gives its turn back. If the list ends before, this is `yet`.
unfoldable pub only_holds : Bool → Seat → List Event → Bool
only_holds yet s [] = yet
only_holds yet s (e ∷ es) =
    if is_same_seat s e.seat
    then leaves_begun e.step || (holds_gates e.step && only_holds yet s es)
    else only_holds yet s es

-- So it does after what the one pass had seen, and that it leaves is among what the other has seen.
pub record HoldsFirst (p q : PassState) : Type 0 where
  pub more : List Event
  pub is : q.seen ≡ p.seen ++ more
  pub holds : only_holds false p.seat more ≡ true

-- It did its part in the first of these events, in which it looks, marks, and holds and opens gates. Then it only holds
-- gates, until it wants the close or gives its turn back: one of these is among the events, or may be `yet` to come.
pub record IsBegunUpTo (yet : Bool) (begins : Config → Seat → List Event → List Event → Type 0) (c : Config) (s : Seat)
    (es more : List Event) : Type 0 where
  pub first : List Event
  pub rest : List Event
  pub is : more ≡ first ++ rest
  pub part : begins c s es first
  pub marking : are_own_of begins_marking s first ≡ true
  pub holds : only_holds yet s rest ≡ true

-- So it is after each `begin` of the seat in the list that goes on,
abbrev pub AreBegun : Bool → (Config → Seat → List Event → List Event → Type 0) → Config → Seat → List Event
    → List Event
    → Type 0
AreBegun yet begins c s es more =
    (b : At is_begin more) → b.event.seat ≡ s → IsBegunUpTo yet begins c s (es ++ through b) b.behind

-- after each one from what the one pass had seen to what the other has seen,
pub record EachIsBegun (yet : Bool) (begins : Config → Seat → List Event → List Event → Type 0) (p q : PassState)
    : Type 0 where
  pub more : List Event
  pub is : q.seen ≡ p.seen ++ more
  pub each : AreBegun yet begins p.table.config p.seat p.seen more

-- and after each one of a whole history, whoever made it.
abbrev pub CyclesAreBegun : (Config → Seat → List Event → List Event → Type 0) → Config → List Event → Type 0
CyclesAreBegun begins c es = (b : At is_begin es) → IsBegunUpTo false begins c b.event.seat (through b) b.behind

-- There is nothing but holding gates between each `begin` of the history and the wish to close, or the turn's `give`.
abbrev pub CyclesHoldGatesFirst : Config → List Event → Type 0
CyclesHoldGatesFirst c es = CyclesAreBegun DoesNothing c es
