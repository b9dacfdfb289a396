-- What the host does with the turn and with cycles: it ends the one that is on, makes the last, says that all is over.
use Rattle.std.specs.Prelude.{◌≡◌, ◌⊎◌, ℕ, ◌<◌, true, None, Bool, false, List, [], ◌∷◌, ◌++◌, count_by, if◌then◌else◌}
use Rattle.mk_core.specs.declared.{events.Seat.TheVariants.{Caller, Host}, config.Config.Config}
use Rattle.mk_core.specs.{Counts.{TalliesAreExact, TalliesAreTidy}, History.{World, AreOfOthers, Grows, left}}
use Rattle.mk_core.specs.{Moments.none_is_held, declared.events.{Step.Step, Word.Word}}
use Rattle.mk_core.specs.{declared.events.Event.Event, Cycles.{is_begin, TurnOf, BeginsAndEndsIn, before_close}}
use Rattle.mk_core.specs.{Cycles.is_close, declared.events.Seat.Seat}
use Rattle.mk_alloc.specs.Below.Words.States.{Has, PassState, now_of, HasCallers, has_over, WordsState}
use Rattle.mk_alloc.specs.Below.Words.{Steps.{Makes, Finds}, TurnSteps.TakesTurn}
use Rattle.mk_alloc.specs.Below.Cycles.EngineLaw.{IsAtPhase, IsFreeForCycle, Ways}
use Rattle.mk_alloc.specs.Below.Cycles.{BeginCycle.BeginsCycle, FinishCycle.FinishesCycle}
use Rattle.mk_alloc.specs.{Below.Cycles.Stops.IsToldAtClose, Rooms.PassKeeps, TurnCycles.{has_step, within_turn}}
use Rattle.mk_heap.specs.Hosts.{HostState, with_seen}

-- All callers that were made are joined.
abbrev pub CallersAreJoined : HostState → Type 0
CallersAreJoined h = (k : ℕ) → k < h.callers → Has h.pass.seats (Caller k)

-- It looked whether a cycle is on. One that is on is finished, and where none is on nothing more is done.
pub record EndsCycle (p q : PassState) : Type 0 where
  pub looked : PassState
  pub looks : Makes p (Step.Look Word.Phase) looked
  pub phase : (IsAtPhase p 0) ⊎ (IsAtPhase p 1)
  pub none : IsAtPhase p 0 → q ≡ looked
  pub on : IsAtPhase p 1 → FinishesCycle looked q

-- It took the turn, and finished a cycle that was on.
pub record TakesIdleTurn (p q : PassState) : Type 0 where
  pub taken : PassState
  pub takes : TakesTurn p None taken
  pub ends : EndsCycle taken q

-- It took the turn, finished a cycle that was on, said that all is over, and gave the turn back.
pub record SaysOver (p q : PassState) : Type 0 where
  pub idle : PassState
  pub said : PassState
  pub idles : TakesIdleTurn p idle
  pub says : Makes idle Step.Over said
  pub gives : Makes said Step.Give q

-- It took the turn, finished a cycle that was on, made one from its `begin` to its `end`, and gave the turn back.
pub record MakesCycle (p q : PassState) : Type 0 where
  pub idle : PassState
  pub begun : PassState
  pub ended : PassState
  pub idles : TakesIdleTurn p idle
  pub begins : BeginsCycle idle begun
  pub finishes : FinishesCycle begun ended
  pub gives : Makes ended Step.Give q

-- It made a cycle so, and this is said of the world in which it closed the cycle's marks.
pub record MakesToldCycle (tells : Config → World → Type 0) (p q : PassState) : Type 0 where
  pub makes : MakesCycle p q
  pub at_close : IsToldAtClose tells makes.begun makes.ended

-- In the host's turn no cycle is on and nothing is under way: a cycle may begin, or the turn be given back.
pub record IsIdleTurn (p : PassState) : Type 0 where
  pub seat : p.seat ≡ Host
  pub phase : IsAtPhase p 0
  pub free : IsFreeForCycle p
  pub gates : none_is_held p.table.config.callers (now_of p).words ≡ true
  pub exact : TalliesAreExact p.table.config p.seen
  pub tidy : TalliesAreTidy p.table.config p.seen

-- how many cycles are begun in a list
abbrev pub cycles_begun : List Event → ℕ
cycles_begun es = count_by (λ (e : Event). is_begin e.step) es

-- The history has two parts. In the first the host takes no step. In the second no caller does, so no step of a script
-- stands after a `take` of the host, and whatever is done with cycles there is done by the host.
pub record HostComesLast (callers : ℕ) (with_cycle : Bool) (es : List Event) : Type 0 where
  pub scripts : List Event
  pub last : List Event
  pub is : es ≡ scripts ++ last
  pub without_host : AreOfOthers (Host ∷ []) scripts
  pub without_callers : (k : ℕ) → k < callers → AreOfOthers (Caller k ∷ []) last
  pub cycles : cycles_begun last ≡ (if with_cycle then 1 else 0)

-- The host's seat is home and so are those of all callers, and it has not said that all is over.
pub record HasAllHome (w : WordsState) (h : HostState) : Type 0 where
  pub table : h.pass.table ≡ w
  pub seat : h.pass.seat ≡ Host
  pub own : Has h.pass.seats Host
  pub joined : CallersAreJoined h
  pub callers : HasCallers w.config h.pass.seats
  pub before_over : has_over h.pass.seen ≡ false

-- The callers whose seats are home make no step.
abbrev pub CallersAreStill : PassState → List Event → Type 0
CallersAreStill p es = (k : ℕ) → Has p.seats (Caller k) → Grows (Caller k ∷ []) p.seen es

-- The host goes on, and no caller whose seat is home.
pub record GoesOnAlone {V : Type 0} (ways : Ways V) (h g : HostState) : Type 0 where
  pub is : g ≡ with_seen h g.pass.seen
  pub still : CallersAreStill h.pass g.pass.seen
  pub keeps : PassKeeps false ways h.pass g.pass

-- Since this was seen the host made its last turns, where asked with a last cycle: no other is begun there.
pub record BeginsAsAsked (with_cycle : Bool) (seen es : List Event) : Type 0 where
  pub more : List Event
  pub is : es ≡ seen ++ more
  pub cycles : cycles_begun more ≡ (if with_cycle then 1 else 0)

-- With all callers home the host made a cycle of which this is said, and said that all is over. Since then it has seen
-- no step of the seats that were home, which still are.
pub record TakesLastTurns (tells : Config → World → Type 0) (w : WordsState) (p : PassState) : Type 0 where
  pub joined : PassState
  pub cycled : PassState
  pub said : PassState
  pub table : joined.table ≡ w
  pub seat : joined.seat ≡ Host
  pub own : Has joined.seats Host
  pub callers : HasCallers w.config joined.seats
  pub cycle : MakesToldCycle tells joined cycled
  pub over : SaysOver cycled said
  pub home : (s : Seat) → Has joined.seats s → Has p.seats s
  pub behind : Grows joined.seats said.seen p.seen

-- the event by which the seat gives its turn back
abbrev pub give_of : Seat → Event
give_of s = record { seat = s; step = Step.Give }

-- In one turn of its own the seat begins and ends a cycle, and gives the turn back. After the turn's `take` no caller
-- steps, and after the cycle's `close` no other stands. This is said of the world left before that `close`.
pub record MakesLastCycle (s : Seat) (tells : Config → World → Type 0) (c : Config) (es : List Event) : Type 0 where
  pub before : List Event
  pub behind : List Event
  pub is : es ≡ before ++ give_of s ∷ behind
  pub turn : TurnOf c s before
  pub callers : (k : ℕ) → k < c.callers → AreOfOthers (Caller k ∷ []) (turn.behind ++ give_of s ∷ behind)
  pub cycle : BeginsAndEndsIn turn
  pub last : has_step is_close (cycle.releasing.marking.close.at.behind ++ behind) ≡ false
  pub told : tells c (left c (within_turn turn (before_close cycle.releasing.marking)))

-- The host makes the last cycle, after the last step of every script, and this is said of it at its `close`.
abbrev pub EndsWithCycle : (Config → World → Type 0) → Config → List Event → Type 0
EndsWithCycle tells c es = MakesLastCycle Host tells c es

-- It took the turn, looked at the word and found this number, and gave the turn back.
pub record TellsWord (p : PassState) (x : Word) (n : ℕ) (q : PassState) : Type 0 where
  pub taken : PassState
  pub looked : PassState
  pub takes : TakesTurn p None taken
  pub looks : Finds taken (Step.Look x) n looked
  pub gives : Makes looked Step.Give q
