-- A call under the turn, in the history: a New, or a Free. The turns of a caller stay exact, whatever it calls next.
use Rattle.std.specs.Prelude.{◌≡◌, ◌<◌, ◌↔◌, ℕ, Bool, true, List, [], ◌∷◌, ◌++◌, Some}
use Rattle.mk_never.specs.declared.operations.Op.{Op}
use Rattle.mk_geom.specs.declared.pages.Census.{Census}
use Rattle.mk_core.specs.{declared.events.{Answer.Answer, Event.Event}, Allocations.census_of_allocations}
use Rattle.mk_core.specs.{Calls.{at_rest, entry_of, flagged}, Placement.FindsNoPlace, declared.events.Step.Step}
use Rattle.mk_core.specs.{declared.{config.Config.Config, events.Seat.Seat}, History.Grows}
use Rattle.mk_caller.specs.Below.Words.States.{PassState, world_of, call_of, event_of, Has}
use Rattle.mk_caller.specs.Below.Words.{Steps.{Makes, Does}, TurnSteps.{turn_stays, TakesTurn}}
use Rattle.mk_caller.specs.{States.{CallerState, caller_of_pass}, Called.{own_calls, IsDecidedIn, Called}}
use Rattle.mk_caller.specs.{Called.FindsGateHeld, Below.Words.Sweeping.SweepsNothing}
use Rattle.mk_alloc.specs.{Retiring.{kinds_for, is_loading}, Rooms.{RunsIfDue, OwnLeaveAllButReleased}}
use Rattle.mk_alloc.specs.TurnCycles.{EndsExactly, IsDueIn, TurnsOfAreExact}

-- A caller may call so: it exists, its pass is home and only its own, and its heap has as many pages as the engine.
pub record MayTakeTurns (pages : ℕ) (s : CallerState) : Type 0 where
  pub home : s.home ≡ true
  pub exists : caller_of_pass s.pass < s.pass.table.config.callers
  pub alone : s.pass.seats ≡ s.pass.seat ∷ []
  pub made_for : pages ≡ s.pass.table.config.pages

-- The pass waited for the turn, did this operation, was answered so, and gave the turn back. Its turn is what stands
-- between its `take` and its `give`. Its caller has one entry more, and no call in flight.
pub record CalledInTurn (on : Bool) (p : PassState) (o : Op) (a : Answer) (q : PassState) : Type 0 where
  pub taken : PassState
  pub done : PassState
  pub takes : TakesTurn p (Some o) taken
  pub acts : Does turn_stays taken done
  pub gives : Makes done Step.Give q
  pub more : List Event
  pub is : q ≡ record p { seen = p.seen ++ more }
  pub entry : own_calls p (p.seen ++ more) ≡ own_calls p p.seen ++ entry_of (caller_of_pass p) o (Some a)
  pub decided : IsDecidedIn p (flagged o a) a more
  pub ends : EndsExactly on p.table.config p.seat (done.seen ++ gives.others)
  pub turn_op : ends.turn.op ≡ Some o
  pub turn_part : ends.turn.behind ≡ acts.more ++ gives.others
  pub rest : call_of q ≡ at_rest

-- No place was left, though a cycle was begun and ended in the call; the counts are those of that moment. The call
-- itself left all registers and globals as they were, and all allocations but those that were released.
pub record IsAnsweredFull (on : Bool) (p : PassState) (o : Op) (census : Census) (q : PassState) : Type 0 where
  pub called : CalledInTurn on p o Answer.Full q
  pub before : List Event
  pub behind : List Event
  pub is : q.seen ≡ before ++ event_of p Step.Full ∷ behind
  pub full : FindsNoPlace p.table.config before p.seat
  pub counts : census ≡ census_of_allocations p.table.config (world_of q).allocations
  pub leaves : OwnLeaveAllButReleased p q

-- The object was freed, or the register was null; and whether that was due. For a small object no gate was held, and
-- for null nothing was stored but in the turn word. Then a cycle ran where it was due, and else nothing more was done.
pub record FreesObject (on : Bool) (p : PassState) (r : ℕ) (due : Bool) (q : PassState) : Type 0 where
  pub called : CalledInTurn on p (Op.Free r) Answer.Done q
  pub is_due : (due ≡ true) ↔ IsDueIn called.ends.turn
  pub freed : PassState
  pub steps : Does (kinds_for called.taken r) called.taken freed
  pub runs : RunsIfDue on due freed called.done

-- The object was freed already. Nothing is stored but in the turn word.
pub record IsAnsweredDouble (on : Bool) (p : PassState) (r : ℕ) (q : PassState) : Type 0 where
  pub called : CalledInTurn on p (Op.Free r) Answer.Double q
  pub only_looks : Does is_loading called.taken called.done

-- the turns of the pass's seat
abbrev pub OwnAreExact : Bool → PassState → Type 0
OwnAreExact on p = TurnsOfAreExact on p.table.config p.seat p.seen

-- A caller's turns stay exact after a call that needs no turn.
abbrev pub StayExactBehindCalls : Type 0
StayExactBehindCalls =
    (on : Bool) (p : PassState) (o : Op) (a : Answer) (q : PassState) → Has p.seats p.seat → Called p o a q
    → OwnAreExact on p → OwnAreExact on q

-- And after a try that finds its gate held.
abbrev pub StayExactWhereHeld : Type 0
StayExactWhereHeld =
    (on : Bool) (p : PassState) (o : Op) (q : PassState) → Has p.seats p.seat → FindsGateHeld p o q
    → OwnAreExact on p → OwnAreExact on q

-- And after a New or a Free.
abbrev pub StayExactBehindTurns : Type 0
StayExactBehindTurns =
    (on : Bool) (p : PassState) (o : Op) (a : Answer) (q : PassState) → Has p.seats p.seat → CalledInTurn on p o a q
    → OwnAreExact on p → OwnAreExact on q

-- Events of others leave them.
abbrev pub StayExactBehindOthers : Type 0
StayExactBehindOthers =
    (on : Bool) (c : Config) (s : Seat) (seats : List Seat) (es fs : List Event) → Has seats s → Grows seats es fs
    → TurnsOfAreExact on c s es → TurnsOfAreExact on c s fs

-- A call that needs no turn makes no sweeping mark.
abbrev pub CallsSweepNothing : Type 0
CallsSweepNothing = (p : PassState) (o : Op) (a : Answer) (q : PassState) → Called p o a q → SweepsNothing p q

-- Nor does a try that finds its gate held.
abbrev pub SweepNothingWhereHeld : Type 0
SweepNothingWhereHeld = (p : PassState) (o : Op) (q : PassState) → Has p.seats p.seat → FindsGateHeld p o q
    → SweepsNothing p q
