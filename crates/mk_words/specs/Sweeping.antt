-- Sweeping marks: by a word of a cell that wasn't marked when it was looked at. Which of its steps make none.
use Rattle.std.specs.Prelude.{◌≡◌, Bool, true, false, List, [], ◌∷◌, ◌++◌, ⊤, Option}
use Rattle.mk_never.specs.declared.operations.Op.{Op}
use Rattle.mk_core.specs.declared.{config.Config.Config, events.{Seat.Seat, Event.Event}}
use Rattle.mk_core.specs.{declared.events.Step.Step, Cycles.sweeps, History.{is_same_seat, World, world_behind}}
use Rattle.mk_core.specs.Moments.{flight_of}
use Rattle.mk_words.specs.{States.{PassState, world_of, Has}, Steps.{Makes, moment_of, Does}, TurnSteps.TakesTurn}

-- No step of the seat in the list makes a sweeping mark.
unfoldable pub SweepsNothingFrom : Config → Seat → World → List Event → Type 0
SweepsNothingFrom c s w [] = ⊤
SweepsNothingFrom c s w (e ∷ es) =
    (is_same_seat s e.seat ≡ true → sweeps c w.now (flight_of w.now e.seat) e.step ≡ false)
    × SweepsNothingFrom c s (world_behind c w e) es

-- From what the one pass had seen to what the other has seen, its seat made no sweeping mark.
pub record SweepsNothing (p q : PassState) : Type 0 where
  pub more : List Event
  pub is : q.seen ≡ p.seen ++ more
  pub none : SweepsNothingFrom p.table.config p.seat (world_of p) more

-- the only kind of step that may be a sweeping mark
abbrev pub is_mark : Step → Bool
is_mark (Step.Mark p v) = true
is_mark _ = false

-- These kinds of step have no mark among them.
abbrev pub HaveNoMark : (Step → Bool) → Type 0
HaveNoMark kinds = (s : Step) → kinds s ≡ true → is_mark s ≡ false

-- The laws.

-- A pass that did nothing made no sweeping mark.
abbrev pub NothingSweepsNothing : Type 0
NothingSweepsNothing = (p : PassState) → SweepsNothing p p

-- Two parts without a sweeping mark are one part without.
abbrev pub NothingIsSweptInTurn : Type 0
NothingIsSweptInTurn =
    (p q r : PassState) → q ≡ record p { seen = q.seen } → SweepsNothing p q → SweepsNothing q r → SweepsNothing p r

-- Steps that mark nothing sweep nothing.
abbrev pub OtherKindsSweepNothing : Type 0
OtherKindsSweepNothing =
    (kinds : Step → Bool) (p q : PassState) → HaveNoMark kinds → Does kinds p q → SweepsNothing p q

-- A step that isn't a sweeping mark sweeps nothing.
abbrev pub StepsMaySweepNothing : Type 0
StepsMaySweepNothing =
    (p q : PassState) (s : Step) (m : Makes p s q)
    → sweeps p.table.config (moment_of m) (flight_of (moment_of m) p.seat) s ≡ false → SweepsNothing p q

-- Taking the turn sweeps nothing.
abbrev pub TakingSweepsNothing : Type 0
TakingSweepsNothing =
    (p : PassState) (o : Option Op) (q : PassState) → Has p.seats p.seat → TakesTurn p o q → SweepsNothing p q
