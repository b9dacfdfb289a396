-- What calls under the turn do with cycles, told of each turn where it is given back, and when marks are closed.
use Rattle.std.specs.{Prelude.{◌≡◌, true, List, ◌++◌, ◌↔◌, Bool, false, ◌||◌, ◌∷◌, Option, Some, ⊤}, List.list_any}
use Rattle.mk_never.specs.declared.operations.Op.{Op}
use Rattle.mk_core.specs.declared.{config.Config.Config, events.{Event.Event, Seat.Seat}}
use Rattle.mk_core.specs.Cycles.{At, is_begin, is_close, through, TurnOf, BeginsIn, BeginsAndEndsIn, is_end}
use Rattle.mk_core.specs.{History.{World, left}, declared.{events.Step.Step, seats.Object.Object}}
use Rattle.mk_core.specs.{Allocations.FitsAmongAllocations, Counts.IsDue, NewPlaces.object_made, Words.phase_of}
use Rattle.mk_caller.specs.Below.Words.States.{Has, PassState}
use Rattle.mk_cycle.specs.{BeginCycle.are_own_of, Stops.IsClosedBy, EngineLaw.IsAtPhase}
use Rattle.mk_cycle.specs.TurnKeeps.{begins_marking, is_want}

-- An engine says this of the world.
pub record IsSaid {V : Type 0} (tells : V → Config → World → Type 0) (c : Config) (w : World) : Type 0 where
  pub engine : V
  pub says : tells engine c w

-- Some engine says it at each `close` of the seat in the list that goes on,
abbrev pub AreSaidAtCloses : {V : Type 0} → (V → Config → World → Type 0) → Config → Seat → List Event → List Event
    → Type 0
AreSaidAtCloses tells c s es more = (k : At is_close more) → k.event.seat ≡ s → IsSaid tells c (left c (es ++ k.before))

-- and so at each one from what the one pass had seen to what the other has seen.
pub record EachIsSaid {V : Type 0} (tells : V → Config → World → Type 0) (p q : PassState) : Type 0 where
  pub more : List Event
  pub is : q.seen ≡ p.seen ++ more
  pub each : AreSaidAtCloses tells p.table.config p.seat p.seen more

-- A cycle that a seat began is finished at once. Up to the `begin` these events stood there. After it the engine did
-- its part, for which it looks, marks, and holds and opens gates. Then gates were held, the engine did in the stop what
-- it does there, and the marks were closed.
pub record IsFinishedAtOnce {V : Type 0} (closes : V → PassState → PassState → Type 0) (c : Config) (s : Seat)
    (es more : List Event) : Type 0 where
  pub engine : V
  pub first : List Event
  pub then : List Event
  pub split : more ≡ first ++ then
  pub marking : are_own_of begins_marking s first ≡ true
  pub begun : PassState
  pub finished : PassState
  pub rest : List Event
  pub config : begun.table.config ≡ c
  pub seat : begun.seat ≡ s
  pub own : Has begun.seats begun.seat
  pub phase : IsAtPhase begun 1
  pub seen : begun.seen ≡ es ++ first
  pub closed : IsClosedBy (closes engine) begun finished
  pub is : es ++ more ≡ finished.seen ++ rest

-- So is each one that the seat begins in the list that goes on,
abbrev pub AreFinishedAtOnce : {V : Type 0} → (V → PassState → PassState → Type 0) → Config → Seat → List Event
    → List Event → Type 0
AreFinishedAtOnce closes c s es more =
    (b : At is_begin more) → b.event.seat ≡ s → IsFinishedAtOnce closes c s (es ++ through b) b.behind

-- and so each one from what the one pass had seen to what the other has seen.
pub record EachIsFinished {V : Type 0} (closes : V → PassState → PassState → Type 0) (p q : PassState) : Type 0 where
  pub more : List Event
  pub is : q.seen ≡ p.seen ++ more
  pub each : AreFinishedAtOnce closes p.table.config p.seat p.seen more

-- what keeps another caller from its next call
abbrev pub is_hold : Step → Bool
is_hold (Step.Hold j) = true
is_hold _ = false

-- what ends a cycle that is on
abbrev pub finishes : Step → Bool
finishes Step.Want = true
finishes Step.Close = true
finishes Step.Release = true
finishes Step.End = true
finishes _ = false

-- it begins, closes, releases or ends a cycle
abbrev pub is_of_cycle : Step → Bool
is_of_cycle s = is_begin s || finishes s

-- it is a `grant`
abbrev pub is_grant : Step → Bool
is_grant Step.Grant = true
is_grant _ = false

-- what frees and releases are made by: a store to a quarantine word, and a `release`
abbrev pub lets_go : Step → Bool
lets_go Step.Release = true
lets_go (Step.Quar p v) = true
lets_go _ = false

-- one of these events has a step of this kind
abbrev pub has_step : (Step → Bool) → List Event → Bool
has_step kind es = list_any (λ (e : Event). kind e.step) es

-- the list up to this part of a turn, from the first event of all on
abbrev pub within_turn : {c : Config} {s : Seat} {es : List Event} → TurnOf c s es → List Event → List Event
within_turn {s = s} t part = t.before ++ record { seat = s; step = Step.Take t.op } ∷ part

-- An event of the turn frees an object, and a free is due there.
pub record IsDueIn {c : Config} {s : Seat} {es : List Event} (t : TurnOf c s es) : Type 0 where
  pub before : List Event
  pub event : Event
  pub behind : List Event
  pub is : t.behind ≡ before ++ event ∷ behind
  pub due : IsDue c (within_turn t before) event

-- A free is due in the turn, before it does anything with cycles.
pub record FreesFirst {c : Config} {s : Seat} {es : List Event} (t : TurnOf c s es) : Type 0 where
  pub due : IsDueIn t
  pub no_cycle : has_step is_of_cycle due.before ≡ false

-- These events begin one cycle at most, and end what they begin.
abbrev pub RunsOneCycle : List Event → Type 0
RunsOneCycle es = (b : At is_begin es) → (has_step is_begin b.behind ≡ false) × At is_end b.behind

-- A Free begins a cycle exactly where it is due, after the event that frees, and else does nothing with cycles. An
-- engine that keeps on leaves that cycle on, and has ended the one that was on before; one that doesn't ends it in the
-- call, and begins no other.
pub record FreeIsExact (on : Bool) {c : Config} {s : Seat} {es : List Event} (t : TurnOf c s es) : Type 0 where
  pub begins : BeginsIn t ↔ IsDueIn t
  pub first : IsDueIn t → FreesFirst t
  pub undue : (IsDueIn t → ⊥) → has_step is_of_cycle t.behind ≡ false
  pub stopped : on ≡ false → BeginsIn t → BeginsAndEndsIn t
  pub one : on ≡ false → RunsOneCycle t.behind
  pub goes_on : on ≡ true → (b : BeginsIn t) → has_step finishes b.behind ≡ false
  pub older : on ≡ true → phase_of (left c t.before).now.words ≡ 1 → (b : BeginsIn t) → At is_end b.before

-- The object has no place after this list.
abbrev pub HasNoPlace : Config → Object → List Event → Type 0
HasNoPlace c o es = FitsAmongAllocations c o.words o.leaf (left c es).allocations → ⊥

-- A New begins a cycle, ends one, and holds the gates of others, only where its object has no place. It begins one
-- cycle at most, and ends it. After the grant of its object it lets nothing go.
pub record NewIsExact {c : Config} {s : Seat} {es : List Event} (t : TurnOf c s es) (o : Object) : Type 0 where
  pub begins : (b : BeginsIn t) → HasNoPlace c o (within_turn t b.before)
  pub ends : (w : At is_want t.behind) → HasNoPlace c o (within_turn t w.before)
  pub holds : (h : At is_hold t.behind) → HasNoPlace c o (within_turn t h.before)
  pub one : RunsOneCycle t.behind
  pub keeps : (g : At is_grant t.behind) → has_step lets_go g.behind ≡ false

-- The turn does with cycles just what its operation asks.
abbrev pub CallIsExact : Bool → {c : Config} {s : Seat} {es : List Event} → TurnOf c s es → Option Op → Type 0
CallIsExact on {c = c} t (Some (Op.New d ty full)) = NewIsExact t (object_made c (Op.New d ty full))
CallIsExact on t (Some (Op.Free p)) = FreeIsExact on t
CallIsExact on t _ = ⊤

-- After the list the seat is in a turn, which has done with cycles what its operation asks.
pub record EndsExactly (on : Bool) (c : Config) (s : Seat) (es : List Event) : Type 0 where
  pub turn : TurnOf c s es
  pub exact : CallIsExact on turn turn.op

-- Each turn of the seat that is given back did so.
abbrev pub TurnsOfAreExact : Bool → Config → Seat → List Event → Type 0
TurnsOfAreExact on c s es =
    (before : List Event) (e : Event) (behind : List Event) → es ≡ before ++ e ∷ behind → e.step ≡ Step.Give → e.seat
    ≡ s
    → EndsExactly on c s before
