-- A New asks for room: it begins and ends cycles only if its object has no place. What the call has done so far.
use Rattle.std.specs.Prelude.{◌≡◌, ℕ, ◌+◌, ◌<◌, true, List, [], ◌∷◌, ◌++◌, length, slice_index, ⊤, false, Option, Some}
use Rattle.std.specs.Prelude.{None, is_some, Bool, ◌||◌}
use Rattle.mk_never.specs.{Types.kinds_of, declared.operations.Op.Op}
use Rattle.mk_geom.specs.{declared.pages.Census.Census, PageUses.{census_among, uses_of_pages}}
use Rattle.mk_core.specs.{declared.config.Config.Config, declared.events.Event.Event, declared.events.Seat.Seat}
use Rattle.mk_core.specs.{Allocations.{PlacedAllocation, is_mapped, placed_at}, History.{is_same_seat, World}}
use Rattle.mk_core.specs.{History.world_behind, declared.events.Answer.Answer, Counts.{TalliesAreExact, TalliesAreTidy}}
use Rattle.mk_core.specs.{Calls.entry_of, Moments.none_is_held, declared.seats.Stage.Stage, declared.events.Step.Step}
use Rattle.mk_core.specs.{declared.seats.Object.Object, Cycles.{At, is_begin, is_end}}
use Rattle.mk_caller.specs.Below.Words.States.{PassState, world_of, WordsState, call_of, now_of, IsTurn, event_of}
use Rattle.mk_caller.specs.Below.Words.{TurnSteps.{IsFresh, turn_stays}, Steps.Does}
use Rattle.mk_caller.specs.{Below.Words.Sweeping.SweepsNothing, States.caller_of_pass, Called.own_calls}
use Rattle.mk_alloc.specs.TurnCycles.{EachIsFinished, EachIsSaid, HasNoPlace, RunsOneCycle, has_step, is_grant, is_hold}
use Rattle.mk_alloc.specs.{TurnCycles.lets_go, Placing.{IsOutOfStop, IsUnplaced, Requests, object_for, place_now_for}}
use Rattle.mk_alloc.specs.declared.objects.Request.{Request}
use Rattle.mk_cycle.specs.{TurnKeeps.{is_look, is_want, OnlyDoes}, BeginCycle.{EachIsBegun, BeginsCycle}}
use Rattle.mk_cycle.specs.{EngineLaw.{IsFreeForCycle, IsAtPhase, Ways}, FinishCycle.FinishesCycle}

-- An allocation is as it was, but that it may be released, and no longer fresh.
pub record StaysOrIsReleased (a b : PlacedAllocation) : Type 0 where
  pub same : b ≡ record a { fresh = b.fresh; released = b.released }
  pub released : a.released ≡ true → b.released ≡ true

-- Registers and globals stay, and all allocations but that some are released; mapped ones keep their words.
pub record LeavesAllButReleased (c : Config) (w v : World) : Type 0 where
  pub registers : v.now.words.registers ≡ w.now.words.registers
  pub globals : v.now.words.globals ≡ w.now.words.globals
  pub count : length v.allocations ≡ length w.allocations
  pub each : (a : ℕ) → StaysOrIsReleased (placed_at w.allocations a) (placed_at v.allocations a)
  pub words : (a : ℕ) → is_mapped c (placed_at w.allocations a) ≡ true
      → (i : ℕ) → i < length (kinds_of c.types (placed_at w.allocations a).ty)
      → slice_index v.now.words.heap ((placed_at w.allocations a).base + i)
      ≡ slice_index w.now.words.heap ((placed_at w.allocations a).base + i)

-- So does each event of the seat in the list,
unfoldable pub OwnLeaveFrom : Config → Seat → World → List Event → Type 0
OwnLeaveFrom c s w [] = ⊤
OwnLeaveFrom c s w (e ∷ es) =
    (is_same_seat s e.seat ≡ true → LeavesAllButReleased c w (world_behind c w e))
    × OwnLeaveFrom c s (world_behind c w e) es

-- or from what the one pass had seen to what the other has seen.
pub record OwnLeaveAllButReleased (p q : PassState) : Type 0 where
  pub more : List Event
  pub is : q.seen ≡ p.seen ++ more
  pub each : OwnLeaveFrom p.table.config p.seat (world_of p) more

-- Nothing is under way that a cycle or a `give` waits for, and the tallies are what they count.
pub record IsQuiet (p : PassState) : Type 0 where
  pub free : IsFreeForCycle p
  pub phase : IsOutOfStop (now_of p)
  pub gates : none_is_held p.table.config.callers (now_of p).words ≡ true
  pub exact : TalliesAreExact p.table.config p.seen
  pub tidy : TalliesAreTidy p.table.config p.seen

-- Directly after its `take` for this operation.
pub record BeginsTurn (o : Op) (p : PassState) : Type 0 where
  pub fresh : IsFresh p (Some o)
  pub phase : IsOutOfStop (now_of p)
  pub exact : TalliesAreExact p.table.config p.seen
  pub tidy : TalliesAreTidy p.table.config p.seen

-- From one to the other the turn went on, and is quiet. Its call was answered so, or not yet.
pub record TurnGoesOn (a : Option Answer) (p q : PassState) : Type 0 where
  pub does : Does turn_stays p q
  pub quiet : IsQuiet q
  pub entry : own_calls p q.seen ≡ own_calls p p.seen ++ entry_of (caller_of_pass p) (call_of p).op a
  pub op : (call_of q).op ≡ (call_of p).op
  pub decided : is_some a ≡ true → (call_of q).stage ≡ Stage.Give
  pub undecided : a ≡ None → call_of q ≡ call_of p

-- A cycle may run in it: the turn of this table is quiet, and the engine is made for the table's pages.
pub record MayRunCycle (w : WordsState) (pages : ℕ) (p : PassState) : Type 0 where
  pub one_table : p.table ≡ w
  pub made_for : pages ≡ w.config.pages
  pub quiet : IsQuiet p

-- What an engine keeps to. If it doesn't sweep it makes no sweeping mark. After each `begin` it does its part, and then
-- only holds gates until it wants the close or gives the turn back, which may be `yet` to come. At each `close` it says
-- of the world what engines of its type say. If it doesn't keep on, it finishes at once each cycle that it begins.
pub record PassKeeps {V : Type 0} (yet : Bool) (ways : Ways V) (p q : PassState) : Type 0 where
  pub reached : ways.sweeps ≡ false → SweepsNothing p q
  pub begun : EachIsBegun yet ways.begins p q
  pub said : EachIsSaid ways.tells p q
  pub finished : ways.on ≡ false → EachIsFinished ways.closes p q

-- A cycle that was on is finished.
pub record EndsOlder (p q : PassState) : Type 0 where
  pub looked : PassState
  pub looks : OnlyDoes is_look p looked
  pub none : IsAtPhase p 0 → q ≡ looked
  pub on : IsAtPhase p 1 → FinishesCycle looked q

-- Then one begins, and is finished, unless the engine keeps on.
pub record RunsCycle (on : Bool) (p q : PassState) : Type 0 where
  pub idle : PassState
  pub begun : PassState
  pub older : EndsOlder p idle
  pub begins : BeginsCycle idle begun
  pub goes_on : on ≡ true → q ≡ begun
  pub stops : on ≡ false → FinishesCycle begun q

-- A cycle is run if the Free is due, and otherwise nothing is done.
pub record RunsIfDue (on due : Bool) (p q : PassState) : Type 0 where
  pub runs : due ≡ true → RunsCycle on p q
  pub rests : due ≡ false → q ≡ p

-- the steps that begin a cycle, or its end, and those that hold the gates of others for either
abbrev pub asks_room : Step → Bool
asks_room s = is_begin s || is_want s || is_hold s

-- Each of them that was seen since came where the object had no place.
abbrev pub AsksRoom : Object → PassState → PassState → Type 0
AsksRoom o p q =
    (part : List Event) (e : Event) (behind : List Event) → q.seen ≡ p.seen ++ part ++ e ∷ behind → asks_room e.step
    ≡ true
    → HasNoPlace p.table.config o (p.seen ++ part)

-- No grant was seen since.
abbrev pub GrantsNone : PassState → PassState → Type 0
GrantsNone p q = (more : List Event) → q.seen ≡ p.seen ++ more → has_step is_grant more ≡ false

-- After each grant that was seen since nothing lets storage go.
abbrev pub GrantsLast : PassState → PassState → Type 0
GrantsLast p q =
    (more : List Event) → q.seen ≡ p.seen ++ more → (g : At is_grant more) → has_step lets_go g.behind ≡ false

-- What was seen since has no step of this kind,
pub record SeesNone (kind : Step → Bool) (p q : PassState) : Type 0 where
  pub more : List Event
  pub is : q.seen ≡ p.seen ++ more
  pub none : has_step kind more ≡ false

-- or of cycles only the end of one,
pub record EndsOnly (p q : PassState) : Type 0 where
  pub begins_none : SeesNone is_begin p q
  pub ended : At is_end begins_none.more

-- or one cycle at most that is begun, and it is ended.
pub record RunsOne (p q : PassState) : Type 0 where
  pub more : List Event
  pub is : q.seen ≡ p.seen ++ more
  pub one : RunsOneCycle more

-- The turn of this table is for a New that requests this, isn't decided and has no place yet, and nothing is under way.
pub record SeeksRoom (w : WordsState) (p : PassState) (request : Request) : Type 0 where
  pub one_table : p.table ≡ w
  pub turn : IsTurn p
  pub requested : Requests p request
  pub quiet : IsQuiet p
  pub unplaced : IsUnplaced p

-- It has no place now, and the engine that may make room is made for the table's pages.
pub record NeedsRoom (w : WordsState) (pages : ℕ) (p : PassState) (request : Request) : Type 0 where
  pub seeks : SeeksRoom w p request
  pub nowhere : place_now_for p ≡ None
  pub made_for : pages ≡ w.config.pages

-- The turn of a New went on, and asked for room so. Until it is answered it is granted nothing and leaves all but what
-- is released, and then it lets nothing go.
pub record Seeks (a : Option Answer) (p q : PassState) : Type 0 where
  pub on : TurnGoesOn a p q
  pub room : AsksRoom (object_for p) p q
  pub none : a ≡ None → GrantsNone p q
  pub leaves : a ≡ None → OwnLeaveAllButReleased p q
  pub last : GrantsLast p q

-- It isn't decided, and its object has no place now.
pub record Misfits (p q : PassState) : Type 0 where
  pub turn : IsTurn q
  pub seeks : Seeks None p q
  pub unplaced : IsUnplaced q
  pub nowhere : place_now_for q ≡ None

-- It was granted, or else it misfits.
pub record PlacesOrMisfits (is_placed : Bool) (p q : PassState) : Type 0 where
  pub placed : is_placed ≡ true → Seeks (Some Answer.Done) p q
  pub misfits : is_placed ≡ false → Misfits p q

-- It was answered Full, and all allocations stay.
pub record AnswersFull (p q : PassState) : Type 0 where
  pub seeks : Seeks (Some Answer.Full) p q
  pub before : List Event
  pub behind : List Event
  pub is : q.seen ≡ before ++ event_of p Step.Full ∷ behind
  pub allocations : (world_of q).allocations ≡ (world_of p).allocations
  pub leaves : OwnLeaveAllButReleased p q

-- what a New is answered, by the counts that come with Full
abbrev pub answer_with : Option Census → Answer
answer_with None = Answer.Done
answer_with (Some _) = Answer.Full

-- It was answered Full where its object misfits at last, and these are the counts of the pages there.
pub record CountsFull (p q : PassState) (census : Census) : Type 0 where
  pub last : PassState
  pub misfits : Misfits p last
  pub full : AnswersFull last q
  pub counts : census ≡ census_among (uses_of_pages (now_of last).words.pages)
