-- What the steps of the turn's holder leave, and how a caller waits for the turn.
use Rattle.std.specs.Prelude.{◌≡◌, ℕ, ◌%◌, ◌^◌, ◌++◌, Option, Some, None, Bool, true, false, ◌*◌, ◌⊎◌, min, not, ◌&&◌}
use Rattle.std.specs.{Prelude.{◌||◌, List, ◌<◌, ◌+◌, suc, zero}, List.list_all}
use Rattle.mk_never.specs.declared.operations.Op.{Op}
use Rattle.mk_geom.specs.Addresses.{address_of, is_heap_address, page_at_address}
use Rattle.mk_core.specs.Below.Books.KnownPages.{KnownPages}
use Rattle.mk_core.specs.declared.events.{Seat.TheVariants.Caller, Step.Step}
use Rattle.mk_core.specs.{declared.seats.Flight.Flight, Accesses.granted_base, Calls.{at_rest, begun}}
use Rattle.mk_core.specs.{Moments.{nothing_done, none_is_held, others_are_held}, Words.phase_of, Conditions.has_phase}
use Rattle.mk_core.specs.{TurnConditions.held_by_pages, Readings.Holds, History.{World, world_behind, left, is_one_of}}
use Rattle.mk_core.specs.{History.is_same_seat, Frames.{OwnIsLeft, HoldsAll, TurnIsLeft, CountsAreLeft, written_of}}
use Rattle.mk_core.specs.{Effects.progress, declared.events.Event.Event}
use Rattle.mk_core.specs.declared.events.Word.{Word}
use Rattle.mk_words.specs.{PageMaps.{IsMapOf, is_told}, States.{PassState, world_of, now_of, call_of, event_of}}
use Rattle.mk_words.specs.{States.TurnState, Steps.{Makes, found_by, Finds, IsEnabledTo}}

-- the call that a `take` with this operation begins
abbrev pub begun_for : Option Op → Flight
begun_for (Some o) = begun o
begun_for None = at_rest

-- Directly after its `take` a turn has done nothing, no gate is held, and the phase and the tallies are what a `give`
-- asks.
pub record IsFresh (p : PassState) (o : Option Op) : Type 0 where
  pub call : call_of p ≡ begun_for o
  pub holding : (now_of p).seats.holding ≡ nothing_done
  pub gates : none_is_held p.table.config.callers (now_of p).words ≡ true
  pub phase : has_phase (phase_of (now_of p).words) Step.Give ≡ true
  pub held : (now_of p).words.held ≡ held_by_pages (now_of p).words
  pub fresh : (now_of p).words.fresh ≡ (now_of p).fresh_words

-- A turn goes on after every step but these.
abbrev pub turn_stays : Step → Bool
turn_stays (Step.Take o) = false
turn_stays Step.Give = false
turn_stays (Step.Enter o) = false
turn_stays Step.Leave = false
turn_stays _ = true

-- what is left where the step is made
abbrev pub world_at : {p : PassState} {s : Step} {q : PassState} → Makes p s q → World
world_at {p} m = left p.table.config (p.seen ++ m.others)

-- The holder of the turn made the step. Others had left it its own up to then, and after it stands what it does there.
-- A caller's call goes on by it.
pub record Acts (p : PassState) (s : Step) (q : PassState) : Type 0 where
  pub makes : Makes p s q
  pub holds : Holds p.table.config (now_of p) p.seat
  pub own : OwnIsLeft p.table.config p.seat (world_of p) (world_at makes)
  pub holding : (world_at makes).now.seats.holding ≡ (now_of p).seats.holding
  pub turn : TurnIsLeft (world_of p) (world_at makes)
  pub counts : CountsAreLeft p.table.config p.seen (p.seen ++ makes.others)
  pub stop : HoldsAll p.table.config (now_of p) p.seat → written_of (world_at makes) ≡ written_of (world_of p)
  pub world : world_of q ≡ world_behind p.table.config (world_at makes) (event_of p s)
  pub call : (k : ℕ) → p.seat ≡ Caller k
      → call_of q ≡ (progress p.table.config (world_at makes).now (call_of p) (found_by makes) s).flight

-- No gate is changed but by these.
abbrev pub gates_stay : Step → Bool
gates_stay (Step.Hold j) = false
gates_stay (Step.Open j) = false
gates_stay s = turn_stays s

-- After the step the turn goes on as it is: with its gates, where they are known to be held, and with a page map that
-- isn't told of it.
pub record StaysTurn (held : Bool) (s : Step) : Type 0 where
  pub turn : turn_stays s ≡ true
  pub gates : held ≡ true → gates_stay s ≡ true
  pub map : is_told s ≡ false

-- all gates but that of the turn's holder are held
abbrev pub IsStopped : PassState → Type 0
IsStopped p = others_are_held p.table.config.callers (now_of p).words p.seat ≡ true

-- what is known of the gates: that they are held so, or nothing
abbrev pub GatesAre : Bool → PassState → Type 0
GatesAre true p = IsStopped p
GatesAre false p = Unit {0}

-- the address that a `grant` stores, of the object of the New whose cell is taken
abbrev pub granted_address : PassState → ℕ
granted_address p = address_of (granted_base p.table.config (call_of p) (now_of p).seats.holding.placing) % 2 ^ 64

-- The second map shows what is left after this step of a turn's holder, if the first shows what is left before it.
abbrev pub FollowsStep : Step → KnownPages → KnownPages → Type 0
FollowsStep s old new = (p q : PassState) → Acts p s q → IsMapOf old (now_of p).words → IsMapOf new (now_of q).words

-- A turn's map shows what is left after all that the pass has seen, and the gates are held, where that is known.
pub record HasMap (held : Bool) (p : PassState) (map : KnownPages) : Type 0 where
  pub shows : IsMapOf map (now_of p).words
  pub gates : GatesAre held p

-- the sleep after one of this length, in microseconds
abbrev pub sleep_after : ℕ → ℕ
sleep_after sleep = min (2 * sleep) 1000

-- After a pause that was no sleep the next sleep is as long as it was to be, and else longer.
abbrev pub PausesOnce : ℕ → ℕ → Type 0
PausesOnce before after = (after ≡ before) ⊎ (after ≡ sleep_after before)

-- it is a `take`
abbrev pub is_take : Step → Bool
is_take (Step.Take o) = true
is_take _ = false

-- an event of another, or a try to take the turn
abbrev pub waits_for : PassState → Event → Bool
waits_for p e = not (is_one_of p.seats e.seat) || (is_take e.step && is_same_seat e.seat p.seat)

-- The pass has seen events of others, and has tried to take the turn.
pub record Waits (p q : PassState) : Type 0 where
  pub more : List Event
  pub is : q ≡ record p { seen = p.seen ++ more }
  pub only : list_all (waits_for p) more ≡ true

-- It waited for the turn, and took it for this operation; the host takes it for none.
pub record TakesTurn (p : PassState) (o : Option Op) (q : PassState) : Type 0 where
  pub waited : PassState
  pub waits : Waits p waited
  pub takes : Finds waited (Step.Take o) 0 q

-- The header of each page may be looked at.
abbrev pub MayLookAtHeaders : PassState → Type 0
MayLookAtHeaders p = (page : ℕ) → page < p.table.config.pages → IsEnabledTo p (Step.Look (Word.Head page))

-- The holder of the turn looked at the header of the value's page, once, and did nothing else. It did nothing at all
-- where the value is no address of the heap.
pub record LooksForCell (value : ℕ) (t u : TurnState) : Type 0 where
  pub table : u.pass.table ≡ t.pass.table
  pub outside : is_heap_address t.pass.table.config.pages value ≡ false → u ≡ t
  pub inside : is_heap_address t.pass.table.config.pages value ≡ true
      → Acts t.pass (Step.Look (Word.Head (page_at_address value))) u.pass

-- It stored these header words one after the other, on `count` pages from page `first` on.
abbrev pub StoresHeads : PassState → ℕ → ℕ → (ℕ → ℕ) → PassState → Type 0
StoresHeads p first zero headers q = p ≡ q
StoresHeads p first (suc n) headers q =
    (r : PassState) × StoresHeads p first n headers r × Acts r (Step.Head (first + n) (headers n)) q

-- It may store each of these header words after those before it.
abbrev pub MayStoreHeads : PassState → ℕ → ℕ → (ℕ → ℕ) → Type 0
MayStoreHeads p first count headers =
    (n : ℕ) (q : PassState) → n < count → StoresHeads p first n headers q
    → IsEnabledTo q (Step.Head (first + n) (headers n))
