-- The parts of a Free's turn round its `quar`: gates are held and opened, a run is unmapped and wiped, tallies are set.
use Rattle.std.specs.Prelude.{◌≡◌, ◌≢◌, ℕ, ◌*◌, ◌<◌, Bool, true, false, List, [], Some, ◌+◌, ◌≤◌, slice_index, ◌↔◌}
use Rattle.std.specs.Prelude.{◌==◌, IsTrue, map, None, ◌∷◌, ◌++◌, ◌||◌}
use Rattle.mk_geom.specs.{declared.{pages.Page.Page, addresses.Cell.Cell}, PageUses.PartOfRun}
use Rattle.mk_core.specs.Below.Books.KnownPages.{StandsOn}
use Rattle.mk_core.specs.Allocations.{freed_where_it_stands, PlacedAllocation, fresh_words_of, held_by_allocations}
use Rattle.mk_core.specs.Cells.{header_in, run_headed, words_are_zero, heads_run, is_freed}
use Rattle.mk_core.specs.{Counts.{TalliesAreExact, releases, decides_freed}, Frames.{Steady, steady_of}}
use Rattle.mk_core.specs.{History.{World, left}, Moments.{flight_of, is_held, others_are_held}}
use Rattle.mk_core.specs.{NewPlaces.{is_run_gone, is_run_unmapped, target}, Words.named_word}
use Rattle.mk_core.specs.declared.{config.Config.Config, events.{Answer.Answer, Event.Event}}
use Rattle.mk_core.specs.declared.events.{Seat.Seat, Step.Step, Tally.Tally}
use Rattle.mk_core.specs.declared.{events.Word.Word, seats.{RunPages.RunPages, Stage.Stage}}
use Rattle.mk_caller.specs.Below.Words.States.{PassState, WordsState, call_of, now_of, world_of}
use Rattle.mk_caller.specs.Below.Words.Steps.{Does, is_open}
use Rattle.mk_alloc.specs.{Placing.{is_acting, ComesTo, IsOutOfStop, entry_for}, Retiring.{IsFreeAt, is_freeing_small}}
use Rattle.mk_alloc.specs.Retiring.{is_freeing, loaded_free, is_following}
pub use Rattle.mk_cycle.specs.Stops.{all_others}
use Rattle.mk_cycle.specs.{TurnKeeps.sets_tallies, FinishCycle.with_tally}

-- steps that end a Free
abbrev pub is_settling : Step → Bool
is_settling s = is_open s || sets_tallies s

-- The holder's call is as it was, and what it has done in its turn, and all that none but it changes but its gates.
pub record IsButGates (s : Seat) (w v : World) : Type 0 where
  pub call : flight_of v.now s ≡ flight_of w.now s
  pub holding : v.now.seats.holding ≡ w.now.seats.holding
  pub steady : steady_of v ≡ steady_of w

-- One gate is held or isn't, and the others are as they were.
pub record GateIsSet (s : Seat) (gate : ℕ) (held : Bool) (w v : World) : Type 0 where
  pub but_gates : IsButGates s w v
  pub set : is_held v.now.words gate ≡ held
  pub others : (j : ℕ) → j ≢ gate → is_held v.now.words j ≡ is_held w.now.words j

-- Of the callers' gates these are held.
pub record HasGates (s : Seat) (callers : ℕ) (gates : ℕ → Bool) (w v : World) : Type 0 where
  pub but_gates : IsButGates s w v
  pub held : (j : ℕ) → j < callers → is_held v.now.words j ≡ gates j

-- no gate
abbrev pub no_gate : ℕ → Bool
no_gate j = false

-- The gates of all other callers are held, and no other.
abbrev pub HoldsOthers : PassState → Type 0
HoldsOthers p = (j : ℕ) → j < p.table.config.callers → is_held (now_of p).words j ≡ all_others p.seat j

-- so many pages from this one on
abbrev pub run_on : ℕ → ℕ → RunPages
run_on page count = record { page = page; count = count }

-- A run of this many pages is headed on this page.
abbrev pub HasRunAt : PassState → ℕ → ℕ → Type 0
HasRunAt p page count = run_headed (header_in (now_of p).words page) page ≡ Some (run_on page count)

-- One gate is held, or opened.
abbrev pub SetsGate : (Step → Bool) → PassState → ℕ → Bool → PassState → Type 0
SetsGate kinds p gate held q = ComesTo kinds p (GateIsSet p.seat gate held (world_of p)) [] q

-- Just these gates are held.
abbrev pub SetsGates : (Step → Bool) → PassState → (ℕ → Bool) → PassState → Type 0
SetsGates kinds p gates q = ComesTo kinds p (HasGates p.seat p.table.config.callers gates (world_of p)) [] q

-- On these words the call may open gates: no cycle stops, and the run that it freed is unmapped and wiped.
pub record MayOpen (w : WordsState) (p : PassState) : Type 0 where
  pub one_table : p.table ≡ w
  pub acting : is_acting (call_of p).stage ≡ true
  pub phase : IsOutOfStop (now_of p)
  pub gone : is_run_gone (now_of p).words (now_of p).seats.holding.freed ≡ true

-- The holder's call, what it has done in its turn, and its gates are as they were; what only it changes is changed so.
pub record Changes (s : Seat) (change : Steady → Steady) (w v : World) : Type 0 where
  pub call : flight_of v.now s ≡ flight_of w.now s
  pub holding : v.now.seats.holding ≡ w.now.seats.holding
  pub steady : steady_of v ≡ change (steady_of w)
  pub gates : (j : ℕ) → is_held v.now.words j ≡ is_held w.now.words j

-- One tally is set.
abbrev pub SetsTally : PassState → Tally → ℕ → PassState → Type 0
SetsTally p t n q = ComesTo sets_tallies p (Changes p.seat (with_tally t n) (world_of p)) [] q

-- the pages, changed to these
abbrev pub with_pages : List Page → Steady → Steady
with_pages pages x = record x { pages = pages }

-- The pages of the run are unmapped,
pub record RunIsUnmapped (s : Seat) (run : RunPages) (w v : World) : Type 0 where
  pub changes : Changes s (with_pages v.now.words.pages) w v
  pub unmapped : is_run_unmapped v.now.words run ≡ true

-- and its words wiped.
pub record RunIsWiped (s : Seat) (run : RunPages) (w v : World) : Type 0 where
  pub changes : Changes s (λ x. x) w v
  pub wiped : words_are_zero v.now.words (64 * run.page) (64 * run.count) ≡ true

-- The run is unmapped.
abbrev pub Unmaps : PassState → RunPages → PassState → Type 0
Unmaps p run q = ComesTo is_following p (RunIsUnmapped p.seat run (world_of p)) [] q

-- The run's words are 0.
abbrev pub Wipes : PassState → RunPages → PassState → Type 0
Wipes p run q = ComesTo is_following p (RunIsWiped p.seat run (world_of p)) [] q

-- The call is decided and has freed this run, whose pages are all mapped still, and no cycle stops the others.
pub record MayUnmap (p : PassState) (run : RunPages) : Type 0 where
  pub decided : (call_of p).stage ≡ Stage.Give
  pub phase : IsOutOfStop (now_of p)
  pub freed : (now_of p).seats.holding.freed ≡ Some run
  pub some : 1 ≤ run.count
  pub few : run.count ≤ 64
  pub within : run.page + run.count ≤ p.table.config.pages
  pub mapped : StandsOn (PartOfRun true) (now_of p).words.pages run.page run.count

-- This many of its words are wiped.
pub record WipedTo (s : Seat) (run : RunPages) (w v : World) (n : ℕ) : Type 0 where
  pub changes : Changes s (λ x. x) w v
  pub zeros : (i : ℕ) → i < n → slice_index v.now.words.heap (64 * run.page + i) ≡ 0

-- The call is decided and has unmapped the run, and the gates of all other callers are held, so its words may be wiped.
pub record MayWipe (p : PassState) (run : RunPages) : Type 0 where
  pub decided : (call_of p).stage ≡ Stage.Give
  pub stopped : others_are_held p.table.config.callers (now_of p).words p.seat ≡ true
  pub freed : (now_of p).seats.holding.freed ≡ Some run
  pub unmapped : is_run_unmapped (now_of p).words run ≡ true
  pub few : run.count ≤ 64
  pub within : run.page + run.count ≤ p.table.config.pages

-- On these words, which have this many pages, the run may be wiped, and its words up to this one are 0.
pub record MayWipeFrom (w : WordsState) (p : PassState) (pages : ℕ) (run : RunPages) (n : ℕ) : Type 0 where
  pub one_table : p.table ≡ w
  pub all_pages : pages ≡ w.config.pages
  pub may : MayWipe p run
  pub wiped : (i : ℕ) → i < n → slice_index (now_of p).words.heap (64 * run.page + i) ≡ 0

-- This many groups of its words, all on this page of it, are next.
pub record MayWipeGroups (w : WordsState) (p : PassState) (pages : ℕ) (run : RunPages) (part group count : ℕ) : Type 0
  where
    pub from : MayWipeFrom w p pages run (8 * group)
    pub within : part < run.count
    pub first : 8 * part ≤ group
    pub last : group + count ≤ 8 * part + 8

-- After steps of the call its words up to this one are 0.
abbrev pub WipesTo : PassState → RunPages → ℕ → PassState → Type 0
WipesTo p run n q = ComesTo is_following p (λ v. WipedTo p.seat run (world_of p) v n) [] q

-- More than a quarter of the held words is fresh.
abbrev pub IsOverQuarter : Config → List PlacedAllocation → Type 0
IsOverQuarter c xs = held_by_allocations c xs < 4 * fresh_words_of c xs

-- The event decides that a Free has freed its object.
abbrev pub event_frees : Config → List Event → Event → Bool
event_frees c es e = decides_freed c (left c es).now (flight_of (left c es).now e.seat) e.step

-- Each event after the first list that frees an object leaves these allocations.
abbrev pub FreesOnly : Config → List Event → List PlacedAllocation → List Event → Type 0
FreesOnly c seen xs es =
    (before : List Event) (e : Event) (behind : List Event) → es ≡ seen ++ before ++ e ∷ behind
    → event_frees c (seen ++ before) e ≡ true → (left c (seen ++ before ++ e ∷ [])).allocations ≡ xs

-- Since then there is an event that frees. It leaves the allocations as they are now, as does every other that frees.
pub record FreesOnce (p q : PassState) : Type 0 where
  pub before : List Event
  pub event : Event
  pub behind : List Event
  pub is : q.seen ≡ p.seen ++ before ++ event ∷ behind
  pub frees : event_frees p.table.config (p.seen ++ before) event ≡ true
  pub leaves : (left p.table.config (p.seen ++ before ++ event ∷ [])).allocations ≡ (world_of q).allocations
  pub only : FreesOnly p.table.config p.seen (world_of q).allocations q.seen

-- the phase, and all that is counted but held and fresh words
abbrev pub counted : Steady → List ℕ
counted x = x.phase ∷ x.cycles ∷ x.released ∷ x.full ∷ releases x.allocations ∷ []

-- The call is decided. Its turn has the same place and cycle, and these counts are the same.
pub record IsDecidedAt (s : Seat) (w v : World) : Type 0 where
  pub stage : (flight_of v.now s).stage ≡ Stage.Give
  pub op : (flight_of v.now s).op ≡ (flight_of w.now s).op
  pub placing : v.now.seats.holding.placing ≡ w.now.seats.holding.placing
  pub cycle : v.now.seats.holding.cycle ≡ w.now.seats.holding.cycle
  pub counted : counted (steady_of v) ≡ counted (steady_of w)

-- The call stays where it is, with these counts, and the allocations.
pub record StaysSo (s : Seat) (w v : World) : Type 0 where
  pub call : flight_of v.now s ≡ flight_of w.now s
  pub holding : v.now.seats.holding ≡ w.now.seats.holding
  pub counted : counted (steady_of v) ≡ counted (steady_of w)
  pub fresh_words : v.now.fresh_words ≡ w.now.fresh_words
  pub allocations : v.allocations ≡ w.allocations

-- The cell's object was freed, by one event, and it is known if that is due. If it is small no gate was held.
pub record FreesCell (p : PassState) (cell : Cell) (due : Bool) (q : PassState) : Type 0 where
  pub reaches : ComesTo is_freeing p (IsDecidedAt p.seat (world_of p)) (entry_for p Answer.Done) q
  pub allocations : (world_of q).allocations ≡ map (freed_where_it_stands (now_of p).words (Some cell))
      (world_of p).allocations
  pub small : heads_run (header_in (now_of p).words cell.page) ≡ false → Does is_freeing_small p q
  pub once : FreesOnce p q
  pub gone : is_run_gone (now_of q).words (now_of q).seats.holding.freed ≡ true
  pub gates : (j : ℕ) → j < p.table.config.callers → is_held (now_of q).words j ≡ false
  pub exact : TalliesAreExact q.table.config q.seen
  pub exactly : IsTrue due ↔ IsOverQuarter p.table.config (world_of q).allocations

-- The Free has loaded its register, whose target isn't freed, and nothing else is under way in its turn.
pub record MayFree (p : PassState) (r u : ℕ) (cell : Cell) : Type 0 where
  pub free : IsFreeAt p r (loaded_free r u)
  pub some : (u == 0) ≡ false
  pub target : target p.table.config.pages (now_of p).words (call_of p) ≡ Some cell
  pub within : cell.page < p.table.config.pages
  pub index : cell.index < 32
  pub live : is_freed (now_of p).words cell ≡ false
  pub phase : IsOutOfStop (now_of p)
  pub none_freed : (now_of p).seats.holding.freed ≡ None
  pub exact : TalliesAreExact p.table.config p.seen

-- On these words it may free the object in this cell, whose page has this quarantine word.
pub record MayFreeOn (w : WordsState) (p : PassState) (cell : Cell) (quar : ℕ) : Type 0 where
  pub one_table : p.table ≡ w
  pub register : ℕ
  pub value : ℕ
  pub may : MayFree p register value cell
  pub found : quar ≡ named_word (now_of p).words (Word.Quar cell.page)

-- The run that the call has freed is unmapped and wiped, all gates are open, and the tallies are as they were.
pub record ClearsRun (p q : PassState) : Type 0 where
  pub stays : ComesTo is_following p (StaysSo p.seat (world_of p)) [] q
  pub held : (now_of q).words.held ≡ (now_of p).words.held
  pub fresh : (now_of q).words.fresh ≡ (now_of p).words.fresh
  pub gone : is_run_gone (now_of q).words (now_of q).seats.holding.freed ≡ true
  pub gates : (j : ℕ) → j < p.table.config.callers → is_held (now_of q).words j ≡ false
