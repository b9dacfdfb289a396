-- Freeing an object: what is asked, how far the call is, and what comes of it.
use Rattle.std.specs.Prelude.{◌≡◌, ℕ, ◌+◌, ◌-◌, ◌^◌, min, map, slice_index, slice_set, ◌==◌, ◌<◌, Bool, true, false}
use Rattle.std.specs.Prelude.{List, [], Some, if◌then◌else◌, ◌∷◌, ◌++◌, ◌||◌}
use Rattle.mk_never.specs.{Admitted.IsBase, declared.{operations.Op.Op, values.Value.Value}}
use Rattle.mk_never.specs.{declared.values.Value.TheVariants.{Null, Num, Ptr}, NeverHeap.{NeverState, allocation_at}}
use Rattle.mk_never.specs.Types.{is_large, kinds_of}
use Rattle.mk_geom.specs.{declared.addresses.Cell.Cell, PageUses.or_else}
use Rattle.mk_core.specs.Allocations.{freed_where_it_stands, PlacedAllocation, placed_at}
use Rattle.mk_core.specs.{Moments.{flight_of, is_held, none_is_held}, Counts.{IsDue, TalliesAreExact, TalliesAreTidy}}
use Rattle.mk_core.specs.{Effects.{run_of_cell, words_freed}, Calls.begun, History.{World, never_behind}}
use Rattle.mk_core.specs.{Words.{register_word, phase_of}, declared.events.Answer.Answer, declared.events.Seat.Seat}
use Rattle.mk_core.specs.{declared.events.Seat.TheVariants.Caller, declared.events.Step.Step}
use Rattle.mk_core.specs.{declared.seats.Flight.Flight, declared.config.Config.Config, Cells.is_freed, Frames.steady_of}
use Rattle.mk_core.specs.{declared.seats.Stage.Stage, declared.events.Event.Event, NewPlaces.is_run_gone}
use Rattle.mk_caller.specs.{States.value_of, Below.Words.States.{PassState, call_of, now_of, world_of}}
use Rattle.mk_caller.specs.{Called.own_calls, Below.Words.Steps.Does}
use Rattle.mk_alloc.specs.{Placing.{ComesTo, entry_for}, TurnCycles.is_hold}

-- The values of all its caller's registers are as they were.
abbrev pub KeepsValues : PassState → PassState → Type 0
KeepsValues p q = (r : ℕ) → r < 8 → value_of q r ≡ value_of p r

-- The turn is for a Free of this register, at this point of the call. The register is null or points to a first word.
pub record IsFreeAt (p : PassState) (r : ℕ) (f : Flight) : Type 0 where
  pub call : call_of p ≡ f
  pub small : r < 8
  pub base : IsBase (value_of p r)

-- Its register isn't loaded yet.
abbrev pub IsUnloaded : PassState → ℕ → Type 0
IsUnloaded p r = IsFreeAt p r (begun (Op.Free r))

-- The call is at this point, and all else that is the holder's is as it was.
pub record CallIsAt (s : Seat) (f : Flight) (w v : World) : Type 0 where
  pub call : flight_of v.now s ≡ f
  pub holding : v.now.seats.holding ≡ w.now.seats.holding
  pub steady : steady_of v ≡ steady_of w
  pub registers : (k r : ℕ) → s ≡ Caller k → r < 8 → register_word v.now.words k r ≡ register_word w.now.words k r
  pub gates : (j : ℕ) → is_held v.now.words j ≡ is_held w.now.words j

-- A Free whose register held this value: null decides it.
abbrev pub loaded_free : ℕ → ℕ → Flight
loaded_free r u = record (begun (Op.Free r)) { stage = if u == 0 then Stage.Give else Stage.Turn; p = u }

-- The Free has loaded its register, which isn't null.
pub record IsLoaded (p : PassState) : Type 0 where
  pub register : ℕ
  pub value : ℕ
  pub free : IsFreeAt p register (loaded_free register value)
  pub some : (value == 0) ≡ false

-- the kinds of step by which a Free finds its target
abbrev pub is_loading : Step → Bool
is_loading (Step.Look x) = true
is_loading Step.Reg = true
is_loading _ = false

-- the kinds of step by which a small object is freed: no gate is held, and no word of the heap changes
abbrev pub is_freeing_small : Step → Bool
is_freeing_small (Step.Look x) = true
is_freeing_small Step.Reg = true
is_freeing_small (Step.Quar p v) = true
is_freeing_small (Step.Tally n v) = true
is_freeing_small _ = false

-- the kinds of step that come after the `quar`
abbrev pub is_following : Step → Bool
is_following (Step.Look x) = true
is_following (Step.Open j) = true
is_following (Step.Head p v) = true
is_following (Step.Wipe n) = true
is_following (Step.Tally n v) = true
is_following _ = false

-- the kinds of step by which an object is freed
abbrev pub is_freeing : Step → Bool
is_freeing s = is_freeing_small s || is_hold s || is_following s

-- The Free has loaded its register, and null decides it.
abbrev pub HasLoaded : PassState → ℕ → ℕ → PassState → Type 0
HasLoaded p r u q =
    ComesTo is_loading p (CallIsAt p.seat (loaded_free r u) (world_of p))
    (if u == 0 then entry_for p Answer.Done else []) q

-- the Free after its look at the quarantine word: the freed bit of its target decides it
abbrev pub seen_free : Flight → Bool → Flight
seen_free f double = if double then record f { stage = Stage.Give } else f

-- The Free has looked at the quarantine word.
abbrev pub HasSeen : PassState → Cell → PassState → Type 0
HasSeen p cell q =
    ComesTo is_loading p (CallIsAt p.seat (seen_free (call_of p) (is_freed (now_of p).words cell)) (world_of p))
    (if is_freed (now_of p).words cell then entry_for p Answer.Double else []) q

-- The target was quarantined: the call is decided, the cell's allocation is freed and fresh, and all else is as it was.
pub record IsFreedAt (c : Config) (s : Seat) (cell : Cell) (w v : World) : Type 0 where
  pub call : flight_of v.now s ≡ record (flight_of w.now s) { stage = Stage.Give }
  pub holding : v.now.seats.holding
      ≡ record w.now.seats.holding { freed = or_else (run_of_cell w.now.words (Some cell)) w.now.seats.holding.freed }
  pub freed : v.now.words.freed
      ≡ slice_set w.now.words.freed cell.page (slice_index w.now.words.freed cell.page + 2 ^ cell.index)
  pub snapshot : v.now.words.snapshot ≡ w.now.words.snapshot
  pub fresh : v.now.fresh_words ≡ min (w.now.fresh_words + words_freed w.now.words (Some cell)) (2 ^ 64 - 1)
  pub steady : steady_of v
      ≡ record (steady_of w) {
        freed = v.now.words.freed;
        snapshot = v.now.words.snapshot;
        fresh_words = v.now.fresh_words;
        allocations = map (freed_where_it_stands w.now.words (Some cell)) w.allocations;
      }
  pub registers : (k r : ℕ) → s ≡ Caller k → r < 8 → register_word v.now.words k r ≡ register_word w.now.words k r
  pub gates : (j : ℕ) → is_held v.now.words j ≡ is_held w.now.words j

-- The small object is freed.
abbrev pub HasFreed : PassState → Cell → PassState → Type 0
HasFreed p cell q =
    ComesTo is_freeing_small p (IsFreedAt p.table.config p.seat cell (world_of p)) (entry_for p Answer.Done) q

-- The value points to an allocation that is freed in the heap that never reuses storage.
abbrev pub IsFreed : NeverState → Value → Type 0
IsFreed n Null = ⊥
IsFreed n (Num m) = ⊥
IsFreed n (Ptr number ty offset) = (allocation_at n number).freed ≡ true

-- the allocation after its free
abbrev pub freed_and_fresh : PlacedAllocation → PlacedAllocation
freed_and_fresh a = record a { freed = true; fresh = true }

-- The allocation that the value points to is freed, and fresh; where it points to none, all are as they are.
abbrev pub with_freed_object : Value → List PlacedAllocation → List PlacedAllocation
with_freed_object (Ptr number ty offset) xs = slice_set xs number (freed_and_fresh (placed_at xs number))
with_freed_object _ xs = xs

-- Among what the pass has seen since there is an event that frees an object and is due.
pub record IsDueSince (p q : PassState) : Type 0 where
  pub before : List Event
  pub event : Event
  pub behind : List Event
  pub is : q.seen ≡ p.seen ++ before ++ event ∷ behind
  pub due : IsDue p.table.config (p.seen ++ before) event

-- A Free was decided by this answer, by such steps. Nothing is under way in its turn, and the tallies are exact.
pub record DecidesFree (kinds : Step → Bool) (a : Answer) (p q : PassState) : Type 0 where
  pub pass : q ≡ record p { seen = q.seen }
  pub does : Does kinds p q
  pub calls : own_calls p q.seen ≡ own_calls p p.seen ++ entry_for p a
  pub decided : (call_of q).stage ≡ Stage.Give
  pub op : (call_of q).op ≡ (call_of p).op
  pub placing : (now_of q).seats.holding.placing ≡ (now_of p).seats.holding.placing
  pub cycle : (now_of q).seats.holding.cycle ≡ (now_of p).seats.holding.cycle
  pub phase : phase_of (now_of q).words ≡ phase_of (now_of p).words
  pub gone : is_run_gone (now_of q).words (now_of q).seats.holding.freed ≡ true
  pub gates : none_is_held p.table.config.callers (now_of q).words ≡ true
  pub exact : TalliesAreExact q.table.config q.seen
  pub tidy : TalliesAreTidy p.table.config p.seen → TalliesAreTidy q.table.config q.seen

-- the kinds of step by which what the value points to is freed
abbrev pub freeing_kinds : Config → List PlacedAllocation → Value → Step → Bool
freeing_kinds c xs (Ptr number ty offset) =
    if is_large (kinds_of c.types (placed_at xs number).ty) then is_freeing else is_freeing_small
freeing_kinds c xs _ = is_loading

-- the steps that free what this register points to
abbrev pub kinds_for : PassState → ℕ → Step → Bool
kinds_for p r = freeing_kinds p.table.config (world_of p).allocations (value_of p r)

-- The object was freed, or the register was null, and then words were only looked at.
pub record Retires (p : PassState) (r : ℕ) (due : Bool) (q : PassState) : Type 0 where
  pub decides : DecidesFree is_freeing Answer.Done p q
  pub steps : Does (kinds_for p r) p q
  pub unfreed : IsFreed (never_behind p.table.config p.seen) (value_of p r) → ⊥
  pub allocations : (world_of q).allocations ≡ with_freed_object (value_of p r) (world_of p).allocations
  pub is_due : due ≡ true → IsDueSince p q
  pub not_due : due ≡ false → IsDueSince p q → ⊥

-- The object was freed already: words were looked at, and nothing was stored.
pub record FindsFreed (p : PassState) (r : ℕ) (q : PassState) : Type 0 where
  pub decides : DecidesFree is_loading Answer.Double p q
  pub freed : IsFreed (never_behind p.table.config p.seen) (value_of p r)
