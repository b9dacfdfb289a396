-- What an engine keeps to, in the steps of a seat (if it doesn't sweep, no sweeping mark), and says of each close.
use Rattle.std.specs.Prelude.{◌≡◌, ◌≤◌, ℕ, false, List, [], ◌⊎◌, true}
use Rattle.mk_core.specs.declared.{config.Config.Config, events.{Event.Event, Seat.Seat}}
use Rattle.mk_core.specs.{Allocations.placed_at, declared.events.Seat.TheVariants.{Caller, Host}, History.{World, left}}
use Rattle.mk_core.specs.Cycles.{At, IsInSnapshot, Releasing, before_close, is_begin, is_close, through}
use Rattle.mk_heap.specs.Below.Laws.Releases.{through_release}
use Rattle.mk_heap.specs.{Below.Cycles.BeginCycle.AreBegun, Below.Cycles.EngineLaw.Ways}
use Rattle.mk_heap.specs.Below.Objects.TurnCycles.{AreFinishedAtOnce, AreSaidAtCloses, IsFinishedAtOnce, IsSaid}
use Rattle.mk_heap.specs.{Unswept.SeatSweepsNothing, Below.Words.States.PassState}
use Rattle.mk_script.specs.declared.items.Item.{Item}
use Rattle.mk_check.specs.Laws.{IsScript}
use Rattle.mk_why.specs.{Below.Sweeps.Sweeps.{IsSwept, SweptAreMarked}, Stops.{IsClosedBefore, IsToldBefore}}

-- in a history, as `PassKeeps` of mk_alloc says of what its pass saw since,
pub record SeatKeeps {V : Type 0} (ways : Ways V) (c : Config) (s : Seat) (es : List Event)
    : Type 0 where
  pub unswept : ways.sweeps ≡ false → SeatSweepsNothing c s es
  pub begun : AreBegun false ways.begins c s [] es
  pub said : AreSaidAtCloses ways.tells c s [] es
  pub finished : ways.on ≡ false → AreFinishedAtOnce ways.closes c s [] es

-- and so do those of the callers of the scripts from k on,
pub record ScriptsKeep {V : Type 0} (ways : Ways V) (program : List Item) (k : ℕ) (c : Config)
    (es : List Event) : Type 0 where
  pub callers : (j : ℕ) → k ≤ j → IsScript program j → SeatKeeps ways c (Caller j) es

-- and with those of all scripts the host's, by its own engine.
pub record RunKeeps {V : Type 0} {W : Type 0} (ways : Ways V) (host_ways : Ways W) (program : List Item) (c : Config)
    (es : List Event) : Type 0 where
  pub scripts : ScriptsKeep ways program 0 c es
  pub host : SeatKeeps host_ways c Host es

-- what the scripts' engines do after a `begin`, and what the host's does
abbrev pub by_seat : (Config → Seat → List Event → List Event → Type 0)
    → (Config → Seat → List Event → List Event → Type 0)
    → Config → Seat → List Event → List Event → Type 0
by_seat begins host_begins c Host es more = host_begins c Host es more
by_seat begins host_begins c s es more = begins c s es more

-- At each close an engine of the scripts says it, or one of the host. Only private functions cite this.
abbrev pub ClosesAreSaid : {V : Type 0} {W : Type 0} → (V → Config → World → Type 0) → (W → Config → World → Type 0)
    → Config → List Event → Type 0
ClosesAreSaid tells host_tells c es =
    (k : At is_close es) → IsSaid tells c (left c k.before) ⊎ IsSaid host_tells c (left c k.before)

-- Each cycle is finished at once, by an engine of the scripts or one of the host. Only private functions cite this.
abbrev pub BeginsAreFinished : {V : Type 0} {W : Type 0} → (V → PassState → PassState → Type 0)
    → (W → PassState → PassState → Type 0) → Config → List Event → Type 0
BeginsAreFinished closes host_closes c es =
    (b : At is_begin es)
    → IsFinishedAtOnce closes c b.event.seat (through b) b.behind
    ⊎ IsFinishedAtOnce host_closes c b.event.seat (through b) b.behind

-- At each close an engine said it of a world with the same words, but for the phase, and the same allocations.
abbrev pub CyclesAreSaid : {V : Type 0} → (V → Config → World → Type 0) → Config → List Event → Type 0
CyclesAreSaid tells c es =
    (k : At is_close es) → IsSaid (λ engine d w. IsToldBefore (tells engine) d w) c (left c k.before)

-- Each cycle is finished at once, and what was done in its stop is what such an engine does, before the holder looked.
abbrev pub CyclesAreFinished : {V : Type 0} → (V → PassState → PassState → Type 0) → Config → List Event → Type 0
CyclesAreFinished closes c es =
    (b : At is_begin es)
    → IsFinishedAtOnce (λ engine p q. IsClosedBefore (closes engine) p q) c b.event.seat (through b) b.behind

-- At each close whatever is swept is marked.
abbrev pub CyclesMarkTheSwept : Config → List Event → Type 0
CyclesMarkTheSwept c es = (k : At is_close es) → SweptAreMarked c (left c k.before)

-- Each cycle releases what of its snapshot isn't swept at its `close`.
abbrev pub CyclesReleaseTheUnswept : Config → List Event → Type 0
CyclesReleaseTheUnswept c es =
    (k : Releasing es) (i : ℕ) → IsInSnapshot c k.marking i
    → (IsSwept c (left c (before_close k.marking)) i → ⊥)
    → (placed_at (left c (through_release k)).allocations i).released ≡ true

-- What the cycles of a run do whose marks sweeps make.
pub record CyclesSweep (c : Config) (es : List Event) : Type 0 where
  -- At its `close` each unreleased allocation is marked into which a register points, or a global, or a word of a
  -- mapped allocation that isn't leaf, whether that allocation is reached or not.
  pub marks : CyclesMarkTheSwept c es
  -- No other allocation of its snapshot is kept.
  pub releases : CyclesReleaseTheUnswept c es
