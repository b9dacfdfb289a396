-- What the tests run on, and what they hand from thread to thread. Private functions alone cite these words.
use Rattle.std.specs.Prelude.{ℕ, List, [], ◌∷◌, ◌≡◌, ◌<◌, true, false, length, Option}
use Rattle.mk_never.specs.declared.{types.Kind.Kind, values.Value.TheVariants.Null, operations.Op.Op}
use Rattle.mk_never.specs.Admitted.{IsBase}
use Rattle.mk_core.specs.declared.{config.Config.Config, events.Seat.TheVariants.{Caller, Marker, Host}}
use Rattle.mk_core.specs.{Moments.none_is_held, Conditions.host_has_turn, Counts.{TalliesAreExact, TalliesAreTidy}}
use Rattle.mk_run.specs.Below.Words.States.{has_over, WordsState, PassState, now_of, CallersAreBeforeOver, IsTurn}
use Rattle.mk_run.specs.Below.{Callers.States.{value_of, IsIdleCaller, CallerState}, Markers.Markers.IsOut}
use Rattle.mk_run.specs.Below.{Cycles.EngineLaw.{IsAtPhase, IsFreeForCycle}, Heaps.Hosts.IsFirstPass}
use Rattle.mk_run.specs.Below.Words.TurnSteps.{IsFresh, TakesTurn}

-- a heap of one page, with one type and no global
abbrev pub one_page : ℕ → ℕ → List Kind → Config
one_page callers markers kinds =
    record {
      pages = 1;
      resident = 1;
      callers = callers;
      markers = markers;
      types = kinds ∷ [];
      globals = [];
    }

-- The passes and hosts that the tests hand from thread to thread.
-- Private functions alone cite these words.

-- a caller's pass, whose register 1 is null
pub record HoldsNull (p : PassState) : Type 0 where
  pub number : ℕ
  pub seat : p.seat ≡ Caller number
  pub exists : number < p.table.config.callers
  pub null : value_of p 1 ≡ Null

-- The first pass went on to the second, whose register 1 is null still.
pub record StaysNull (p q : PassState) : Type 0 where
  pub is : q ≡ record p { seen = q.seen }
  pub null : HoldsNull q

-- the pass of caller k, with no call in flight
pub record IsPassFor (w : WordsState) (k : ℕ) (p : PassState) : Type 0 where
  pub table : p.table ≡ w
  pub seat : p.seat ≡ Caller k
  pub alone : p.seats ≡ Caller k ∷ []
  pub idle : IsIdleCaller p

-- the passes of both callers of a heap that has types, before their first calls
pub record AreOfTwo (w : WordsState) (p q : PassState) : Type 0 where
  pub two : w.config.callers ≡ 2
  pub ty : 0 < length w.config.types
  pub first : IsFirstPass w 0 p
  pub second : IsFirstPass w 1 q

-- the pass of the first marker, which is out
pub record IsMarkerOut (w : WordsState) (p : PassState) : Type 0 where
  pub table : p.table ≡ w
  pub seat : p.seat ≡ Marker 0
  pub alone : p.seats ≡ Marker 0 ∷ []
  pub out : IsOut p

-- the host's pass, which hasn't the turn, before an `over`
pub record IsHostsPass (w : WordsState) (p : PassState) : Type 0 where
  pub table : p.table ≡ w
  pub seat : p.seat ≡ Host
  pub without : host_has_turn p.table.config (now_of p) ≡ false
  pub before_over : has_over p.seen ≡ false

-- the host's turn in a cycle that isn't wanted for closing, with no gate held
pub record HostIsMarking (w : WordsState) (p : PassState) : Type 0 where
  pub table : p.table ≡ w
  pub seat : p.seat ≡ Host
  pub phase : IsAtPhase p 1
  pub free : IsFreeForCycle p
  pub gates : none_is_held p.table.config.callers (now_of p).words ≡ true

-- A turn that was taken. Private functions alone cite this word.

-- The pass has taken the turn for this, and has made no step in it.
pub record IsTaken (p : PassState) (o : Option Op) (q : PassState) : Type 0 where
  pub takes : TakesTurn p o q
  pub fresh : IsFresh q o
  pub exact : TalliesAreExact q.table.config q.seen
  pub tidy : TalliesAreTidy q.table.config q.seen
  pub turn : IsTurn q
  pub before : CallersAreBeforeOver q.table.config q.seats q.seen

-- Each of the caller's registers is null, or points to an object's first word.
abbrev pub HoldsObjects : PassState → Type 0
HoldsObjects p = (r : ℕ) → r < 8 → IsBase (value_of p r)

-- The caller may make objects, and free what its registers point to.
pub record MayMakeObjects (s : CallerState) : Type 0 where
  pub number : ℕ
  pub home : s.home ≡ true
  pub seat : s.pass.seat ≡ Caller number
  pub exists : number < s.pass.table.config.callers
  pub alone : s.pass.seats ≡ Caller number ∷ []
  pub objects : HoldsObjects s.pass

-- It may, with an engine that was made for this many pages, and there is a type.
pub record MayAllocate (made_for : ℕ) (s : CallerState) : Type 0 where
  pub ready : MayMakeObjects s
  pub ty : 0 < length s.pass.table.config.types
  pub engine : made_for ≡ s.pass.table.config.pages

-- A caller went on: it may allocate still, with the same pass but for what it has seen.
pub record GoesOn (made_for : ℕ) (s t : CallerState) : Type 0 where
  pub may : MayAllocate made_for t
  pub same : t.pass ≡ record s.pass { seen = t.pass.seen }

-- Two callers of one table may both allocate.
pub record BothMayAllocate (made_for : ℕ) (s t : CallerState) : Type 0 where
  pub first : MayAllocate made_for s
  pub second : MayAllocate made_for t
  pub one_table : t.pass.table ≡ s.pass.table

-- Both went on.
pub record BothGoOn (made_for : ℕ) (s t u v : CallerState) : Type 0 where
  pub may : BothMayAllocate made_for u v
  pub first : u.pass ≡ record s.pass { seen = u.pass.seen }
  pub second : v.pass ≡ record t.pass { seen = v.pass.seen }

-- the pass of caller k, with no call in flight, whose registers hold objects
pub record IsPassOfObjects (w : WordsState) (k : ℕ) (p : PassState) : Type 0 where
  pub pass : IsPassFor w k p
  pub objects : HoldsObjects p
