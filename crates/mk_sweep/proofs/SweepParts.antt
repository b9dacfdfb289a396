-- The parts of a whole cycle with one sweep, up to after its `release`.
use Rattle.std.proofs.lemmas.List.Folds.{list_all-append}
use Rattle.mk_sweep.proofs.Vocabulary.{AreOfOthers, Config, Event, IsEnabledTo, PassState, Seat, Step, Sweeps}
use Rattle.mk_sweep.proofs.Vocabulary.{World, event_of, left, world_behind, world_of}
use Rattle.mk_sweep.proofs.{BesideTurn.{IsOf, OthersAreNoMarkers, markers_in_parts}, CycleParts.only_looks}
use Rattle.mk_cycle.proofs.Below.Laws.Vocabulary.{Bool, List, ℕ, and_from, and_parts, ap, append_assoc, arith, false}
use Rattle.mk_cycle.proofs.Below.Laws.Vocabulary.{not, subst, true, [], ◌++◌, ◌||◌, ◌∙◌, ◌∷◌, ◌≡◌}
use Rattle.mk_cycle.proofs.{Below.Words.Sweeping.{only_seen, only_seen_by}, GivingAll.held_phase, HeldFirst.own_kinds}
use Rattle.mk_cycle.proofs.Stilled.{but_phase}
use Rattle.mk_cycle.specs.{BeginCycle.are_own_of, Stops.IsClosedBy, EngineLaw.IsAtPhase, TurnKeeps.holds_gates}
use Rattle.mk_cycle.specs.{FinishCycle.MakesRelease, Tracing.OwnStepsKeep, Below.Words.Steps.Does}
use Rattle.mk_core.specs.History.{is_same_seat}

-- five parts of a list, one after the other
pub in_five : (a b d e f held swept looked : List Event) → held ≡ a ++ b → swept ≡ held ++ d → looked ≡ swept ++ e
    → looked ++ f ≡ a ++ (b ++ (d ++ (e ++ f)))
in_five a b d e f held swept looked first second third =
    ap (λ (xs : List Event). xs ++ f) third ∙ append_assoc swept e f
    ∙ ap (λ (xs : List Event). xs ++ (e ++ f)) second ∙ append_assoc held d (e ++ f)
    ∙ ap (λ (xs : List Event). xs ++ (d ++ (e ++ f))) first ∙ append_assoc a b (d ++ (e ++ f))

-- All words but the phase are left, and the allocations.
pub record LeavesWords (w v : World) : Type 0 where
  pub words : but_phase v.now.words ≡ but_phase w.now.words
  pub allocations : v.allocations ≡ w.allocations

-- What was seen up to and after each part of the cycle, by a pass with this beginning. After the sweep it may have
-- looked at words, while all was still.
pub record SweepParts (p : PassState) (looks : ℕ) (es : List Event) : Type 0 where
  pub front : List Event
  pub holding : List Event
  pub held : List Event
  pub swept : List Event
  pub looked : List Event
  pub waited : List Event
  pub stopped : List Event
  pub rest : List Event
  pub holds : are_own_of holds_gates p.seat holding ≡ true
  pub held_is : held ≡ (front ++ record { seat = p.seat; step = Step.Begin } ∷ []) ++ holding
  pub phase : IsAtPhase (record p { seen = held }) 1
  pub sweeps : Sweeps (record p { seen = held }) (record p { seen = swept }) looks
  pub looks_on : Does only_looks (record p { seen = swept }) (record p { seen = looked })
  pub still : LeavesWords (left p.table.config swept) (left p.table.config looked)
  pub may_close : IsEnabledTo (record p { seen = looked }) Step.Close
  pub while_waiting : AreOfOthers p.seats waited
  pub while_stopped : AreOfOthers p.seats stopped
  pub is : es ≡ looked ++ (waited ++ record { seat = p.seat; step = Step.Close } ∷ (stopped
      ++ record { seat = p.seat; step = Step.Release } ∷ rest))

-- In its parts no marker steps.
pub record NoneOfMarkers {p : PassState} {looks : ℕ} {es : List Event} (k : SweepParts p looks es) : Type 0 where
  pub holding : OthersAreNoMarkers p.seat k.holding
  pub sweeping : OthersAreNoMarkers p.seat k.sweeps.traces.does.more
  pub looking : OthersAreNoMarkers p.seat k.looks_on.more
  pub waiting : OthersAreNoMarkers p.seat k.waited
  pub stopping : OthersAreNoMarkers p.seat k.stopped

-- the whole list in its parts
all_parts : {p : PassState} {looks : ℕ} {es : List Event} (k : SweepParts p looks es)
    → es ≡ (k.front ++ record { seat = p.seat; step = Step.Begin } ∷ []) ++ (k.holding ++ (k.sweeps.traces.does.more
    ++ (k.looks_on.more ++ (k.waited ++ record { seat = p.seat; step = Step.Close } ∷ (k.stopped
    ++ record { seat = p.seat; step = Step.Release } ∷ k.rest)))))
all_parts {p} k =
    k.is ∙ in_five _ k.holding k.sweeps.traces.does.more k.looks_on.more (k.waited ++ record {
      seat = p.seat;
      step = Step.Close;
    } ∷ (k.stopped ++ record { seat = p.seat; step = Step.Release } ∷ k.rest)) k.held k.swept k.looked k.held_is
    (ap (λ (x : PassState). x.seen) k.sweeps.traces.does.is) (ap (λ (x : PassState). x.seen) k.looks_on.is)

-- So it is where none steps in the whole list.
pub none_of_all : {p : PassState} {looks : ℕ} {es : List Event} (k : SweepParts p looks es)
    → OthersAreNoMarkers p.seat es → NoneOfMarkers k
unfolding OthersAreNoMarkers
none_of_all {p} k none =
    let start : List Event = k.front ++ record { seat = p.seat; step = Step.Begin } ∷ [] in
    let rest : List Event = k.sweeps.traces.does.more ++ (k.looks_on.more ++ (k.waited ++ record {
      seat = p.seat;
      step = Step.Close;
    } ∷ (k.stopped ++ record { seat = p.seat; step = Step.Release } ∷ k.rest))) in
    let all : OthersAreNoMarkers p.seat (start ++ (k.holding ++ rest)) = rw (← all_parts k) none in
    let held : OthersAreNoMarkers p.seat (k.holding ++ rest) =
    (markers_in_parts p.seat start (k.holding ++ rest) all).1 in
    let swept = markers_in_parts p.seat k.holding rest held in
    let looked = markers_in_parts p.seat k.sweeps.traces.does.more _ swept.1 in
    let waited = markers_in_parts p.seat k.looks_on.more _ looked.1 in
    let closed = markers_in_parts p.seat k.waited _ waited.1 in
    record {
      holding = swept.0;
      sweeping = looked.0;
      looking = waited.0;
      waiting = closed.0;
      stopping = (markers_in_parts p.seat k.stopped _ closed.1.1).0;
    }

-- What own events are of is kept by each of them.

implied : (b k : Bool) → (not b || k) ≡ true → b ≡ true → k ≡ true
implied true k h e = h
implied false k h e = cc

pub own_are_so : (kinds : Step → Bool) (c : Config) (s : Seat) (w : World) (es : List Event)
    → are_own_of kinds s es ≡ true → OwnStepsKeep (IsOf kinds) c s w es
unfolding OwnStepsKeep
own_are_so kinds c s w [] all = tt
own_are_so kinds c s w (e ∷ es) all =
    let parts = and_parts (not (is_same_seat s e.seat) || kinds e.step) (are_own_of kinds s es) all in
    (implied (is_same_seat s e.seat) (kinds e.step) parts.0, own_are_so kinds c s (world_behind c w e) es parts.1)

-- A sweep in the stop, after which the holder looks while all is still.
pub record SweepsThenLooks (looks : ℕ) (p q : PassState) : Type 0 where
  pub inner : PassState
  pub sweeps : Sweeps p inner looks
  pub looks_on : Does only_looks inner q
  pub still : LeavesWords (world_of inner) (world_of q)

pub longer : (a b d e f : List Event) (x y : Event)
    → (a ++ (b ++ x ∷ (d ++ y ∷ e))) ++ f ≡ a ++ (b ++ x ∷ (d ++ y ∷ (e ++ f)))
longer a b d e f x y =
    append_assoc a (b ++ x ∷ (d ++ y ∷ e)) f
    ∙ ap (λ (l : List Event). a ++ l) (append_assoc b (x ∷ (d ++ y ∷ e)) f
    ∙ ap (λ (l : List Event). b ++ x ∷ l) (append_assoc d (y ∷ e) f))

-- The parts of a cycle of which a pass had seen the `begin`, and then steps by which gates were held at most.
module _ (b q : PassState) (looks : ℕ) (front first rest es : List Event)
    (seen : b.seen ≡ (front ++ event_of b Step.Begin ∷ []) ++ first)
    (holds : are_own_of holds_gates b.seat first ≡ true) (phase : IsAtPhase b 1)
    (closed : IsClosedBy (SweepsThenLooks looks) b q) (is : es ≡ q.seen ++ rest) where
  abbrev makes : MakesRelease closed.held closed.released
  makes = closed.makes

  abbrev inner : PassState
  inner = closed.part.inner

  pub held_is : closed.held ≡ record b { seen = closed.held.seen }
  held_is = closed.holds.keeps.call.pass

  pub inner_is : inner ≡ record b { seen = inner.seen }
  inner_is =
      let d = closed.part.sweeps.traces.does in
      only_seen closed.held inner d.more d.is ∙ ap (λ (x : PassState). record x { seen = inner.seen }) held_is

  pub closing_is : makes.closing ≡ record b { seen = makes.closing.seen }
  closing_is =
      makes.marks.keeps.call.pass ∙ ap (λ (x : PassState). record x { seen = makes.closing.seen }) held_is

  pub closed_is : makes.closed ≡ record b { seen = makes.closed.seen }
  closed_is =
      only_seen_by makes.closing makes.closed Step.Close makes.close
      ∙ ap (λ (x : PassState). record x { seen = makes.closed.seen }) closing_is

  abbrev close : Event
  close = event_of b Step.Close

  abbrev release : Event
  release = event_of b Step.Release

  abbrev waited : List Event
  waited = makes.close.others

  abbrev stopped : List Event
  stopped = makes.release.others

  pub whole : q.seen ≡ makes.closing.seen ++ (waited ++ close ∷ (stopped ++ release ∷ closed.rest))
  whole =
      let last = closed.is in
      grind (arith, last, makes, stopped, closed_is, release, waited, closing_is, close, append_assoc)

  pub own_holds : are_own_of holds_gates b.seat (first ++ closed.holds.does.more) ≡ true
  own_holds =
      let d = closed.holds.does in
      list_all-append _ first d.more
      ∙ and_from (are_own_of holds_gates b.seat first) (are_own_of holds_gates b.seat d.more) holds
      (own_kinds holds_gates b.table.config b.seat (world_of b) d.more d.of_kinds)

  abbrev pub parts : SweepParts b looks es
  parts = record {
    front = front;
    holding = first ++ closed.holds.does.more;
    held = closed.held.seen;
    swept = inner.seen;
    looked = makes.closing.seen;
    waited = waited;
    stopped = stopped;
    rest = closed.rest ++ rest;
    holds = own_holds;
    held_is = ap (λ (x : PassState). x.seen) closed.holds.does.is
        ∙ ap (λ (l : List Event). l ++ closed.holds.does.more) seen
        ∙ append_assoc (front ++ event_of b Step.Begin ∷ []) first closed.holds.does.more;
    phase = subst (λ (x : PassState). IsAtPhase x 1) held_is (held_phase b closed.held 1 closed.holds phase);
    sweeps = subst (λ (x : PassState). Sweeps x (record b { seen = inner.seen }) looks) held_is
        (subst (λ (x : PassState). Sweeps closed.held x looks) inner_is closed.part.sweeps);
    looks_on = subst (λ (x : PassState). Does only_looks x (record b { seen = makes.closing.seen })) inner_is
        (subst (λ (x : PassState). Does only_looks inner x) closing_is closed.part.looks_on);
    still = subst (λ (x : PassState). LeavesWords (world_of x) (world_of (record b { seen = makes.closing.seen })))
        inner_is (subst (λ (x : PassState). LeavesWords (world_of inner) (world_of x)) closing_is closed.part.still);
    may_close = subst (λ (x : PassState). IsEnabledTo x Step.Close) closing_is makes.marks.close;
    while_waiting = subst (λ (x : PassState). AreOfOthers x.seats waited) closing_is makes.close.of_others;
    while_stopped = subst (λ (x : PassState). AreOfOthers x.seats stopped) closed_is makes.release.of_others;
    is = is ∙ ap (λ (l : List Event). l ++ rest) whole ∙ longer makes.closing.seen waited stopped closed.rest rest
        close release;
  }
