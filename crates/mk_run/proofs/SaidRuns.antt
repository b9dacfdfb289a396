-- What engines say at each close, for runs whose host has an engine of the scripts' kind, or one around such an engine.
use Rattle.mk_heap.proofs.Below.Laws.Vocabulary.{Config, Event, List, Seat, World, ap, left, refl, through}
use Rattle.mk_run.proofs.Vocabulary.{⊎_elim}
use Rattle.mk_heap.proofs.Below.Words.Doing.{does_nothing}
use Rattle.mk_heap.specs.Below.{Objects.TurnCycles.{IsFinishedAtOnce, IsSaid}, Words.States.PassState}
use Rattle.mk_why.{proofs.Below.Sweeps.StillMarked.still_marked, specs.Below.Sweeps.Sweeps.SweptAreMarked}
use Rattle.mk_why.specs.Stops.{IsClosedBefore, IsToldBefore, View}
use Rattle.mk_run.specs.Keeping.{BeginsAreFinished, ClosesAreSaid, CyclesAreFinished, CyclesAreSaid, CyclesMarkTheSwept}
use Rattle.mk_heap.specs.Below.Cycles.TurnKeeps.{is_look}

said_now : {V : Type 0} {tells : V → Config → World → Type 0} {c : Config} {w : World} → IsSaid tells c w
    → IsSaid (λ (engine : V) d v. IsToldBefore (tells engine) d v) c w
said_now {w = w} x = record { engine = x.engine; says = record { before = w; told = x.says; view = refl } }

pub said_by_inner : {V : Type 0} {W : Type 0} {tells : V → Config → World → Type 0}
    {host_tells : W → Config → World → Type 0} {c : Config} {es : List Event} (inner : W → V)
    → ((x : W) (w : World) → host_tells x c w → IsToldBefore (tells (inner x)) c w)
    → ClosesAreSaid tells host_tells c es → CyclesAreSaid tells c es
said_by_inner {tells} {host_tells} {c} inner before are k =
    ⊎_elim (λ (x : IsSaid tells c (left c k.before)). said_now x)
    (λ (x : IsSaid host_tells c (left c k.before)). record {
      engine = inner x.engine;
      says = before x.engine (left c k.before) x.says;
    }) (are k)

pub said_by_either : {V : Type 0} {tells : V → Config → World → Type 0} {c : Config} {es : List Event}
    → ClosesAreSaid tells tells c es → CyclesAreSaid tells c es
said_by_either {tells} {c} are k =
    ⊎_elim (λ (x : IsSaid tells c (left c k.before)). said_now x)
    (λ (x : IsSaid tells c (left c k.before)). said_now x) (are k)

-- What is done by such an engine is done by the other.
finished_alike : {V : Type 0} {W : Type 0} {closes : V → PassState → PassState → Type 0}
    {others : W → PassState → PassState → Type 0} {c : Config} {s : Seat} {es more : List Event} (to : V → W)
    → ((x : V) (p q : PassState) → closes x p q → others (to x) p q) → IsFinishedAtOnce closes c s es more
    → IsFinishedAtOnce others c s es more
finished_alike to alike f = record {
  engine = to f.engine;
  first = f.first;
  then = f.then;
  split = f.split;
  marking = f.marking;
  begun = f.begun;
  finished = f.finished;
  rest = f.rest;
  config = f.config;
  seat = f.seat;
  own = f.own;
  phase = f.phase;
  seen = f.seen;
  closed = record {
    held = f.closed.held;
    released = f.closed.released;
    holds = f.closed.holds;
    makes = f.closed.makes;
    part = alike f.engine f.closed.held f.closed.makes.closing f.closed.part;
    rest = f.closed.rest;
    is = f.closed.is;
  };
  is = f.is;
}

-- The holder needn't look.
closed_now : {closes : PassState → PassState → Type 0} (p q : PassState) → closes p q → IsClosedBefore closes p q
closed_now p q part = record { inner = q; part = part; looks = does_nothing is_look q; view = refl }

pub finished_by_inner : {V : Type 0} {W : Type 0} {closes : V → PassState → PassState → Type 0}
    {host_closes : W → PassState → PassState → Type 0} {c : Config} {es : List Event} (inner : W → V)
    → ((x : W) (p q : PassState) → host_closes x p q → IsClosedBefore (closes (inner x)) p q)
    → BeginsAreFinished closes host_closes c es → CyclesAreFinished closes c es
finished_by_inner {V} {W} {closes} {host_closes} {c} inner before are b =
    ⊎_elim (λ (f : IsFinishedAtOnce closes c b.event.seat (through b) b.behind).
    finished_alike (λ (x : V). x) (λ x p q part. closed_now p q part) f)
    (λ (f : IsFinishedAtOnce host_closes c b.event.seat (through b) b.behind). finished_alike inner before f) (are b)

pub finished_by_either : {V : Type 0} {closes : V → PassState → PassState → Type 0} {c : Config} {es : List Event}
    → BeginsAreFinished closes closes c es → CyclesAreFinished closes c es
finished_by_either {V} are = finished_by_inner (λ (x : V). x) (λ x p q part. closed_now p q part) are

-- The sweep says that whatever is swept is marked.
pub said_is_swept : {V : Type 0} {c : Config} {es : List Event}
    → CyclesAreSaid (λ (engine : V) d w. SweptAreMarked d w) c es → CyclesMarkTheSwept c es
said_is_swept {c} are k =
    let x = (are k).says in
    still_marked c (ap (λ (v : View). v.words) x.view) (ap (λ (v : View). v.allocations) x.view) x.told
