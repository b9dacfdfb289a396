-- In a run whose marks sweeps make, and in which no marker steps, each cycle releases what isn't swept.
use Rattle.mk_heap.proofs.Below.Laws.Vocabulary.{At, Bool, Config, Event, IsHistory, List, Releasing, Seat, Step, ℕ}
use Rattle.mk_heap.proofs.Below.Laws.Vocabulary.{and_parts, ap}
use Rattle.mk_heap.proofs.Below.Laws.Vocabulary.{append_assoc, arith, before_close, false, if◌then◌else◌}
use Rattle.mk_heap.proofs.Below.Laws.Vocabulary.{is_begin, is_close, is_release, left, list_any, not, or_parts}
use Rattle.mk_heap.proofs.Below.Laws.Vocabulary.{placed_at, refl}
use Rattle.mk_heap.proofs.Below.Laws.Vocabulary.{subst, sym, through, true, true≢false, [], ◌&&◌, ◌++◌, ◌||◌, ◌∙◌, ◌∷◌}
use Rattle.mk_heap.proofs.Below.Laws.Vocabulary.{◌≡◌}
use Rattle.mk_heap.proofs.Below.Laws.CyclePhases.{begin_is}
use Rattle.mk_heap.specs.Below.Laws.Releases.{through_release}
use Rattle.mk_core.specs.{Cycles.{IsInSnapshot}, History.is_same_seat}
use Rattle.mk_heap.specs.{Below.Objects.TurnCycles.IsFinishedAtOnce, Hosts.MarkersAreBelow}
use Rattle.mk_heap.specs.Below.Cycles.BeginCycle.{CyclesHoldGatesFirst, are_own_of, leaves_begun, only_holds}
use Rattle.mk_heap.specs.Below.Cycles.{Stops.IsClosedBy, TurnKeeps.{begins_marking, holds_gates, is_look}}
use Rattle.mk_heap.specs.Below.Words.States.{PassState, event_of}
use Rattle.mk_heap.proofs.Below.Objects.Vocabulary.{does_wider}
use Rattle.mk_why.proofs.Below.Sweeps.{CycleParts.only_looks, BesideTurn.unmade_markers}
use Rattle.mk_why.proofs.Below.Sweeps.SweepCycles.{cycle, is_released_by_it}
use Rattle.mk_why.proofs.Below.Sweeps.SweepParts.{NoneOfMarkers, SweepParts, SweepsThenLooks, none_of_all, parts}
use Rattle.mk_why.specs.Below.Sweeps.Sweeps.{IsSwept, SweptAreMarked, Sweeps}
use Rattle.mk_why.specs.Stops.{IsClosedBefore, View}
use Rattle.mk_run.proofs.SaidRuns.{said_is_swept}
use Rattle.mk_run.specs.Keeping.{CyclesAreFinished, CyclesAreSaid, CyclesReleaseTheUnswept, CyclesSweep}

-- Where a seat only holds gates until it wants the close, an engine that begins to mark only holds gates.

marking_stays : (x : Step) → begins_marking x ≡ true → leaves_begun x ≡ false
marking_stays x0 h = grind arith

one_holds : (same leaves holds marks rest : Bool) → (if same then (leaves || (holds && rest)) else rest) ≡ true
    → (not same || marks) ≡ true → (marks ≡ true → leaves ≡ false)
    → ((not same || holds) ≡ true) × (rest ≡ true)
one_holds false leaves holds marks rest h m apart = (refl, h)
one_holds true false holds marks rest h m apart = and_parts holds rest h
one_holds true true holds marks rest h m apart = absurd (true≢false (apart m))

marks_by_holding : (s : Seat) (es tail : List Event) → only_holds false s (es ++ tail) ≡ true
    → are_own_of begins_marking s es ≡ true → are_own_of holds_gates s es ≡ true
unfolding only_holds
marks_by_holding s [] tail h m = refl
marks_by_holding s (e ∷ es) tail h m =
    let parts = and_parts (not (is_same_seat s e.seat) || begins_marking e.step) (are_own_of begins_marking s es) m in
    let one = one_holds (is_same_seat s e.seat) (leaves_begun e.step) (holds_gates e.step) (begins_marking e.step)
    (only_holds false s (es ++ tail)) h parts.0 (marking_stays e.step) in
    cc (one.0, marks_by_holding s es tail one.1 parts.1)

look_only : (x : Step) → is_look x ≡ true → only_looks x ≡ true
look_only x0 h = grind arith

-- The first event of a kind is at one place.
same_first : (kind : Step → Bool) (bs ds : List Event) (e f : Event) (es fs : List Event) → bs ++ e ∷ es ≡ ds ++ f ∷ fs
    → list_any (λ (x : Event). kind x.step) bs ≡ false → list_any (λ (x : Event). kind x.step) ds ≡ false
    → kind e.step ≡ true → kind f.step ≡ true → (bs ≡ ds) × (e ≡ f) × (es ≡ fs)
same_first kind [] [] e f es fs is b d x y = let head : e ≡ f = cc in let tail : es ≡ fs = cc in (refl, head, tail)
same_first kind [] (g ∷ ds) e f es fs is b d x y =
    let head : e ≡ g = cc in
    absurd (true≢false (sym x ∙ ap (λ (z : Event). kind z.step) head ∙ (or_parts (kind g.step) _ d).0))
same_first kind (g ∷ bs) [] e f es fs is b d x y =
    let head : g ≡ f = cc in
    absurd (true≢false (sym y ∙ ap (λ (z : Event). kind z.step) (sym head) ∙ (or_parts (kind g.step) _ b).0))
same_first kind (g ∷ bs) (i ∷ ds) e f es fs is b d x y =
    let head : g ≡ i = cc in
    let tail : bs ++ e ∷ es ≡ ds ++ f ∷ fs = cc in
    let rest = same_first kind bs ds e f es fs tail (or_parts (kind g.step) _ b).1 (or_parts (kind i.step) _ d).1 x y in
    let all : g ∷ bs ≡ i ∷ ds = cc (head, rest.0) in
    (all, rest.1, rest.2)

abbrev event_by : Seat → Step → Event
event_by s x = record { seat = s; step = x }

event_is : (e : Event) (s : Seat) → e.step ≡ Step.Begin → s ≡ e.seat → e ≡ event_by s Step.Begin
event_is e s step seat = ap (event_by e.seat) step ∙ ap (λ (t : Seat). event_by t Step.Begin) (sym seat)

module _ {V : Type 0} (looks : V → ℕ) {c : Config} {es : List Event} (history : IsHistory c es)
    (few : MarkersAreBelow 0 es) (stops : CyclesHoldGatesFirst c es)
    (finished : CyclesAreFinished (λ (engine : V) p q. Sweeps p q (looks engine)) c es) where
  -- what is done of the cycle that begins here
  module _ (b : At is_begin es) where
    f : IsFinishedAtOnce (λ (engine : V) p q. IsClosedBefore (λ x y. Sweeps x y (looks engine)) p q) c b.event.seat
        (through b) b.behind
    f = finished b

    abbrev begun : PassState
    begun = f.begun

    swept : IsClosedBy (SweepsThenLooks (looks f.engine)) begun f.finished
    swept = record {
      held = f.closed.held;
      released = f.closed.released;
      holds = f.closed.holds;
      makes = f.closed.makes;
      part = record {
        inner = f.closed.part.inner;
        sweeps = f.closed.part.part;
        looks_on = does_wider is_look only_looks look_only f.closed.part.inner f.closed.makes.closing
            f.closed.part.looks;
        still = record {
          words = ap (λ (v : View). v.words) f.closed.part.view;
          allocations = ap (λ (v : View). v.allocations) f.closed.part.view;
        };
      };
      rest = f.closed.rest;
      is = f.closed.is;
    }

    only_gates : are_own_of holds_gates begun.seat f.first ≡ true
    only_gates =
        let g = stops b in
        let behind : b.behind ≡ g.rest = g.is ∙ ap (λ (l : List Event). l ++ g.rest) g.part in
        subst (λ (s : Seat). are_own_of holds_gates s f.first ≡ true) (sym f.seat)
        (marks_by_holding b.event.seat f.first f.then (subst
        (λ (l : List Event). only_holds false b.event.seat l ≡ true) (sym behind ∙ f.split) g.holds) f.marking)

    begin_is_its : b.event ≡ event_of begun Step.Begin
    begin_is_its = event_is b.event begun.seat (begin_is b.event.step b.of_kind) f.seat

    abbrev k : SweepParts begun (looks f.engine) es
    k = parts begun f.finished (looks f.engine) b.before f.first f.rest es
        (subst (λ (e : Event). begun.seen ≡ (b.before ++ e ∷ []) ++ f.first) begin_is_its f.seen) only_gates f.phase
        swept (b.is ∙ sym (append_assoc b.before (b.event ∷ []) b.behind) ∙ f.is)

    known : IsHistory begun.table.config es
    known = subst (λ (x : Config). IsHistory x es) (sym f.config) history

    none : NoneOfMarkers k
    none = none_of_all k (unmade_markers begun.seat es (λ j. few j (omega arith)))

    abbrev its : Releasing es
    its = cycle f.own known k none

    behind_is : b.behind ≡ its.marking.begin.behind
    behind_is =
        let both : b.before ++ b.event ∷ b.behind ≡ b.before ++ its.marking.begin.event ∷ its.marking.begin.behind =
        sym b.is ∙ its.marking.begin.is in
        same_rest b.before b.event its.marking.begin.event b.behind its.marking.begin.behind both
      where
        same_rest : (xs : List Event) (e g : Event) (ys zs : List Event) → xs ++ e ∷ ys ≡ xs ++ g ∷ zs → ys ≡ zs
        same_rest [] e g ys zs is = cc
        same_rest (x ∷ xs) e g ys zs is = let tail : xs ++ e ∷ ys ≡ xs ++ g ∷ zs = cc in same_rest xs e g ys zs tail

  -- It is the cycle of these parts.
  module _ (r : Releasing es) where
    abbrev b : At is_begin es
    b = r.marking.begin

    abbrev i : Releasing es
    i = its b

    closes : (r.marking.close.at.before ≡ i.marking.close.at.before)
        × (r.marking.close.at.event ≡ i.marking.close.at.event)
        × (r.marking.close.at.behind ≡ i.marking.close.at.behind)
    closes =
        same_first is_close r.marking.close.at.before i.marking.close.at.before r.marking.close.at.event
        i.marking.close.at.event r.marking.close.at.behind i.marking.close.at.behind
        (sym r.marking.close.at.is ∙ behind_is b ∙ i.marking.close.at.is) r.marking.close.none_before
        i.marking.close.none_before r.marking.close.at.of_kind i.marking.close.at.of_kind

    releases : (r.release.at.before ≡ i.release.at.before) × (r.release.at.event ≡ i.release.at.event)
        × (r.release.at.behind ≡ i.release.at.behind)
    releases =
        same_first is_release r.release.at.before i.release.at.before r.release.at.event i.release.at.event
        r.release.at.behind i.release.at.behind (sym r.release.at.is ∙ closes.2 ∙ i.release.at.is)
        r.release.none_before i.release.none_before r.release.at.of_kind i.release.at.of_kind

    close_is : before_close r.marking ≡ before_close i.marking
    close_is = cc (begin_is_its b, closes.0)

    release_is : through_release r ≡ through_release i
    release_is = cc (close_is, closes.1, releases.0, releases.1)

  pub releases_the_unswept : CyclesReleaseTheUnswept c es
  releases_the_unswept r n snapshot out =
      let b = r.marking.begin in
      let same = (f b).config in
      subst (λ (x : Config). (placed_at (left x (through_release r)).allocations n).released ≡ true) same
      (subst (λ (l : List Event). (placed_at (left (begun b).table.config l).allocations n).released ≡ true)
      (sym (release_is r)) (is_released_by_it (f b).own (known b) (k b) (none b) n
      (subst (λ (x : Config). IsInSnapshot x (its b).marking n) (sym same) snapshot)
      (λ x. out (subst (λ (d : Config). IsSwept d (left d (before_close r.marking)) n) same
      (subst (λ (l : List Event). IsSwept (begun b).table.config (left (begun b).table.config l) n)
      (sym (close_is r)) x)))))

-- So what its engines say and do is what the headline says.
pub run_sweeps : {V : Type 0} {looks : V → ℕ} {c : Config} {es : List Event} → IsHistory c es → MarkersAreBelow 0 es
    → CyclesHoldGatesFirst c es → CyclesAreSaid (λ (engine : V) d w. SweptAreMarked d w) c es
    → CyclesAreFinished (λ (engine : V) p q. Sweeps p q (looks engine)) c es → CyclesSweep c es
run_sweeps {looks = looks} history few stops said finished =
    record { marks = said_is_swept said; releases = releases_the_unswept looks history few stops finished }
