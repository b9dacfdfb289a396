-- A whole cycle releases what isn't swept, by what beginning and finishing it ensure.
use Rattle.mk_sweep.proofs.Vocabulary.{Event, Has, HasMarkers, IsHistory, PassState, Step, Sweeps, event_of}
use Rattle.mk_sweep.proofs.{BesideTurn.joined_markers, CycleParts.only_looks, SweepCycles.{cycle, is_released_by_it}}
use Rattle.mk_sweep.proofs.SweepParts.{NoneOfMarkers, SweepParts, SweepsThenLooks, parts}
use Rattle.mk_cycle.proofs.Below.Laws.Vocabulary.{List, ℕ, append-nil, append_assoc, arith, refl, subst, sym, true}
use Rattle.mk_cycle.proofs.Below.Laws.Vocabulary.{[], ◌++◌, ◌∷◌, ◌≡◌}
use Rattle.mk_cycle.proofs.Below.Words.Doing.{does_nothing, others_are_so}
use Rattle.mk_cycle.specs.{BeginCycle.{DoesNothing, IsBegunLast}, Stops.IsClosedBy, EngineLaw.IsAtPhase}
use Rattle.mk_cycle.specs.Below.Laws.Releases.{allocation_behind}
use Rattle.mk_core.specs.{Cycles.{IsInSnapshot, before_close}, History.left}
use Rattle.mk_sweep.specs.Sweeps.{ReleasesUnswept, IsSwept}

module _ (p b q : PassState) (looks : ℕ) (same : b ≡ record p { seen = b.seen })
    (last : IsBegunLast DoesNothing p b) (phase : IsAtPhase b 1)
    (closed : IsClosedBy (λ x y. Sweeps x y looks) b q) where
  -- before the `begin`
  abbrev front : List Event
  front = (p.seen ++ last.before.more) ++ last.begin.others

  start_is : b.seen ≡ (front ++ event_of b Step.Begin ∷ []) ++ []
  start_is = grind (arith, append-nil, append_assoc)

  -- No look comes after the sweep.
  abbrev swept : IsClosedBy (SweepsThenLooks looks) b q
  swept = record {
    held = closed.held;
    released = closed.released;
    holds = closed.holds;
    makes = closed.makes;
    part = record {
      inner = closed.makes.closing;
      sweeps = closed.part;
      looks_on = does_nothing only_looks closed.makes.closing;
      still = record { words = refl; allocations = refl };
    };
    rest = closed.rest;
    is = closed.is;
  }

  abbrev of_cycle : SweepParts b looks q.seen
  of_cycle = parts b q looks front [] [] q.seen start_is refl phase swept (sym (append-nil q.seen))

  pub releases_unswept : Has p.seats p.seat → HasMarkers p.seats → q ≡ record b { seen = q.seen }
      → IsHistory q.table.config q.seen → ReleasesUnswept p q
  releases_unswept own_p markers_p behind seen =
      let own : Has b.seats b.seat = subst (λ (x : PassState). Has x.seats x.seat) (sym same) own_p in
      let markers : HasMarkers b.seats = subst (λ (x : PassState). HasMarkers x.seats) (sym same) markers_p in
      let none : NoneOfMarkers of_cycle = record {
        holding = joined_markers b.seat b.seats closed.holds.does.more markers closed.holds.does.own_or_others;
        sweeping = joined_markers b.seat b.seats of_cycle.sweeps.traces.does.more markers
            of_cycle.sweeps.traces.does.own_or_others;
        looking = joined_markers b.seat b.seats of_cycle.looks_on.more markers of_cycle.looks_on.own_or_others;
        waiting = joined_markers b.seat b.seats of_cycle.waited markers
            (others_are_so b.seats b.seat of_cycle.waited own of_cycle.while_waiting);
        stopping = joined_markers b.seat b.seats of_cycle.stopped markers
            (others_are_so b.seats b.seat of_cycle.stopped own of_cycle.while_stopped);
      } in
      let history : IsHistory b.table.config q.seen =
      subst (λ (x : PassState). IsHistory x.table.config q.seen) behind seen in
      let released = cycle own history of_cycle none in
      record {
        cycle = released;
        more = last.before.more ++ last.begin.others;
        since = append_assoc p.seen last.before.more last.begin.others;
        each = subst (λ (x : PassState). (i : ℕ) → IsInSnapshot x.table.config released.marking i
            → (IsSwept x.table.config (left x.table.config (before_close released.marking)) i → ⊥)
            → (allocation_behind x.table.config released i).released ≡ true) same
            (is_released_by_it own history of_cycle none);
      }
