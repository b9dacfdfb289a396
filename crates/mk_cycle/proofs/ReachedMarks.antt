-- Marks of what was reached are no sweeping marks.
use Rattle.mk_words.proofs.Below.Laws.Vocabulary.{Bool, Config, Event, List, Seat, Step, World, ap, flight_of, subst}
use Rattle.mk_words.proofs.Below.Laws.Vocabulary.{world_behind, [], ◌++◌, ◌∷◌, ◌≡◌}
use Rattle.mk_cycle.proofs.{Since.since_is, StopSteps.reached_marks_sweep_nothing}
use Rattle.mk_cycle.specs.{Beside.MarksReachedAlone, Grays.TracesReached, Tracing.OwnStepsKeep}
use Rattle.mk_words.specs.{Steps.Does, Sweeping.{SweepsNothing, SweepsNothingFrom}}
use Rattle.mk_words.specs.States.{PassState, world_of}

sweepless_from : (c : Config) (s : Seat) (w : World) (es : List Event) → OwnStepsKeep TracesReached c s w es
    → SweepsNothingFrom c s w es
unfolding OwnStepsKeep SweepsNothingFrom
sweepless_from c s w [] keep = tt
sweepless_from c s w (e ∷ es) keep = (
  λ own. reached_marks_sweep_nothing c w.now (flight_of w.now e.seat) e.step (keep.0 own),
  sweepless_from c s (world_behind c w e) es keep.1,
)

pub sweepless_rule : (p q : PassState) (more : List Event) → q ≡ record p { seen = p.seen ++ more }
    → OwnStepsKeep TracesReached p.table.config p.seat (world_of p) more → SweepsNothing p q
sweepless_rule p q more is keep = record {
  more = more;
  is = ap (λ (x : PassState). x.seen) is;
  none = sweepless_from p.table.config p.seat (world_of p) more keep;
}

pub sweepless_beside : {kinds : Step → Bool} {p q : PassState} → Does kinds p q → MarksReachedAlone p q
    → SweepsNothing p q
sweepless_beside {p} {q} d keep =
    sweepless_rule p q d.more d.is (subst (λ (es : List Event). OwnStepsKeep TracesReached p.table.config p.seat
    (world_of p) es) (since_is p q d.more d.is) keep)
