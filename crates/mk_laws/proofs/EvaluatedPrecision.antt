-- The laws on a small cycle: its third allocation is freed and not touched, so it is released, and its storage free.
use Rattle.mk_laws.proofs.Vocabulary.{Cycle, Releasing, Seat, Step, Tally, all_below, begun_in_stop, left, left_from}
use Rattle.mk_laws.proofs.Vocabulary.{marked_in_stop, placed_at, pointed_cell, refl, small, stopped_cycle}
use Rattle.mk_laws.proofs.Vocabulary.{stopped_is_history, storage_of, three_objects, through, through_release, true}
use Rattle.mk_laws.proofs.{Vocabulary.{unreleased_storage, [], ◌∷◌, ◌≡◌}, PrecisionFreeing.frees_the_untouched}
use Rattle.mk_laws.{proofs.PrecisionStopped.{releases_the_untouched}, specs.Releases.{CountsAsFree, through_end}}
use Rattle.mk_core.proofs.EvaluatedTouched.{marking, third_is_in_snapshot, third_is_untouched}
use Rattle.mk_core.{proofs.{EvaluatedCycles.{any_sweeps, none_sweeps}, SmallCycles.by_host}, specs.Cycles.{NoneSweeps}}

abbrev releasing : Releasing stopped_cycle
releasing = record {
  marking = marking;
  release = record {
    at = record {
      before = [];
      event = record { seat = Seat.Host; step = Step.Release };
      behind = by_host
          (Step.Used 0 3 ∷ Step.Quar 0 0 ∷ Step.Tally Tally.Held 4 ∷ Step.End ∷ Step.Open 0 ∷ Step.Give ∷ []);
      is = refl;
      of_kind = refl;
    };
    none_before = refl;
  };
}

abbrev cycle : Cycle stopped_cycle
cycle = record {
  releasing = releasing;
  end = record {
    at = record {
      before = by_host (Step.Used 0 3 ∷ Step.Quar 0 0 ∷ Step.Tally Tally.Held 4 ∷ []);
      event = record { seat = Seat.Host; step = Step.End };
      behind = by_host (Step.Open 0 ∷ Step.Give ∷ []);
      is = refl;
      of_kind = refl;
    };
    none_before = refl;
  };
}

marking_has_none : NoneSweeps small marking
unfolding any_sweeps left_from all_below pointed_cell begun_in_stop three_objects marked_in_stop
marking_has_none = none_sweeps small (left small (through marking.begin)) marking.close.at.before refl

third_is_released : (placed_at (left small (through_release releasing)).allocations 2).released ≡ true
third_is_released =
    releases_the_untouched small stopped_cycle stopped_is_history releasing marking_has_none 2 third_is_in_snapshot
    third_is_untouched

third_counts_as_free : CountsAsFree (unreleased_storage small (left small (through_end cycle)).allocations)
    (storage_of small (placed_at (left small (through_end cycle)).allocations 2))
third_counts_as_free =
    frees_the_untouched small stopped_cycle stopped_is_history cycle marking_has_none 2 third_is_in_snapshot
    third_is_untouched
