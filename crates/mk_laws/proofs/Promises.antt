-- All promises, from the theorems.
use Rattle.mk_laws.proofs.Vocabulary.{Config, Event, IsHistory, List, OfHistories, earlier_part_is_history, subst}
use Rattle.mk_laws.proofs.FreePages.{dirty_pages_have_allocations, free_pages_have_nothing}
use Rattle.mk_laws.proofs.FreeWords.{free_cells_are_zero, words_behind_cells_are_zero}
use Rattle.mk_laws.proofs.PlacementTheorems.{fulls_fit_nowhere, grants_stand_at_their_places}
use Rattle.mk_laws.proofs.Releases.{no_others_release, releases_are_exact, releases_none_reached}
use Rattle.mk_laws.proofs.UnsetWords.{registers_of_no_caller_are_zero, unset_globals_are_zero}
use Rattle.mk_laws.proofs.{PrecisionFreeing.frees_the_untouched, PrecisionStopped.releases_the_untouched}
use Rattle.mk_laws.proofs.{Quarantines.few_pages_are_resident, ReadingsStands.headers_and_quarantine_tell}
use Rattle.mk_laws.proofs.{ReleasedCycles.releases_are_of_cycles, Snapshots.snapshots_tell}
use Rattle.mk_laws.proofs.{Tallies.tallies_are_exact_at_gives, UnmappedRuns.unmapped_runs_take_no_memory}
use Rattle.mk_laws.{proofs.Waiting.{nobody_ever_waits_in_a_ring}, specs.Promises.{AtEachMoment, KeepsAllPromises}}
use Rattle.mk_laws.proofs.InvariantHistories as invariant

at_each : (claim : Config → List Event → Type 0) → OfHistories claim → OfHistories (AtEachMoment claim)
at_each claim of c es h front more is = of c front (earlier_part_is_history c front more (subst (IsHistory c) is h))

pub histories_keep_all_promises : OfHistories KeepsAllPromises
histories_keep_all_promises c es h = record {
  refined = invariant.histories_refine_never c es h;
  reach = at_each _ invariant.reach_is_kept c es h;
  stand = at_each _ invariant.allocations_stand c es h;
  disjoint = at_each _ invariant.allocations_are_disjoint c es h;
  zero_cells = at_each _ free_cells_are_zero c es h;
  zero_tails = at_each _ words_behind_cells_are_zero c es h;
  free_pages = at_each _ free_pages_have_nothing c es h;
  dirty_pages = at_each _ dirty_pages_have_allocations c es h;
  spare_registers = at_each _ registers_of_no_caller_are_zero c es h;
  unset_globals = at_each _ unset_globals_are_zero c es h;
  headers = at_each _ invariant.pages_show_the_storage c es h;
  first_fit = at_each _ invariant.first_fit_finds_the_place c es h;
  told = at_each _ headers_and_quarantine_tell c es h;
  resident = at_each _ few_pages_are_resident c es h;
  reserved = at_each _ unmapped_runs_take_no_memory c es h;
  placed = grants_stand_at_their_places c es h;
  full = fulls_fit_nowhere c es h;
  tallies = tallies_are_exact_at_gives c es h;
  closed = invariant.closes_find_marks_closed c es h;
  snapshots = at_each _ snapshots_tell c es h;
  released = releases_are_exact c es h;
  none_reached = releases_none_reached c es h;
  of_cycles = releases_are_of_cycles c es h;
  no_others = no_others_release c es h;
  guarded = at_each _ invariant.black_cells_are_guarded c es h;
  precise = releases_the_untouched c es h;
  freed = frees_the_untouched c es h;
  waits = nobody_ever_waits_in_a_ring c es h;
  compared = invariant.exchanges_compare c es h;
}
