-- The words of the crate and of those below it that several proofs name: they import them from here.
pub use Rattle.std.proofs.{Math.Bool.and-false, lemmas.List.length-append}
pub use Rattle.mk_core.{proofs.ChangedAllocations.{earlier_at}, specs.{Counts.decides_freed, Cycles.{Next, is_give}}}
pub use Rattle.mk_caller.proofs.Below.Laws.Basics.{HoldsTurn, KeptByEvents, Known, Meets, WorldBehind, at_no_take}
pub use Rattle.mk_caller.proofs.Below.Laws.Basics.{before_it, free_has_turn, holds_of_histories, known_left, reg_leaves}
pub use Rattle.mk_caller.proofs.Below.Laws.Basics.{tally_keeps, turn_of, view_of}
pub use Rattle.mk_caller.proofs.Below.Laws.CyclePhases.{AsksPhase, phase_asked, phase_behind}
pub use Rattle.mk_caller.proofs.Below.Laws.{Longer.{longer_at, taken}, Vocabulary.{At, Bool, Caller, Cell}}
pub use Rattle.mk_caller.proofs.Below.Laws.Vocabulary.{Config, Event, Flight, Holding, Host, IsHistory, List, Marker}
pub use Rattle.mk_caller.proofs.Below.Laws.Vocabulary.{Moment, None, OfHistories, Op, Option, PlacedAllocation, Seat}
pub use Rattle.mk_caller.proofs.Below.Laws.Vocabulary.{Some, Step, TurnOf, World, [], and_from, and_parts, ap}
pub use Rattle.mk_caller.proofs.Below.Laws.Vocabulary.{append-nil, append_assoc, arith, cases_Bool, cases_eq, cases_lt}
pub use Rattle.mk_caller.proofs.Below.Laws.Vocabulary.{cell_freed, changed_at, comes_next, earlier_part_is_history}
pub use Rattle.mk_caller.proofs.Below.Laws.Vocabulary.{enabled_in_parts, eq-eqb, false, false_from_ne_true, first_world}
pub use Rattle.mk_caller.proofs.Below.Laws.Vocabulary.{flight_of, freed_leaves, freed_where_it_stands, fresh_words_of}
pub use Rattle.mk_caller.proofs.Below.Laws.Vocabulary.{get_or_past, granted, if◌then◌else◌, inl, inr, is_begin}
pub use Rattle.mk_caller.proofs.Below.Laws.Vocabulary.{is_close, is_end, is_mapped, is_quarantined, is_release, is_some}
pub use Rattle.mk_caller.proofs.Below.Laws.Vocabulary.{is_some_and, is_undecided_free, left, left_in_parts, left_more}
pub use Rattle.mk_caller.proofs.Below.Laws.Vocabulary.{length, list_any, list_any-append, ltb-true, ne_eqb}
pub use Rattle.mk_caller.proofs.Below.Laws.Vocabulary.{never_granted, no_longer_fresh, not, or_from, or_parts, phase_of}
pub use Rattle.mk_caller.proofs.Below.Laws.Vocabulary.{placed_at, refl, seat_exists, storage_words, subst, sym, through}
pub use Rattle.mk_caller.proofs.Below.Laws.Vocabulary.{true, true≢false, with_released, world_behind, ℕ, ◌&&◌, ◌*◌}
pub use Rattle.mk_caller.proofs.Below.Laws.Vocabulary.{◌++◌, ◌+◌, ◌<◌, ◌||◌, ◌∙◌, ◌∷◌, ◌≡◌, ◌≤◌, ◌⊎◌}
pub use Rattle.mk_alloc.specs.Bounds.{FreshIsQuarterOfHeld, HostBeginsLast, fresh_after, held_after}
pub use Rattle.mk_alloc.specs.Bounds.{given_back, given_back_behind, IsKeptByLastCycle}
pub use Rattle.mk_alloc.proofs.ListParts.{InFirst, InSecond, Lacks, lacks_append, lacks_at, lacks_first, lacks_one}
pub use Rattle.mk_alloc.{proofs.{ListParts.stands, OwnGives.{GivesNone, own_give}}, specs.TurnCycles.{CallIsExact}}
pub use Rattle.mk_alloc.proofs.Vocabulary.{EndsExactly, TurnsOfAreExact, has_step, held_by_allocations, is_of_cycle}
pub use Rattle.mk_alloc.proofs.Vocabulary.{is_same_seat, ⊎_elim}
