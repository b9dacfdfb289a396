-- The words that the proofs of this crate share: they import them from here.
pub use Rattle.std.proofs.Common.{below_more, bit_and, count_by, sum_by}
pub use Rattle.std.proofs.lemmas.{List.Sums.{count_by-le-length, sum_by-cons}, Nat.and_le_l}
pub use Rattle.mk_core.specs.{Allocations.held_by_allocations, Cells.left_unmarked, Counts.{full_answers, releases}}
pub use Rattle.mk_core.specs.{Effects.holding_behind, Frames.{CountsAreLeft, steady_of}, TurnConditions.drops}
pub use Rattle.mk_words.proofs.Below.Laws.{InvariantHistories.allocations_stand, LastEvents.stands}
pub use Rattle.mk_words.proofs.{Below.Laws.RunsStill.holder_finds, Doing.{does_nothing, does_step, does_then}}
pub use Rattle.mk_words.proofs.Sweeping.{does_sweep, only_seen_by, other_step_sweeps, sweeps_then}
pub use Rattle.mk_words.{proofs.Made.{made}, specs.{Steps.{IsEnabledTo, Makes}, TurnSteps.{Acts, world_at}, States.Has}}
pub use Rattle.mk_words.specs.States.{IsTurn, PassState, WordsState, call_of, event_of, now_of, world_of}
pub use Rattle.mk_cycle.specs.{BeginCycle.{Cleans, IsClean, WasUndirty}, EngineLaw.{IsAtPhase, IsFreeForCycle}}
pub use Rattle.mk_cycle.specs.{EngineLaw.{IsTurnAt, is_pending_free}, FinishCycle.{HasReleased, HoldsFewer}}
pub use Rattle.mk_cycle.specs.{FinishCycle.newly_released, Freeing.{AreFreeCells, Frees, FreesPage, GivesNothingBack}}
pub use Rattle.mk_cycle.specs.Freeing.{HasFreeCells, IsOccupied, IsSettledPage, IsUnmappedWord, IsZero, PageState}
pub use Rattle.mk_cycle.specs.Freeing.{SamePage, page_state, cells_unmarked, held_below, held_unmarked, released_below}
pub use Rattle.mk_cycle.specs.{Freeing.{released_on, sum_below, words_unmarked}, Stops.HoldsGates}
pub use Rattle.mk_cycle.specs.TurnKeeps.{clears, holds_gates, is_giving_back, sets_tallies, IsGone, KeepsCall}
pub use Rattle.mk_cycle.specs.{TurnKeeps.{KeepsGates, LeavesTurn, done_of}, declared.finishing.Released.Released}
