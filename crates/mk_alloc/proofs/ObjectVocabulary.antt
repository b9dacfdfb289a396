-- The words that the proofs of this crate share: they import them from here.
use Rattle.mk_caller.proofs.Below.Laws.Vocabulary.{Bool, Seat, Step, false, is_number_of, nat_lt, not, true, ℕ, ◌&&◌}
pub use Rattle.std.proofs.{Common.{IsTrue, min, option_and_then, option_map}, lemmas.List.Sums.sum_by-cons}
pub use Rattle.mk_never.specs.Admitted.{IsBase}
pub use Rattle.mk_core.proofs.Histories.{calls_more}
pub use Rattle.mk_core.specs.{Allocations.held_by_allocations, Effects.words_freed, Frames.steady_of}
pub use Rattle.mk_core.specs.{History.IsAdmittedBehind, Moments.none_is_held, NewPlaces.bits_made}
pub use Rattle.mk_caller.proofs.Below.Laws.InvariantHistories.{histories_keep_the_invariant}
pub use Rattle.mk_caller.proofs.Below.Laws.{Known.{Known, known_left}, OthersCounts.answers_full}
pub use Rattle.mk_caller.proofs.Below.{Laws.Tests.all_below_from, Words.Doing.does_then}
pub use Rattle.mk_caller.proofs.Below.Words.Undecided.{decides_nothing}
pub use Rattle.mk_caller.specs.{Called.own_calls, Below.Words.Steps.{Does, IsEnabledTo}}
pub use Rattle.mk_caller.specs.Below.Words.{TurnSteps.{Acts, turn_stays}, States.{IsTurn, PassState}}
pub use Rattle.mk_caller.specs.Below.Words.States.{TurnState, WordsState, call_of, event_of, now_of, world_of}
pub use Rattle.mk_alloc.specs.FreeParts.{FreesCell, FreesOnce, IsOverQuarter, MayFree, StaysSo, Changes, HasGates}
pub use Rattle.mk_alloc.specs.FreeParts.{RunIsUnmapped, RunIsWiped, SetsGate, SetsGates, SetsTally, Unmaps, Wipes}
pub use Rattle.mk_alloc.specs.{FreeParts.{all_others, is_settling, WipesTo}, Retiring.{is_following, freed_and_fresh}}
pub use Rattle.mk_alloc.specs.Retiring.{CallIsAt, HasFreed, IsFreeAt, IsFreedAt, is_freeing, is_loading, loaded_free}
pub use Rattle.mk_alloc.specs.{Retiring.is_freeing_small, Placing.{is_acting, is_steady_word, IsAsLeft, ComesTo}}
pub use Rattle.mk_alloc.specs.Placing.{GoesTo, HasCarved, IsGrantedAt, IsOutOfStop, IsUnplaced, MayTake, OnlyLooks}
pub use Rattle.mk_alloc.specs.Placing.{entry_for, is_placing, object_at_place, object_for, Carving, IsCellReady}
pub use Rattle.mk_alloc.specs.Placing.{Serving}
pub use Rattle.mk_caller.specs.States.{value_of}
pub use Rattle.mk_cycle.specs.{TurnKeeps.{is_look, sets_tallies}, FinishCycle.with_tally}

-- steps that hold gates
abbrev pub is_holding : Step → Bool
is_holding (Step.Look x) = true
is_holding (Step.Hold j) = true
is_holding _ = false

-- those of other callers, as far as they are opened
abbrev pub held_from : Seat → ℕ → ℕ → Bool
held_from s caller j = not (nat_lt j caller) && not (is_number_of s j)
