-- The words of the crate and of those below it that several proofs name: they import them from here.
pub use Rattle.std.proofs.{Common.⊎_elim, lemmas.List.{append_cancel_left, Sums.sum_by_push}}
pub use Rattle.std.specs.List.{list_all}
pub use Rattle.mk_core.proofs.{Conditions.meets_enabled, Histories.calls_more, HistoryParts.calls_in_parts}
pub use Rattle.mk_core.specs.{Allocations.{allocations_by, held_by_allocations}, Counts.{IsDue, full_answers, releases}}
pub use Rattle.mk_core.specs.{Effects.cycle_ended, Frames.{CountsAreLeft, steady_of}, History.{Finding, is_same_seat}}
pub use Rattle.mk_core.specs.{Moments.none_is_held, Placement.place_after, declared.seats.OwnCycle.TheVariants.Ended}
pub use Rattle.mk_caller.proofs.Below.Laws.Basics.{HoldsTurn, actor_of, known_left, view_of}
pub use Rattle.mk_caller.proofs.Below.Laws.{InvariantHistories.told_to_images, Known.holds_turn}
pub use Rattle.mk_caller.proofs.Below.Laws.LastEvents.{comes_last, stands}
pub use Rattle.mk_caller.proofs.Below.Laws.{OthersCounts.{fulls_append, fulls_of}, ProtocolFrames.left_after}
pub use Rattle.mk_caller.proofs.Below.Laws.{Settled.gone_is_unmapped, Vocabulary.{Answer, AreOfOthers, At}}
pub use Rattle.mk_caller.proofs.Below.Laws.Vocabulary.{Bool, Caller, Cell, Config, Decided, Event, Flight, Holding}
pub use Rattle.mk_caller.proofs.Below.Laws.Vocabulary.{Holds, Host, IsEnabled, IsHistory, KeepsRegisters, List, Moment}
pub use Rattle.mk_caller.proofs.Below.Laws.Vocabulary.{None, Object, Op, Option, Place, PlacedAllocation, Placing}
pub use Rattle.mk_caller.proofs.Below.Laws.Vocabulary.{RunPages, Seat, Some, Stage, Steady, Step, Storage}
pub use Rattle.mk_caller.proofs.Below.Laws.Vocabulary.{TalliesAreTidy, TurnOf, Value, World, [], after_calls, and_from}
pub use Rattle.mk_caller.proofs.Below.Laws.Vocabulary.{and_parts, answer_decided, ap, append-nil, append_assoc, arith}
pub use Rattle.mk_caller.proofs.Below.Laws.Vocabulary.{asked, at_rest, call_decided, caller_number, calls, cases_Bool}
pub use Rattle.mk_caller.proofs.Below.Laws.Vocabulary.{comes_next, cond, earlier_part_is_history, ends, entry_of}
pub use Rattle.mk_caller.proofs.Below.Laws.Vocabulary.{eq-eqb, false, first_world, flight_of, found}
pub use Rattle.mk_caller.proofs.Below.Laws.Vocabulary.{freed_where_it_stands, fresh_words_of, has_operands, has_place}
pub use Rattle.mk_caller.proofs.Below.Laws.Vocabulary.{if◌then◌else◌, in_a_word, inl, inr, is_begin, is_close, is_end}
pub use Rattle.mk_caller.proofs.Below.Laws.Vocabulary.{is_held, is_one_of, is_release, is_run_gone, is_undecided_new}
pub use Rattle.mk_caller.proofs.Below.Laws.Vocabulary.{left, left_in_parts, length, list_any-append, lt-ltb, map}
pub use Rattle.mk_caller.proofs.Below.Laws.Vocabulary.{nat_lt, never_behind, none_freed, not, not-true, object_made}
pub use Rattle.mk_caller.proofs.Below.Laws.Vocabulary.{or_cases, or_from, or_left, or_parts, phase_of, progress, refl}
pub use Rattle.mk_caller.proofs.Below.Laws.Vocabulary.{slice_index, still, subst, sym, true, true≢false, undecided_new}
pub use Rattle.mk_caller.proofs.Below.Laws.Vocabulary.{unreleased_storage, world_behind, ℕ, ◌&&◌, ◌++◌, ◌+◌, ◌<◌, ◌==◌}
pub use Rattle.mk_caller.proofs.Below.Laws.Vocabulary.{◌||◌, ◌∙◌, ◌∷◌, ◌≡◌, ◌≢◌, ◌⊎◌}
pub use Rattle.mk_caller.proofs.Below.Words.Made.{made, own_before, pass_before}
pub use Rattle.mk_caller.proofs.Below.Words.Seats.{not_both, only_one, others_one, same_seat, same_self}
pub use Rattle.mk_caller.proofs.Below.Words.Doing.{does_nothing, does_step, does_then}
pub use Rattle.mk_caller.proofs.{Below.Words.Sweeping.{only_seen, only_seen_by}, OneStep.own_seat}
pub use Rattle.mk_caller.proofs.OwnSteps.{by_append, calls_by, others_add_none}
pub use Rattle.mk_caller.specs.Below.Words.States.{Has, IsTurn, PassState, call_of, event_of}
pub use Rattle.mk_caller.specs.Below.Words.{States.{now_of, world_of}, Steps.{IsEnabledTo, Makes}}
pub use Rattle.mk_caller.specs.Below.Words.{TurnSteps.{Acts, IsFresh, turn_stays}, Steps.{Does, are_of}}
pub use Rattle.mk_caller.specs.{Below.Words.TurnSteps.{TakesTurn, is_take, waits_for}, Called.{own_calls, own_steps}}
pub use Rattle.mk_caller.specs.{Called.{stages_made, step_at}, States.{CallerState, caller_of_pass}}
pub use Rattle.mk_alloc.proofs.{JoinedLooks.{does_wider, looks_left}, Looks.acting_caller}
pub use Rattle.mk_alloc.proofs.MayAct.{new_is_acting, off_four}
pub use Rattle.mk_alloc.specs.{Retiring.IsDueSince, Placing.{object_for, place_now_for, FitsNowhere, IsOutOfStop}}
pub use Rattle.mk_alloc.specs.{Placing.{IsPlaced, IsUnplaced, OnlyLooks, is_placing}, Rooms.{EndsOlder, RunsIfDue}}
pub use Rattle.mk_alloc.specs.Rooms.{BeginsTurn, IsQuiet, PassKeeps, TurnGoesOn, OwnLeaveAllButReleased, AnswersFull}
pub use Rattle.mk_alloc.specs.Rooms.{AsksRoom, SeesNone, GrantsNone, Misfits, RunsOne, Seeks, asks_room}
pub use Rattle.mk_alloc.specs.TurnCalls.{CalledInTurn, FreesObject, IsAnsweredDouble, IsAnsweredFull}
pub use Rattle.mk_alloc.specs.TurnCycles.{EndsExactly, FreeIsExact, FreesFirst, HasNoPlace, IsDueIn, RunsOneCycle}
pub use Rattle.mk_alloc.specs.TurnCycles.{TurnsOfAreExact, finishes, has_step, is_grant, is_of_cycle, lets_go}
pub use Rattle.mk_alloc.specs.TurnCycles.{within_turn}
pub use Rattle.mk_cycle.proofs.{Calm.frees_none, CleaningSteps.calm_keeps, KeptInParts.{free_then, gates_behind}}
pub use Rattle.mk_cycle.proofs.{KeptInParts.same_config, OwnSteps.no_more_calls}
pub use Rattle.mk_cycle.specs.TurnKeeps.{is_look, is_want, OnlyDoes, unchanged, KeepsGates, LeavesTurn, begins_marking}
pub use Rattle.mk_cycle.specs.{TurnKeeps.{clears, holds_gates, is_giving_back, sets_tallies}, BeginCycle.BeginsCycle}
pub use Rattle.mk_cycle.specs.{EngineLaw.{IsAtPhase, is_pending_free, is_pending_free_at}, FinishCycle.FinishesCycle}
pub use Rattle.mk_cycle.specs.Tracing.{is_tracing}
