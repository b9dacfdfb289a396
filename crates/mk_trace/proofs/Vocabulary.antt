-- The words that the proofs of this crate share: they import them from here.
use Rattle.mk_heap.proofs.Below.Laws.Vocabulary.{List, Option, ℕ, ◌≡◌}
pub use Rattle.std.proofs.Common.{All, Ok, codes, filter, fold, length-append, length-drop, max, option_map, replicate}
pub use Rattle.std.proofs.{Common.{rules, sum_by, take-append-drop, take_all, ⊎_elim}, Math.Bool.and-false}
pub use Rattle.std.proofs.lemmas.{Bool.Decides.nat_tests, List.{at_drop_more, drop_more, length-replicate}}
pub use Rattle.std.proofs.lemmas.List.{take_more, Sums.{sum_by-append, sum_by-cons}}
pub use Rattle.std.specs.{List.range_with_len, Option.{option_map_or, option_to_list}}
pub use Rattle.mk_core.{proofs.Histories.{calls_append}, specs.{History.{Grows, is_same_seat}, History.never_first}}
pub use Rattle.mk_core.specs.{Allocations.{allocations_by, held_by_allocations}, Moments.IsBetween}
pub use Rattle.mk_core.specs.Counts.{decides_freed}
pub use Rattle.mk_heap.proofs.Below.Laws.{CyclePhases.moves_phase, ImagesKept.exists_placed}
pub use Rattle.mk_heap.proofs.Below.Laws.InvariantHistories.{histories_keep_the_invariant, reach_is_kept}
pub use Rattle.mk_heap.proofs.Below.Laws.Vocabulary.{Answer, AreAdmitted, AreEnabledFrom, AreOfOthers, Call, Caller}
pub use Rattle.mk_heap.proofs.Below.Laws.Vocabulary.{Cell, Config}
pub use Rattle.mk_heap.proofs.Below.Laws.Vocabulary.{Decided, Event, Flight, Host, IsAdmitted, IsHistory, IsSound}
pub use Rattle.mk_heap.proofs.Below.Laws.Vocabulary.{IsTidy}
pub use Rattle.mk_heap.proofs.Below.Laws.Vocabulary.{IsWithinLimits, Kind, Marker, Moment, NeverState, Null, Num, Op}
pub use Rattle.mk_heap.proofs.Below.Laws.Vocabulary.{PlacedAllocation, Ptr, Seat, Stage, Step, TalliesAreTidy, To}
pub use Rattle.mk_heap.proofs.Below.Laws.Vocabulary.{Value, Word}
pub use Rattle.mk_heap.proofs.Below.Laws.Vocabulary.{Words, World, address_of, after_calls, after_free, allocation_at}
pub use Rattle.mk_heap.proofs.Below.Laws.Vocabulary.{answered}
pub use Rattle.mk_heap.proofs.Below.Laws.Vocabulary.{asked, call_decided, calls, calls_from, cell_at, cell_freed}
pub use Rattle.mk_heap.proofs.Below.Laws.Vocabulary.{cell_of_allocation, cell_words, ends, entry_of, first_world}
pub use Rattle.mk_heap.proofs.Below.Laws.Vocabulary.{flagged}
pub use Rattle.mk_heap.proofs.Below.Laws.Vocabulary.{flight_of, found, freed_where_it_stands, global_at, granted}
pub use Rattle.mk_heap.proofs.Below.Laws.Vocabulary.{header_at}
pub use Rattle.mk_heap.proofs.Below.Laws.Vocabulary.{in_a_word, is_begin, is_end, is_freed, is_heap_address, is_large}
pub use Rattle.mk_heap.proofs.Below.Laws.Vocabulary.{is_left_unmarked, is_phase, is_quarantined, is_release}
pub use Rattle.mk_heap.proofs.Below.Laws.Vocabulary.{is_some_and}
pub use Rattle.mk_heap.proofs.Below.Laws.Vocabulary.{is_under_turn, kinds_of, left, never_behind, never_granted}
pub use Rattle.mk_heap.proofs.Below.Laws.Vocabulary.{no_longer_fresh}
pub use Rattle.mk_heap.proofs.Below.Laws.Vocabulary.{object_made, phase_of, placed_at, pointed_cell, register_at}
pub use Rattle.mk_heap.proofs.Below.Laws.Vocabulary.{seat_exists}
pub use Rattle.mk_heap.proofs.Below.Laws.Vocabulary.{stands_in, storage_words, with_released, world_behind}
pub use Rattle.mk_heap.proofs.Below.Objects.ListParts.{lacks_append, lacks_one, none_at}
pub use Rattle.mk_heap.proofs.Below.Objects.Parts.{seen_made}
pub use Rattle.mk_heap.proofs.Below.Words.Seats.{has_first}
pub use Rattle.mk_heap.specs.Below.Objects.TurnCycles.{has_step, is_grant, is_of_cycle, lets_go}
pub use Rattle.mk_heap.specs.{Below.Callers.States.CallerState, Hosts.{HostState, first_host, pass_for}}
pub use Rattle.mk_heap.specs.Below.Words.{Sweeping.SweepsNothing, States.{Has, HasAll, without_seat}}
pub use Rattle.mk_heap.specs.Below.Words.States.{PassState, WordsState, event_of}
pub use Rattle.mk_heap.specs.Dispatching.{unflagged}
pub use Rattle.mk_script.specs.{Grammar.{lines_of, texts_of, words_of_line}, declared.faults.Which.Which}
pub use Rattle.mk_trace.specs.{Calls.{CallerIsHome, Calls, held_behind, most_held}, Peaks.{EndsNone, EndsOne}}
pub use Rattle.mk_trace.specs.Peaks.{EndsTell, FreesNone, IsBetweenCycles, LeavesAllocations, ReleasesNone}
pub use Rattle.mk_trace.specs.{Playing.{AllTurnsAreExact, StayExact}, Ledgers.{AreLater, FlagsBehind}}
pub use Rattle.mk_trace.specs.Ledgers.{FlagsBehindCall, IsMostWhereFreed, QuarantinesMostWhereFreed, freed_words}
pub use Rattle.mk_trace.specs.Ledgers.{large_words, number_freed, unfreed}
pub use Rattle.mk_trace.specs.Grammar.{events_from, text_fault_at, written_from}
pub use Rattle.mk_trace.specs.{Playing.{IsEventOf, IsPlayable}, Ledgers.{AreAgesOf, AreFound, AreObjectsOf, Keeps}}
pub use Rattle.mk_trace.specs.Ledgers.{SettlesFreed, age_in_a_word, aged, freed_object_of, objects_kept, still_kept}
pub use Rattle.mk_trace.specs.Lines.{LinesSoFar, header_line_of, nothing_written, slot_number}
pub use Rattle.mk_trace.specs.{Lines.with_trace_line, Calls.HostOnlyLooks, Ledgers.{AreThose, one_if, times}}
pub use Rattle.mk_trace.specs.Peaks.{age_of, counted, greatest, peaks_of, quarantined_words, reserved_words, with_one}
pub use Rattle.mk_trace.specs.Playing.{begins_full, calls_of_caller, config_of, is_refusal, ops_of, refused_events}
pub use Rattle.mk_trace.specs.{Playing.types_from, Grammar.{Contents, IsOfSomeTraceText, contents_of, trace_of_lines}}
pub use Rattle.mk_trace.specs.{Grammar.typed_event, declared.{faults.TraceStop.TraceStop, ledger.Freed.Freed}}
pub use Rattle.mk_trace.specs.declared.{ledger.FreedObject.FreedObject, lines.HeapPages.HeapPages}
pub use Rattle.mk_trace.specs.declared.trace.TraceEvent.{TraceEvent, TheVariants.{A, C, F, K}}
pub use Rattle.mk_trace.specs.declared.trace.TraceEvent.TheVariants.{W}

-- The caller's registers are null.
abbrev pub AreNull : NeverState → Type 0
AreNull n = (r : ℕ) → register_at n 0 r ≡ Null

-- What was held meanwhile is no more than before, or than at the end.
abbrev pub HoldsMostAtEnd : Config → List Event → List Event → Type 0
HoldsMostAtEnd c es fs = most_held c fs ≡ max (most_held c es) (held_behind c fs)

-- words of the allocation, if there is one
abbrev pub words_of_some : (PlacedAllocation → ℕ) → List PlacedAllocation → Option ℕ → ℕ
words_of_some words xs x = option_map_or (λ (number : ℕ). words (placed_at xs number)) x 0

-- The objects are those of the quarantined allocations.
abbrev pub AreQuarantinedObjects : Config → List (List PlacedAllocation) → List PlacedAllocation → List FreedObject
    → Type 0
AreQuarantinedObjects c found xs objects = AreObjectsOf c found xs (λ (i : ℕ). is_quarantined (placed_at xs i)) objects
