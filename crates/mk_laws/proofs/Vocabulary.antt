-- The words of the heap and of its steps, and the lemmas of std and of the crates below that several proofs name.
pub use Rattle.std.proofs.Common.{Bool, List, [], ap, append-nil, append_assoc, arith, drop, false, get_or, inl, inr}
pub use Rattle.std.proofs.Common.{length, length-set, map, refl, subst, suc, sym, take, true, zero, ℕ, ◌%◌, ◌*◌, ◌++◌}
pub use Rattle.std.{proofs.Common.{◌+◌, ◌-◌, ◌/◌, ◌<◌, ◌^◌, ◌↔◌, ◌∙◌, ◌∷◌, ◌≡◌, ◌≢◌, ◌≤◌, ◌⊎◌}, specs.List.list_any}
pub use Rattle.std.proofs.lemmas.Bool.{and_from, and_parts, and_right, cases_Bool, cases_eq, cases_lt, cond-false}
pub use Rattle.std.proofs.lemmas.Bool.{cond-true, eq-eqb, eqb-false, eqb-true, false_from_ne_true, false≢true, le-leb}
pub use Rattle.std.proofs.lemmas.Bool.{leb-true, lt-ltb, ltb-true, ne_eqb, not-true, or_cases, or_from, or_left}
pub use Rattle.std.proofs.lemmas.Bool.{or_parts, or_right, true≢false}
pub use Rattle.std.proofs.lemmas.List.{get_or-set_other, get_or-set_same, get_or_append_left, get_or_past, length-map}
pub use Rattle.std.proofs.lemmas.List.{map-append, set-get_or, set_past, Folds.list_any-append}
pub use Rattle.std.proofs.lemmas.{Nat.mul-le, Option.{none-some, same_Some}}
pub use Rattle.std.specs.Prelude.{◌==◌, ◌||◌, None, Option, Some, bit_or, cond, if◌then◌else◌, is_none, is_some, nat_le}
pub use Rattle.std.specs.{Prelude.{nat_lt, not, slice_index, slice_index_or, slice_set, ◌&&◌}, Int.bit_at}
pub use Rattle.mk_geom.specs.declared.{addresses.Cell.Cell, headers.Header.Header}
pub use Rattle.mk_geom.specs.declared.headers.Header.TheVariants.{Block, Free, Later, LeafBlock, LeafRun, Run}
pub use Rattle.mk_geom.specs.{declared.pages.{Page.Page, Place.Place}, Addresses.{address_of, cell_at}}
pub use Rattle.mk_geom.specs.Addresses.{head_page_under, is_heap_address, page_at_address}
pub use Rattle.mk_geom.specs.Addresses.{cells_of, class_words_of, run_pages_of, IsHeaderWord, header_of}
pub use Rattle.mk_geom.specs.{Addresses.word_of, PageUses.{is_resident_page, or_else, resident_pages}}
pub use Rattle.mk_geom.specs.{PageUses.{use_under, uses_of_pages}, Storages.{IsWordOf, PointsInto}}
pub use Rattle.mk_geom.specs.Storages.{IsStorage, Storage, block_header, free_page, is_small, run_header, stands_on}
pub use Rattle.mk_geom.proofs.ClassTable.{cell_ends}
pub use Rattle.mk_never.specs.declared.operations.{Op.Op, Reply.TheVariants.Done}
pub use Rattle.mk_never.specs.declared.{types.Kind.Kind, values.Target.TheVariants.{Unmapped, WordOf}}
pub use Rattle.mk_never.specs.declared.values.Value.{Value, TheVariants.{Null, Num, Ptr}}
pub use Rattle.mk_never.specs.Admitted.{AccessIsAdmitted, AreAdmitted, IsAdmitted, IsNumber, IsPointer, Meets}
pub use Rattle.mk_never.specs.{Laws.{Continues, KeepsRegisters}, NeverHeap.{allocation_at, bit, global_at, is_same}}
pub use Rattle.mk_never.specs.NeverHeap.{is_unmapped, no_allocation, number_of, register_at, replies_of, target_of}
pub use Rattle.mk_never.specs.NeverHeap.{with_freed, with_global, with_new, with_register, with_word, word_at, words_of}
pub use Rattle.mk_never.specs.Admitted.{IsSound, IsTyped, IsTypedAllocation, Suits, kind_in}
pub use Rattle.mk_never.specs.Types.{is_large, kinds_of}
pub use Rattle.mk_never.proofs.{Edits.set_by, Registers.admitted_keep}
pub use Rattle.mk_core.specs.declared.accesses.Access.{Access, TheVariants.{Load, Store}}
pub use Rattle.mk_core.specs.declared.{accesses.TableWord.TheVariants.Named, config.Config.Config}
pub use Rattle.mk_core.specs.declared.events.{Answer.Answer, Event.Event, Group.Group}
pub use Rattle.mk_core.specs.declared.events.Seat.{Seat, TheVariants.{Caller, Host, Marker}}
pub use Rattle.mk_core.specs.declared.events.{Step.Step, Tally.Tally, Word.Word}
pub use Rattle.mk_core.specs.declared.seats.{Flight.Flight, Hand.Hand, Holding.Holding}
pub use Rattle.mk_core.specs.declared.seats.{Object.Object, OwnCycle.OwnCycle}
pub use Rattle.mk_core.specs.declared.seats.Placing.{Placing, TheVariants.{Chosen, Granted}}
pub use Rattle.mk_core.specs.declared.seats.{Placing.TheVariants.{Unplaced, Used}, Presence.Presence}
pub use Rattle.mk_core.specs.declared.seats.{Progress.Progress, RunPages.RunPages}
pub use Rattle.mk_core.specs.declared.seats.{Scan.Scan, SeenHeader.SeenHeader}
pub use Rattle.mk_core.specs.{declared.seats.Stage.Stage, Accesses.{access, caller_number, found, granted_base}}
pub use Rattle.mk_core.specs.Accesses.{next_word, reg_access, register_met, scan_page, seen_bit, seen_page, tally_word}
pub use Rattle.mk_core.specs.{Accesses.word_accessed, Allocations.{PlacedAllocation, cell_of_allocation}}
pub use Rattle.mk_core.specs.Allocations.{freed_where_it_stands, fresh_words_of, granted, is_mapped, never_granted}
pub use Rattle.mk_core.specs.Allocations.{no_longer_fresh, placed_at, stands_in, storage_of, storage_words}
pub use Rattle.mk_core.specs.Allocations.{with_released}
pub use Rattle.mk_never.specs.declared.types.Kind.TheVariants.{Num as Number, To}
pub use Rattle.mk_never.specs.NeverHeap.{Allocation as NeverAllocation, Call, NeverState, after_calls, after_free}
pub use Rattle.mk_core.specs.declared.seats.Marker.{Marker as MarkerState}
unfoldable pub use Rattle.mk_core.specs.Allocations.{unreleased_storage}
pub use Rattle.mk_core.specs.Words.{has_bit, without, is_none_or, is_some_and}
unfoldable pub use Rattle.mk_core.specs.Words.{all_below}
pub use Rattle.mk_core.specs.Calls.{at_rest, begun, d_of, g_of, has_operands, i_of, is_under_turn, one_if, onward, p_of}
pub use Rattle.mk_core.specs.Calls.{page_met, progress_p, progress_q, progress_read, progress_reg, q_of, r_of, refused}
pub use Rattle.mk_core.specs.Calls.{stage_behind, stage_refused, steps_of, still, word_met}
pub use Rattle.mk_core.specs.Cells.{words_under, cell_words, cells_under, first_word, has_no_pointers, head_page}
pub use Rattle.mk_core.specs.Cells.{header_in, heads_run, is_freed, is_leaf_header, is_left_unmarked, is_marked}
pub use Rattle.mk_core.specs.Cells.{is_released_cell, is_unmapped_header, points_well, run_headed, word_points_well}
pub use Rattle.mk_core.specs.Cells.{words_are_zero}
unfoldable pub use Rattle.mk_core.specs.Cells.{pointed_cell}
pub use Rattle.mk_core.specs.Cycles.{BlackIsGuarded, DirtyIsOwed, IsGuarded, MarksAreClosed, OwesDirty}
pub use Rattle.mk_core.specs.{Cycles.{PageIsDirty, PointsWell}, Moments.IsWithinLimits}
pub use Rattle.mk_core.specs.{Counts.{IsTidy, TalliesAreTidy, ends, in_a_word}, Cycles.{At, Cycle, Marking, Releasing}}
pub use Rattle.mk_core.specs.Cycles.{TurnOf, before_close, before_release, is_begin, is_close, is_end, is_quarantined}
pub use Rattle.mk_core.specs.{Cycles.{is_release, is_unmarked, through}, Calls.{Decided, answered, asked, entry_of}}
pub use Rattle.mk_core.specs.{Calls.flagged, Effects.{answer_decided, behind_mlook, chosen, decided, marker_behind}}
pub use Rattle.mk_core.specs.Effects.{progress, progress_freed, run_of_cell, scan_begun, scan_claimed, scan_onward}
pub use Rattle.mk_core.specs.{Effects.{sees_double, taken}, Enabled.{IsEnabled, MeetsAll, holder_may, marker_may}}
pub use Rattle.mk_core.specs.{Frames.{IsInCall, IsLeft, OnlyGrow, Steady, TurnIsLeft, Written}, History.is_one_of}
unfoldable pub use Rattle.mk_core.specs.History.{AreOfOthers}
pub use Rattle.mk_core.specs.History.{AreEnabled, IsHistory, World, bases_of, call_decided, calls, first_world, left}
pub use Rattle.mk_core.specs.History.{never_behind, world_behind}
unfoldable pub use Rattle.mk_core.specs.History.{AreEnabledFrom, calls_from, left_from}
pub use Rattle.mk_core.specs.{History.{answer_of, answers_of, image_of}, Layout.AreOfPages}
pub use Rattle.mk_core.specs.MarkingConditions.{cell_seen, has_next_word, has_seen_cell, is_scanned}
pub use Rattle.mk_core.specs.Moments.{Moment, first_moment, flight_of, holder_number, is_held, is_number_of, is_phase}
pub use Rattle.mk_core.specs.Moments.{marker_at, marker_of, nothing_done, others_are_held, outside}
pub use Rattle.mk_core.specs.NewPlaces.{base_made, class_made, header_made, is_free_at, is_new_at, is_next_header}
pub use Rattle.mk_core.specs.NewPlaces.{is_run_gone, is_run_unmapped, is_small_object, is_undecided_free}
pub use Rattle.mk_core.specs.NewPlaces.{is_undecided_new, object_made, pages_made, place_by_placing, place_on_pages}
pub use Rattle.mk_core.specs.{NewPlaces.{stands, target, unmapped_header}, Allocations.{IsHeaderOf, IsSized, OfBlock}}
pub use Rattle.mk_core.specs.Allocations.{OfLater, OfLeafBlock, OfLeafRun, OfRun, ShowsPart, cells_made, words_made}
pub use Rattle.mk_core.specs.Conditions.{comes_next, group_of, host_has_turn, is_of_turn, is_open_to, seat_exists}
pub use Rattle.mk_core.specs.Conditions.{has_gates, has_phase, is_in_range, is_run_cell}
pub use Rattle.mk_core.specs.Readings.{Holds, IsTaken, is_in}
pub use Rattle.mk_core.specs.Allocations.{BeginsAtCell, HasItsHeaders, StandsOnHeap, object_placed}
pub use Rattle.mk_core.specs.MarkingConditions.{has_clean_page, has_closed_page, is_attending, marks_place, may_end}
pub use Rattle.mk_core.specs.MarkingConditions.{none_attends, roots_point_well}
unfoldable pub use Rattle.mk_core.specs.MarkingConditions.{may_turn_black}
pub use Rattle.mk_core.specs.TurnConditions.{carves, cell_freed, empties, frees, gives_back, held_by_pages, is_decided}
pub use Rattle.mk_core.specs.TurnConditions.{is_marked_first, is_used_once, may_answer_full, place_now, takes_cell}
pub use Rattle.mk_core.specs.{TurnConditions.unmaps, Words.{Words, accessed, header_at, phase_of, quarantine_word}}
pub use Rattle.mk_core.specs.Words.{register_word, used_at}
pub use Rattle.mk_core.proofs.{EvaluatedLarge.large_is_history, AllBelow.{all_below-at, all_below_more_is}}
pub use Rattle.mk_core.proofs.{AllBelow.all_below_zero_is, BitsWithout.has_bit_without}
pub use Rattle.mk_core.proofs.{CellsOfAllocations.stands_in_its_cell, ChangedAllocations.{LeavesPlaces, changed_at}}
pub use Rattle.mk_core.proofs.ChangedAllocations.{freed_leaves, freed_released, fresh_leaves, none_freed}
pub use Rattle.mk_core.proofs.{ChangedAllocations.released_leaves, Conditions.enabled_meets}
unfoldable pub use Rattle.mk_core.proofs.EventsAt.{event_number}
pub use Rattle.mk_core.proofs.GrantedAllocations.{granted_base_is, granted_object, granted_type}
pub use Rattle.mk_core.proofs.Histories.{enabled_parts, left_append, left_more}
pub use Rattle.mk_core.proofs.HistoryParts.{never_in_parts, admitted_in_parts, earlier_part_is_history}
pub use Rattle.mk_core.proofs.HistoryParts.{enabled_in_parts, left_in_parts}
unfoldable pub use Rattle.mk_core.proofs.LargeSchedule.{large_freed, three_pages}
pub use Rattle.mk_core.proofs.Lengths.{accessed_lengths, histories_keep_lengths, zero_lengths}
pub use Rattle.mk_core.proofs.ObjectHeaders.{header_shows, later_cells, made_is_mapped, made_shows, part_cells}
pub use Rattle.mk_core.proofs.ObjectHeaders.{part_has_no_pointers, part_head, part_not_free, part_words, shown_later}
pub use Rattle.mk_core.proofs.{ObjectHeaders.{small_heads_none, unmapped_is_unmapped}, PageSteps.{Drops, Empties}}
pub use Rattle.mk_core.proofs.PageSteps.{GivesBack, HeadStep, ItCarves, ItDrops, ItEmpties, ItFrees, ItGivesBack}
pub use Rattle.mk_core.proofs.PageSteps.{ItTakes, ItTakesSnapshot, ItUnmaps, QuarantineStep, UsedStep, head_step}
pub use Rattle.mk_core.proofs.{PageSteps.{quarantine_step, used_step}, PlacesNow.{AsChosen, AsUsed, ByFit, IsPlaced}}
pub use Rattle.mk_core.proofs.PlacesNow.{freed_cell, placed_now, undecided_free, undecided_new}
pub use Rattle.mk_core.proofs.PointedAllocations.{released_where_left, word_points}
unfoldable pub use Rattle.mk_core.proofs.Schedules.{by, c0, one_page}
pub use Rattle.mk_core.proofs.{ServingSteps.{IsNextHeader, marks_is}, Sizes.{class_known, large_cells, large_count}}
pub use Rattle.mk_core.proofs.Sizes.{large_is_not_small, large_words, pages_some, small_cells, small_pages, small_words}
pub use Rattle.mk_core.proofs.{Sizes.words_within, SmallCycles.{small, stopped_cycle}}
unfoldable pub use Rattle.mk_core.proofs.SmallCycles.{begun_in_stop, marked_in_stop, three_objects}
pub use Rattle.mk_core.proofs.{SmallHistories.stopped_is_history, StandingAllocations.{cells_begin, first_page_shows}}
pub use Rattle.mk_core.proofs.StandingAllocations.{run_begins, standing_has_storage, storage_holds, typed_size}
pub use Rattle.mk_core.proofs.{UnreleasedStorage.storage_is_of, WordBits.{fewer_bits, no_bit}}
pub use Rattle.mk_laws.specs.WordLaws.{HasAllocation, Leaves}
pub use Rattle.mk_laws.proofs.Grounds.{Ground, ground_of}
pub use Rattle.mk_laws.specs.Theorems.{CellsAreClosed}
pub use Rattle.mk_laws.proofs.Guard.{HeaderGoesOn, IsMarking, MarkerStands, ScanStands}
pub use Rattle.mk_laws.proofs.ImagePremises.{ImagePremises, IsPlaceOfNone, MayHoldWords, run_of_allocation}
pub use Rattle.mk_laws.proofs.Images.{Carries, CarriesOwn, ImageScene, IsMet, ProbedOwn, flight_among, has_p, has_r}
pub use Rattle.mk_laws.proofs.{Images.{has_some_p, image_scene_of, is_past_probe, is_put, shown}, ImagesSay.ImagesSay}
pub use Rattle.mk_laws.proofs.{Invariant.Invariant, Kept.GuardPremises}
unfoldable pub use Rattle.mk_laws.proofs.Kept.{GuardPremisesFrom}
pub use Rattle.mk_laws.proofs.{ImageLaws.ImagePremisesAlong, LayoutLaws.{LayoutPremises, StandsInOrder}}
unfoldable pub use Rattle.mk_laws.proofs.LayoutLaws.{LayoutPremisesFrom}
pub use Rattle.mk_laws.proofs.LayoutScene.{Among, AreApart, Claim, HasHeader, HasItsHead, InPlot, IsClaimed, IsLaidOn}
pub use Rattle.mk_laws.proofs.LayoutScene.{IsOfOneCell, IsPlotShown, IsShown, LayoutScene, Mapped, Mode, NoPlot, Plot}
pub use Rattle.mk_laws.proofs.LayoutScene.{PlotStands, Plotted, Unmapping, head_on, header_on, is_released_in}
pub use Rattle.mk_laws.proofs.{LayoutScene.{is_released_on, shows_on, used_on}, Mirrors.Mirrors}
pub use Rattle.mk_laws.specs.Theorems.{run_count}
pub use Rattle.mk_laws.specs.{Releases.through_release, Theorems.has_place}
pub use Rattle.mk_laws.proofs.Protocol.{IsIdle, Protocol, is_decided_free}
pub use Rattle.mk_laws.proofs.{Protocol.is_decided_free_at, Quarantine.{HasQuarantine, IsFreedCell, IsQuarantined}}
pub use Rattle.mk_laws.proofs.Quarantine.{KeepsSnapshot, has_bit_of, is_cycling}
unfoldable pub use Rattle.mk_laws.proofs.Room.{count_below}
pub use Rattle.mk_laws.proofs.{SafeSets.{IsSafe, IsSafeSet}, Terrain.{HasLayout, IsAtCell}}
pub use Rattle.mk_laws.specs.Theorems.{IsSettled}
pub use Rattle.mk_laws.proofs.Terrain.{IsClaimedRun, LayoutStands, RunStands, claim_of, claims_of, claims_on}
pub use Rattle.mk_laws.proofs.Terrain.{claims_placed, is_unmapping, layout_scene_of, mode_of, object_now, place_claim}
pub use Rattle.mk_laws.proofs.{Terrain.plot_of, InvariantLaws.KeepsTheInvariant, ZeroLaws.is_heap_store}
pub use Rattle.mk_laws.specs.Theorems.{OfHistories}
pub use Rattle.mk_laws.proofs.Zeros.{HasZeros, IsFreedWord, IsReleasedWord, MayHold, OfFreedRun}
pub use Rattle.mk_laws.specs.WordLaws.{IsWordOfMapped}
pub use Rattle.mk_laws.proofs.Zeros.{OfMapped, OfReleased, OthersAreZero, ZeroScene, is_released_there, zero_scene_of}
pub use Rattle.mk_laws.proofs.Zeros.{zero_scene_with}
