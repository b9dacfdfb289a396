-- The words of the heap and of its steps, for what is proved of them here: a proof imports them from here.
pub use Rattle.std.proofs.Common.{Bool, List, None, Option, Some, ℕ, ap, append-nil, arith, bit_and, drop, eqb-true}
pub use Rattle.std.proofs.Common.{false, if◌then◌else◌, inl, inr, le-leb, leb-true, length, ltb-true, map, nat_le}
pub use Rattle.std.proofs.Common.{nat_lt, ne_eqb, not, refl, replicate, slice_index, slice_index_or, slice_set, subst}
pub use Rattle.std.proofs.Common.{suc, sym, take, true, true≢false, zero, [], ◌%◌, ◌&&◌, ◌*◌, ◌++◌, ◌+◌, ◌-◌, ◌/◌, ◌<◌}
pub use Rattle.std.proofs.{Common.{◌==◌, ◌^◌, ◌||◌, ◌↔◌, ◌∙◌, ◌∷◌, ◌≡◌, ◌≢◌, ◌≤◌, ◌⊎◌}, Math.Bool.and-false}
pub use Rattle.std.proofs.lemmas.Bool.{and_from, and_parts, cases_Bool, cases_eq, cond-false, cond-true, eqb-false}
pub use Rattle.std.proofs.lemmas.Bool.{false≢true, not-true, Decides.nat_tests}
pub use Rattle.std.{proofs.lemmas.List.{get_or_append_left, length-replicate}, specs.List.{list_all, list_any}}
pub use Rattle.mk_geom.proofs.ClassTable.{cell_ends}
pub use Rattle.mk_geom.specs.{declared.pages.Place.Place, Addresses.page_at_address}
pub use Rattle.mk_geom.specs.Addresses.{cells_of, class_words_of}
pub use Rattle.mk_geom.specs.{Storages.{IsWordOf, cell_of_storage, Storage}, declared.addresses.Cell.Cell}
pub use Rattle.mk_geom.specs.declared.headers.Header.{Header, TheVariants.{Block, Free, Later}}
pub use Rattle.mk_geom.specs.declared.{headers.Header.TheVariants.{LeafBlock, LeafRun, Run}, pages.Page.Page}
pub use Rattle.mk_never.specs.{NeverHeap.NeverState, Types.kinds_of, declared.operations.Op.Op}
pub use Rattle.mk_never.specs.declared.{types.Kind.TheVariants.To, values.Value.Value}
pub use Rattle.mk_never.specs.declared.values.Value.TheVariants.{Null, Ptr}
pub use Rattle.mk_core.specs.Allocations.{PlacedAllocation, never_granted, placed_at, stands_in, storage_of}
unfoldable pub use Rattle.mk_core.specs.Allocations.{unreleased_storage}
pub use Rattle.mk_core.specs.Words.{has_bit}
unfoldable pub use Rattle.mk_core.specs.Words.{all_below}
pub use Rattle.mk_core.specs.Cells.{cell_words, cells_under, first_word, header_in, points_well, word_points_well}
pub use Rattle.mk_core.specs.Cells.{words_are_zero, words_under}
unfoldable pub use Rattle.mk_core.specs.Cells.{pointed_cell}
pub use Rattle.mk_core.specs.{Moments.IsWithinLimits, Cycles.{Marking, is_begin, is_close, is_end, is_give, is_release}}
pub use Rattle.mk_core.specs.{Calls.{answered, asked}, Enabled.{IsEnabled, failing}}
unfoldable pub use Rattle.mk_core.specs.History.{AreOfOthers}
pub use Rattle.mk_core.specs.History.{IsHistory, World, calls, first_world, left, never_behind, never_first}
pub use Rattle.mk_core.specs.History.{world_behind}
unfoldable pub use Rattle.mk_core.specs.History.{AreEnabledFrom, calls_from, left_from}
pub use Rattle.mk_core.specs.{Moments.{Moment, first_moment, flight_of, is_phase}, NewPlaces.{base_made, class_made}}
pub use Rattle.mk_core.specs.NewPlaces.{header_made, is_small_object, object_made, pages_made, stands, unmapped_header}
pub use Rattle.mk_core.specs.{Allocations.{IsHeaderOf, IsSized, cells_made, words_made}, Placement.StandsAtItsPlace}
unfoldable pub use Rattle.mk_core.specs.Placement.{NoneServesFrom}
pub use Rattle.mk_core.specs.History.{CoreState}
pub use Rattle.mk_core.specs.Allocations.{BeginsAtCell, HasItsHeaders, StandsOnHeap, object_placed}
unfoldable pub use Rattle.mk_core.specs.MarkingConditions.{may_turn_black}
pub use Rattle.mk_core.specs.{Cycles.IsClosedAlong, TurnConditions.place_now, Words.{Words, header_at}}
pub use Rattle.mk_core.specs.{Words.{quarantine_word, zero_words_of}, declared.accesses.Access.Access}
pub use Rattle.mk_core.specs.declared.accesses.{Access.TheVariants.{Load, Store}, TableWord.TableWord}
pub use Rattle.mk_core.specs.declared.{accesses.TableWord.TheVariants.{Named, Turn}, config.Config.Config}
pub use Rattle.mk_core.specs.declared.events.{Answer.Answer, Event.Event, Seat.Seat}
pub use Rattle.mk_core.specs.declared.events.{Step.Step, Tally.Tally, Word.Word}
pub use Rattle.mk_core.specs.declared.seats.{Flight.Flight, Object.Object}
