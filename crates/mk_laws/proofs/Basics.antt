-- What most of these proofs name of the others: moments and moves, pages and claims, images and their moves.
pub use Rattle.mk_laws.proofs.Actors.{Actor, AsHolder, AsMarker, InCallOf, Meets, grants_new, is_holders, others_held}
pub use Rattle.mk_laws.proofs.{Ground.{Came, IsNew, Stayed}, ChangedScenes.{changed_words, none_released}}
pub use Rattle.mk_laws.proofs.Changes.{Table, headers_kind, is_head, reg_table, tally_table}
pub use Rattle.mk_laws.proofs.{Claims.{LeavesCells, claim_among, same_cell}, Freed.{freeing_leaves, gone_terrain}}
pub use Rattle.mk_laws.proofs.Induction.{along_others, KeptByEvents, before_it, holds_of_histories}
pub use Rattle.mk_laws.proofs.ImagesBefore.{ready_of, unmapped_is, words_fit, Stands, stands_of}
pub use Rattle.mk_laws.proofs.{ImagesKept.{base_at, exists_placed}, ImagesMoves.{Frees, Grants, Move, Releases, Renews}}
pub use Rattle.mk_laws.proofs.{ImagesMoves.Writes, KeptGuard.Keeps, Known.{Known, known_at_first, known_behind}}
pub use Rattle.mk_laws.proofs.{Known.{known_left, operands_of, register_small}, KnownWorlds.{KnownWorld, known_world}}
pub use Rattle.mk_laws.proofs.LayoutBefore.{Before, is_releasing_behind, page_within, reg_leaves, reg_leaves_ground}
pub use Rattle.mk_laws.proofs.LayoutHolders.{first_header, free_has_turn, holding_object, made_sized, new_has_turn}
pub use Rattle.mk_laws.proofs.{LayoutHolders.{no_run, none_on_its_way, placed_undecided}, Serving.{apart_left, Laid}}
pub use Rattle.mk_laws.proofs.{Serving.{own_claim, placed_claim}, LayoutReadings.{claimed, claimed_some, none_set}}
pub use Rattle.mk_laws.proofs.{LayoutReadings.{zero_unless, zero_where_none}, MappedWords.mapped_stays}
pub use Rattle.mk_laws.proofs.{NewPlace.{held_place, new_holds}, NextSteps.{at_its_stage, at_no_take, at_reg}}
pub use Rattle.mk_laws.proofs.Orderly.{Orderly, same_holder, shows_at, turn_of, marker_set}
pub use Rattle.mk_laws.proofs.{OrderlyLists.{actor_of, at_first, not_astray}, OthersMoves.WorldBehind}
pub use Rattle.mk_laws.proofs.Releasing.{headed_other, used_header, with_header_on, with_used_on}
pub use Rattle.mk_laws.proofs.{Phases.{either_phase, over_phase}, ProtocolStepKinds.{begin_is, is_grant, release_is}}
pub use Rattle.mk_laws.proofs.{QuarantineSteps.bit_cases, Reached.PagesShow, Ready.{Leads, Ready, either_leads}}
pub use Rattle.mk_laws.proofs.{Ready.pointed_word, Refusals.goes_bare, RegMoves.flight}
pub use Rattle.mk_laws.proofs.Released.{all_stand, releasing_leaves, IsStanding, ends_on_pages}
pub use Rattle.mk_laws.proofs.{SameWords.{Behind, reg_keeps, tally_keeps}, Stages.{calls_stand, is_call_stage}}
pub use Rattle.mk_laws.proofs.Standings.{InCall, in_call_told, is_astray, standing, standing_at}
pub use Rattle.mk_laws.proofs.{Views.{HoldsTurn, View, flight_in, gate_in, view_of}, Wells.wells_from}
pub use Rattle.mk_core.proofs.RegisterAccesses.{tally_leaves as tally_ground}
