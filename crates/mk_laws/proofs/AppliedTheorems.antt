-- The theorems over all histories, applied to small schedules: what each says there, read off by computation.
use Rattle.std.proofs.Common.{replicate, take-append-drop}
use Rattle.mk_laws.proofs.Vocabulary.{Answer, Config, Event, IsGuarded, IsHeaderWord, IsHistory, IsSettled, IsWordOf}
use Rattle.mk_laws.proofs.Vocabulary.{KeepsTheInvariant, List, NeverState, None, Null, OwesDirty, Place, Some, TurnOf}
use Rattle.mk_laws.proofs.Vocabulary.{Value, WordOf, World, ℕ, all_below, answers_of, append_assoc, arith, asked}
use Rattle.mk_laws.proofs.Vocabulary.{base_made, bases_of, begun_in_stop, by, c0, calls, calls_from, cell_of_allocation}
use Rattle.mk_laws.proofs.Vocabulary.{drop, earlier_part_is_history, eqb-false, event_number, false, free_page}
use Rattle.mk_laws.proofs.Vocabulary.{fresh_words_of, has_bit_of, header_at, in_a_word, inl, is_begin, is_run_gone}
use Rattle.mk_laws.proofs.Vocabulary.{large_freed, large_is_history, leb-true, left, left_from, ltb-true}
use Rattle.mk_laws.proofs.Vocabulary.{marked_in_stop, may_turn_black, never_behind, one_page, placed_at, pointed_cell}
use Rattle.mk_laws.proofs.Vocabulary.{points_well, refl, register_at, replies_of, resident_pages, slice_index, small}
use Rattle.mk_laws.proofs.Vocabulary.{stopped_cycle, stopped_is_history, storage_of, subst, sym, take, three_objects}
use Rattle.mk_laws.proofs.Vocabulary.{three_pages, true, unreleased_storage, uses_of_pages, word_at, word_points_well}
use Rattle.mk_laws.{proofs.Vocabulary.{[], ◌++◌, ◌∙◌, ◌∷◌, ◌≡◌, ◌≤◌}, proofs.Promises.{histories_keep_all_promises}}
use Rattle.mk_laws.proofs.InvariantHistories.{events_keep_the_invariant, histories_keep_the_invariant}
use Rattle.mk_geom.specs.Storages.{words_of_storages}
use Rattle.mk_never.specs.declared.values.Target.{Target}
use Rattle.mk_core.proofs.EvaluatedGuards.{page_is_clean, written_points_badly}
use Rattle.mk_core.proofs.EvaluatedHistories.{exchanged_is_history, freed_is_history, full_is_history, swept_is_history}
use Rattle.mk_core.proofs.EvaluatedReach.{first_is_reached, second_is_reached}
use Rattle.mk_core.proofs.MoreSchedules.{before_the_sweep, exchanged, full_then_reused, sweeping_mark}
use Rattle.mk_core.proofs.Schedules.{answers_freed, freed_after_begin, host, pointer_page}
use Rattle.mk_core.proofs.SmallCycles.{marked_beside, page_dirtied, scanned_again, second_cleared, third_released}
use Rattle.mk_core.proofs.{SmallCycles.written_beside, EventsAt.at_number, SmallHistories.beside_is_history}
use Rattle.mk_core.specs.Allocations.{FitsAmongAllocations, held_by_allocations, place_among_allocations}
use Rattle.mk_core.specs.Placement.{FindsNoPlace, StandsAtItsPlace, before_served, object_at, place_after}
use Rattle.mk_core.specs.{Cells.is_used, Counts.TalliesAreExact, Cycles.BeginsAndEndsIn, History.never_first}
use Rattle.mk_laws.specs.Promises.{KeepsAllPromises}
use Rattle.mk_laws.proofs.Quarantines as quarantines
use Rattle.mk_laws.proofs.InvariantHistories as theorems

-- The first events of a history are one.
pub first_events : {c : Config} {es : List Event} (n : ℕ) → IsHistory c es → IsHistory c (take n es)
first_events {c} {es} n h = earlier_part_is_history c (take n es) (drop n es) (rw (take-append-drop n es) h)

pub large_front : (n : ℕ) → IsHistory three_pages (take n large_freed)
large_front n = first_events n large_is_history

pub stopped_front : (n : ℕ) → IsHistory small (take n stopped_cycle)
stopped_front n = first_events n stopped_is_history

-- The invariant after the first of two lists goes on to the second by one event.
pub invariant_by_one_event : KeepsTheInvariant pointer_page (before_the_sweep ++ sweeping_mark ∷ [])
invariant_by_one_event = events_keep_the_invariant pointer_page before_the_sweep sweeping_mark swept_is_history
    (histories_keep_the_invariant pointer_page before_the_sweep
    (earlier_part_is_history pointer_page before_the_sweep (sweeping_mark ∷ []) swept_is_history))

-- what the lists leave that several theorems are applied to

abbrev pub full : World
full = left one_page full_then_reused

abbrev pub beside : World
beside = left small written_beside

abbrev pub stopped : ℕ → World
stopped count = left small (take count stopped_cycle)

abbrev pub marking : World
marking = left one_page (take 31 freed_after_begin)

-- The images of the replies are these answers.
pub images_of_replies : answers_of (bases_of (left one_page freed_after_begin).allocations) (replies_of
    (never_first one_page) (asked (calls one_page freed_after_begin))) ≡ replicate 7 Answer.Done ++ Answer.Num 0 ∷ []
images_of_replies = sym (theorems.histories_refine_never _ _ freed_is_history) ∙ answers_freed

-- An object that a register leads to is unreleased, and so is one that it leads to by a word.

begun_is_history : IsHistory small begun_in_stop
begun_is_history = earlier_part_is_history small begun_in_stop _ stopped_is_history

pub both_are_kept : ((placed_at (left small begun_in_stop).allocations 0).released ≡ false)
    × ((placed_at (left small begun_in_stop).allocations 1).released ≡ false)
both_are_kept = (
  theorems.reach_is_kept _ _ begun_is_history 0 first_is_reached,
  theorems.reach_is_kept _ _ begun_is_history 1 second_is_reached,
)

-- The first exchange is answered 1, so the values are equal; at the second they aren't, or it would be answered so too.

abbrev word_of_target : NeverState → Target → Value
word_of_target n (WordOf number place) = word_at n number place
word_of_target n _ = Null

pub first_compares_equal : word_at (never_behind pointer_page (take 16 exchanged)) 0 0
    ≡ register_at (never_behind pointer_page (take 16 exchanged)) 0 2
unfolding by c0 all_below pointed_cell pointer_page exchanged left_from calls_from
first_compares_equal = grind (arith, pointer_page, exchanged, exchanged_is_history, word_of_target)

pub second_compares_unequal : word_at (never_behind pointer_page (take 24 exchanged)) 0 0
    ≡ register_at (never_behind pointer_page (take 24 exchanged)) 0 2 → ⊥
unfolding by c0 all_below pointed_cell pointer_page exchanged left_from calls_from
second_compares_unequal same = grind (arith, pointer_page, exchanged, exchanged_is_history, word_of_target)

-- Two objects fill a page: each has its used bit, and no word of one is the other's.

pub two_fill_the_page : (is_used full.now.words (cell_of_allocation one_page (placed_at full.allocations 2)) ≡ true)
    × (IsWordOf (storage_of one_page (placed_at full.allocations 2)) 10 → ⊥)
unfolding by c0 all_below pointed_cell may_turn_black one_page full_then_reused left_from
two_fill_the_page = (
  (theorems.allocations_stand _ _ full_is_history 2 refl).used,
  λ word. grind (arith, eqb-false, one_page, full_then_reused, full_is_history, leb-true, ltb-true),
)

-- The header and the used word of the page, told by the storage of the two, and no place among them, told by the words.
pub full_page_told : (words_of_storages (unreleased_storage one_page full.allocations) 0
    ≡ record { header = 125; used = 3 }) × (place_among_allocations one_page 32 true full.allocations ≡ None)
unfolding by c0 all_below pointed_cell may_turn_black one_page full_then_reused left_from
full_page_told =
    let settled : IsSettled full = record { releasing = refl; placing = refl; unmapped = refl } in (
      sym ((theorems.pages_show_the_storage _ _ full_is_history settled).words 0 free_page (ltb-true 0 1 refl)),
      sym (theorems.first_fit_finds_the_place _ _ full_is_history (record { words = 32; leaf = true }) settled),
    )

-- A large object's pages are unmapped and its words aren't wiped yet. Its run is shown as unmapped, and the next object
-- has its place after it.

abbrev pub unmapped : World
unmapped = left three_pages (take 19 large_freed)

pub unmapped_is_settled : IsSettled unmapped
unfolding by c0 all_below pointed_cell may_turn_black three_pages large_freed left_from
unmapped_is_settled = record { releasing = refl; placing = refl; unmapped = refl }

pub unmapped_run_told : (is_run_gone unmapped.now.words unmapped.now.seats.holding.freed ≡ false)
    × (words_of_storages (unreleased_storage three_pages unmapped.allocations) 0 ≡ record { header = 43; used = 1 })
    × (place_among_allocations three_pages 64 true unmapped.allocations
    ≡ Some (record { page = 2; index = 0; carve = true }))
unfolding by c0 all_below pointed_cell may_turn_black three_pages large_freed left_from
unmapped_run_told = (
  refl,
  sym ((theorems.pages_show_the_storage _ _ (large_front 19) unmapped_is_settled).words 0 free_page
      (ltb-true 0 3 refl)),
  sym (theorems.first_fit_finds_the_place _ _ (large_front 19) (record { words = 64; leaf = true })
      unmapped_is_settled),
)

-- A word of a black object points to an unmarked one, and its page isn't dirty: so a call owes the page its dirty mark.

beside_begins : IsHistory small written_beside
unfolding marked_beside written_beside three_objects
beside_begins =
    earlier_part_is_history small written_beside ((page_dirtied ++ second_cleared ++ scanned_again) ++ third_released)
    (subst (λ (es : List Event). IsHistory small es)
    (append_assoc written_beside (page_dirtied ++ second_cleared ++ scanned_again) third_released) beside_is_history)

written_is_guarded : IsGuarded small beside.now 0
unfolding left_from all_below pointed_cell written_beside three_objects
written_is_guarded = theorems.black_cells_are_guarded _ _ beside_begins (inl refl) 0 0 0
    (ltb-true 0 32 refl) refl refl (ltb-true 0 2 refl)

pub a_call_owes_dirty : (k : ℕ) × OwesDirty beside.now k 0
a_call_owes_dirty = grind (arith, written_is_guarded, written_points_badly, page_is_clean)

-- Before a `close` the word that leads from the first object to the second points well, and after it too.

pub point_well_at_close : (word_points_well small.pages (stopped 47).now.words 0 ≡ true)
    × (points_well small.pages (stopped 48).now.words (slice_index (stopped 48).now.words.registers 0) ≡ true)
unfolding left_from all_below pointed_cell begun_in_stop three_objects marked_in_stop
point_well_at_close = (
  grind (arith, small, stopped_cycle, stopped_is_history, leb-true, ltb-true),
  (theorems.marks_stay_closed _ _ (stopped_front 48) refl).registers 0,
)

-- Header words, and how many pages are resident.

pub head_of_a_run : IsHeaderWord (header_at (left three_pages large_freed).now.words 0)
head_of_a_run = quarantines.pages_have_header_words _ _ large_is_history 0

pub one_is_resident : resident_pages (uses_of_pages full.now.words.pages) ≤ 1
unfolding one_page
one_is_resident = quarantines.few_pages_are_resident _ _ full_is_history

-- Before the first `close` the first object, which was freed before the `begin`, has its snapshot bit; the second,
-- freed after it, has none.

pub first_alone_in_snapshot : (has_bit_of one_page marking.now.words.snapshot (placed_at marking.allocations 0) ≡ true)
    × (has_bit_of one_page marking.now.words.snapshot (placed_at marking.allocations 1) ≡ false)
unfolding by c0 host all_below pointed_cell one_page freed_after_begin left_from event_number at_number
first_alone_in_snapshot =
    let told = quarantines.snapshot_is_the_cycles _ _ (first_events 31 freed_is_history)
    (at_number is_begin 15 (take 31 freed_after_begin) refl refl) refl refl in
    (told 0 refl, told 1 refl)

-- The promises on placement and tallies, applied to a small schedule: what each says there, read off.

kept : KeepsAllPromises one_page full_then_reused
kept = histories_keep_all_promises _ _ full_is_history

-- The second object is granted at word 32: this is where first fit had its place before the first step that served it.

second_grant : StandsAtItsPlace one_page (take 8 full_then_reused) c0
unfolding by c0 event_number one_page full_then_reused
second_grant = kept.placed (take 8 full_then_reused) (event_number 8 full_then_reused) (drop 9 full_then_reused) refl
    refl

pub record HadItsPlaceAt (base : ℕ) : Type 0 where
  pub front : List Event
  pub place : Place
  pub fits : place_after one_page front (object_at one_page (take 8 full_then_reused) c0) ≡ Some place
  pub is : base_made (object_at one_page (take 8 full_then_reused) c0) place ≡ base

pub second_had_its_place : HadItsPlaceAt 32
unfolding by c0 all_below pointed_cell may_turn_black one_page full_then_reused left_from
second_had_its_place = record {
  front = before_served second_grant.turn second_grant.first;
  place = second_grant.place;
  fits = second_grant.fits;
  is = sym second_grant.base;
}

-- The third New is full: a cycle was begun and ended in its turn, and no place is left.

third_full : FindsNoPlace one_page (take 31 full_then_reused) c0
unfolding by c0 event_number one_page full_then_reused
third_full = kept.full (take 31 full_then_reused) (event_number 31 full_then_reused) (drop 32 full_then_reused) refl
    refl

pub third_had_a_cycle : (t : TurnOf one_page c0 (take 31 full_then_reused)) × BeginsAndEndsIn t
third_had_a_cycle = (third_full.turn, third_full.cycle)

pub third_fits_nowhere : FitsAmongAllocations one_page 32 true (left one_page (take 31 full_then_reused)).allocations
    → ⊥
unfolding by c0 all_below pointed_cell may_turn_black one_page full_then_reused left_from
third_fits_nowhere = third_full.no_fit

-- After that cycle two objects are held and none is fresh, as the tallies have it at the `give`.

third_give : TalliesAreExact one_page (take 33 full_then_reused)
unfolding by c0 event_number one_page full_then_reused
third_give = kept.tallies (take 33 full_then_reused) (event_number 33 full_then_reused) (drop 34 full_then_reused) refl
    refl

pub two_are_held : (held_by_allocations one_page (left one_page (take 33 full_then_reused)).allocations ≡ 64)
    × (in_a_word (fresh_words_of one_page (left one_page (take 33 full_then_reused)).allocations) ≡ 0)
unfolding by c0 all_below pointed_cell may_turn_black one_page full_then_reused left_from
two_are_held = (sym third_give.held, sym third_give.fresh)
