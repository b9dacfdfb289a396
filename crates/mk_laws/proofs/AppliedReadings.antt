-- What headers, snapshots, releases and free words tell on small schedules, read off from the theorems.
use Rattle.mk_laws.proofs.Vocabulary.{At, Bool, Cell, Event, HasAllocation, IsHistory, IsTaken, Releasing, RunPages}
use Rattle.mk_laws.proofs.Vocabulary.{Seat, Some, Step, World, ℕ, all_below, arith, before_release, begun_in_stop, by}
use Rattle.mk_laws.proofs.Vocabulary.{c0, calls_from, cell_of_allocation, drop, earlier_part_is_history, eqb-false}
use Rattle.mk_laws.proofs.Vocabulary.{event_number, false, false≢true, header_in, is_begin, is_freed, is_quarantined}
use Rattle.mk_laws.proofs.Vocabulary.{large_freed, large_is_history, leb-true, left, left_from, list_any}
use Rattle.mk_laws.proofs.Vocabulary.{list_any-append, ltb-true, marked_in_stop, may_turn_black, one_page, or_parts}
use Rattle.mk_laws.proofs.Vocabulary.{placed_at, pointed_cell, refl, register_word, run_headed, slice_index, small}
use Rattle.mk_laws.proofs.Vocabulary.{stopped_cycle, stopped_is_history, sym, take, three_objects, three_pages, true}
use Rattle.mk_laws.proofs.{Vocabulary.{words_are_zero, ◌<◌, ◌≡◌, ◌≤◌}, AppliedTheorems.{large_front, stopped_front}}
use Rattle.mk_laws.proofs.{AppliedTheorems.unmapped_is_settled, Releases.{no_others_release, releases_are_exact}}
use Rattle.mk_laws.proofs.{Releases.releases_none_reached, FreeWords.unmapped_words_are_zero}
use Rattle.mk_laws.proofs.{ReadingsStands.headers_and_quarantine_tell, ReleasedCycles.releases_are_of_cycles}
use Rattle.mk_laws.{proofs.Settled.{unmapped_run}, specs.WordLaws.{IsNeverSet}}
use Rattle.mk_never.specs.Laws.{by_register, by_word}
use Rattle.mk_core.proofs.EvaluatedCycles.{cycle_of_blackened, first_cycle, in_first_snapshot, not_in_first_snapshot}
use Rattle.mk_core.proofs.EvaluatedHistories.{blackened_is_history, freed_is_history, marking_is_history}
use Rattle.mk_core.proofs.Schedules.{blackened_before_the_move, freed_after_begin, host, m0, pointer_page}
use Rattle.mk_core.proofs.{EvaluatedFreed.{third_cell, third_is_freed}, EventsAt.{at_number, events_from}}
use Rattle.mk_core.proofs.MoreSchedules.{granted_while_marking, two_pages}
use Rattle.mk_core.specs.{Cells.is_in_snapshot, Readings.SnapshotTells}
use Rattle.mk_laws.specs.{WordLaws.{IsOfUnmappedRun, is_resident_in}, Releases.allocation_behind}
use Rattle.mk_laws.proofs.FreeWords as cells
use Rattle.mk_laws.proofs.Snapshots as snapshots
use Rattle.mk_laws.proofs.FreePages as pages
use Rattle.mk_laws.proofs.UnmappedRuns as runs
use Rattle.mk_laws.proofs.UnsetWords as words

-- what the lists leave that several theorems are applied to

abbrev pub marked : World
marked = left small (take 47 stopped_cycle)

abbrev pub back : World
back = left one_page freed_after_begin

abbrev pub wiped : World
wiped = left three_pages (take 20 large_freed)

-- Headers and freed bits.

-- The second page of a run of two says that the first is its head.
pub later_page_has_its_head : (run : RunPages)
    × (run_headed (header_in (left three_pages (take 4 large_freed)).now.words 0) 0 ≡ Some run) × (1 < run.count)
    × (1 ≤ 1)
unfolding by c0 all_below pointed_cell three_pages large_freed left_from
later_page_has_its_head =
    (headers_and_quarantine_tell _ _ (large_front 4)).later (λ e. eqb-false 0 4 refl e) 1 1 true refl

three_is_history : IsHistory small three_objects
unfolding begun_in_stop three_objects
three_is_history = earlier_part_is_history small three_objects (drop 24 stopped_cycle) stopped_is_history

-- The one freed bit is that of a freed object, which has it.
pub freed_bit_is_of_a_freed_one : ((a : IsTaken (left small three_objects) third_cell)
    × ((placed_at (left small three_objects).allocations a.number).freed ≡ true))
    × (is_freed (left small three_objects).now.words third_cell ≡ true)
unfolding left_from all_below pointed_cell three_objects
freed_bit_is_of_a_freed_one =
    let told = headers_and_quarantine_tell _ _ three_is_history in (
      told.freed (λ e. eqb-false 0 4 refl e) third_cell third_is_freed,
      told.quarantined third_cell (record { number = 2; in_range = ltb-true 2 32 refl; stands = refl }) refl,
    )

-- Before the `close` the third object's snapshot bit is set, and it is the one.

abbrev pub begun : At is_begin (take 47 stopped_cycle)
unfolding begun_in_stop three_objects marked_in_stop event_number at_number
begun = at_number is_begin 39 (take 47 stopped_cycle) refl refl

told : SnapshotTells small begun
unfolding begun_in_stop three_objects marked_in_stop event_number at_number
told = snapshots.snapshots_tell _ _ (stopped_front 47) begun refl

pub third_in_snapshot : (is_in_snapshot marked.now.words
    (cell_of_allocation small (placed_at (left small begun.before).allocations 2)) ≡ true)
    × ((i : ℕ) × (is_quarantined (placed_at (left small begun.before).allocations i) ≡ true)
    × (cell_of_allocation small (placed_at (left small begun.before).allocations i) ≡ third_cell))
unfolding left_from all_below pointed_cell begun_in_stop three_objects marked_in_stop event_number at_number
third_in_snapshot = (told.has 2 refl, told.is third_cell refl)

-- The first `release` releases the object that was freed before the `begin`, and not the one freed after it.

pub first_alone_is_released : ((allocation_behind one_page first_cycle.releasing 0).released ≡ true)
    × ((allocation_behind one_page first_cycle.releasing 1).released ≡ true → ⊥)
unfolding by c0 host all_below pointed_cell one_page freed_after_begin left_from event_number at_number first_cycle
first_alone_is_released =
    let exact = releases_are_exact _ _ freed_is_history first_cycle.releasing in
    ((exact 0 refl).1 (in_first_snapshot, refl), λ gone. not_in_first_snapshot ((exact 1 refl).0 gone).0)

-- The other schedule's keeps a freed object to which a word leads: it is marked, and it is reached.

pub marked_is_not_released : ((allocation_behind pointer_page cycle_of_blackened.releasing 2).released ≡ true → ⊥)
    × ((allocation_behind pointer_page cycle_of_blackened.releasing 2).released ≡ false)
unfolding by c0 m0 host all_below pointed_cell may_turn_black pointer_page blackened_before_the_move left_from
    calls_from event_number at_number cycle_of_blackened
marked_is_not_released = (
  λ gone. false≢true
      (sym ((releases_are_exact _ _ blackened_is_history cycle_of_blackened.releasing 2 refl).0 gone).1),
  releases_none_reached _ _ blackened_is_history cycle_of_blackened.releasing 2
      (by_word 0 0 2 (by_register 0 0 refl) (refl, refl)),
)

-- The `begin` of that cycle releases none.
pub begin_releases_none : (placed_at (left one_page (take 16 freed_after_begin)).allocations 0).released ≡ false
unfolding by c0 host all_below pointed_cell one_page freed_after_begin left_from
begin_releases_none = no_others_release _ _ freed_is_history (take 15 freed_after_begin)
    (drop 16 freed_after_begin) (record { seat = c0; step = Step.Begin }) refl refl 0 refl

-- Each `release` has its cycle.
pub release_has_its_cycle : (r : Releasing freed_after_begin) × (before_release r ≡ take 32 freed_after_begin)
unfolding by c0 host freed_after_begin
release_has_its_cycle = releases_are_of_cycles _ _ freed_is_history _ _ Seat.Host refl

-- Words that are 0: those of the cell that was given back,

abbrev second_cell : Cell
second_cell = record { page = 0; index = 1 }

pub given_back_is_zero : words_are_zero back.now.words 32 32 ≡ true
unfolding by c0 host all_below pointed_cell one_page freed_after_begin left_from
given_back_is_zero = grind (arith, freed_is_history, eqb-false, second_cell, ltb-true)

-- one of the four after ten cells of 6 words,
pub behind_cells_is_zero : slice_index (left two_pages granted_while_marking).now.words.heap 126 ≡ 0
unfolding by c0 all_below pointed_cell two_pages granted_while_marking left_from
behind_cells_is_zero =
    cells.words_behind_cells_are_zero _ _ marking_is_history (λ e. eqb-false 1 4 refl e) 126 (leb-true 60 62 refl)

-- one of a free page, and, once its run is wiped, the word that was written to of a freed large object.
pub free_page_is_zero : (slice_index (left three_pages large_freed).now.words.heap 150 ≡ 0)
    × (slice_index wiped.now.words.heap 64 ≡ 0)
unfolding by c0 all_below pointed_cell three_pages large_freed left_from
free_page_is_zero = (
  cells.words_behind_cells_are_zero _ _ large_is_history (λ e. eqb-false 0 4 refl e) 150 (leb-true 0 22 refl),
  grind (arith, unmapped_words_are_zero, large_front, eqb-false),
)

-- What is promised of pages, and of words that nobody has, on the schedule of a large object, read off from the
-- theorems.

-- The object's second page is marked dirty: the object stands there.

pub object_is_there : HasAllocation three_pages (left three_pages (take 12 large_freed)) 1
unfolding by c0 all_below pointed_cell three_pages large_freed left_from
object_is_there = pages.dirty_pages_have_allocations _ _ (large_front 12) 1
    (λ z. let no : ◌≡◌ {A = ℕ} 1 0 = z in absurd (omega arith))

-- Both pages are given back in the cycle: the dirty word of the second is 0 then, as its header is.

pub page_is_clean : slice_index (left three_pages (take 46 large_freed)).now.words.dirty 1 ≡ 0
unfolding by c0 all_below pointed_cell may_turn_black three_pages large_freed left_from
page_is_clean = (pages.free_pages_have_nothing _ _ (large_front 46) 1 refl).dirty

-- A third caller isn't there, and no global is stored to.

pub third_has_no_register : register_word (left three_pages large_freed).now.words 2 0 ≡ 0
unfolding three_pages
third_has_no_register = words.registers_of_no_caller_are_zero _ _ large_is_history 2 0 (leb-true 2 2 refl)

is_setg : Step → Bool
is_setg Step.Setg = true
is_setg _ = false

none_is_set : list_any (λ (e : Event). is_setg e.step) large_freed ≡ false
unfolding by c0 large_freed is_setg
none_is_set = refl

never_set : (g : ℕ) → IsNeverSet three_pages large_freed g
unfolding is_setg
never_set g front rest seat is set = grind (arith, list_any-append, is_setg, or_parts, none_is_set)

pub global_is_zero : slice_index (left three_pages large_freed).now.words.globals 5 ≡ 0
global_is_zero = words.unset_globals_are_zero _ _ large_is_history 5 (never_set 5)

-- The object's second page takes no memory from the event that unmaps it on, up to the next New, which takes it again.

second_is_unmapped : IsOfUnmappedRun three_pages (left three_pages (take 19 large_freed)) 1
unfolding by c0 all_below pointed_cell may_turn_black three_pages large_freed left_from
second_is_unmapped = grind (arith, leb-true, ltb-true, unmapped_run, three_pages, large_freed, unmapped_is_settled)

pub second_takes_no_memory : is_resident_in (left three_pages (take 50 large_freed)) 1 ≡ false
unfolding by c0 large_freed events_from
second_takes_no_memory =
    runs.unmapped_runs_take_no_memory _ _ (large_front 50) (take 19 large_freed)
    (events_from 19 31 large_freed) 1 refl second_is_unmapped refl
