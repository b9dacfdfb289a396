-- Cycles in the schedules: their parts, their snapshots, and which marks sweep.
use Rattle.mk_core.proofs.Vocabulary.{Bool, Config, Event, List, World, all_below, false, false≢true, flight_of}
use Rattle.mk_core.proofs.Vocabulary.{is_begin, is_close, is_end, is_release, left, left_from, may_turn_black}
use Rattle.mk_core.proofs.Vocabulary.{placed_at, pointed_cell, refl, sym, true, world_behind, [], ◌||◌, ◌∷◌, ◌≡◌}
use Rattle.mk_core.proofs.EventsAt.{at_number, cycle_of, event_number, next_of}
use Rattle.mk_core.proofs.Schedules.{blackened_before_the_move, by, c0, freed_after_begin, host, m0, one_page}
use Rattle.mk_core.proofs.{Schedules.pointer_page, MoreSchedules.{before_the_sweep, exchanged, sweeping_mark}}
use Rattle.mk_core.specs.Cycles.{Cycle, IsInSnapshot, NoneSweeps, NoneSweepsFrom, sweeps}

-- The first cycle is begun in a caller's turn and ended in the host's.
unfoldable pub first_cycle : Cycle freed_after_begin
unfolding by c0 host freed_after_begin event_number at_number
first_cycle = cycle_of (at_number is_begin 15 _ refl refl) (next_of (at_number is_close 15 _ refl refl) refl)
    (next_of (at_number is_release 0 _ refl refl) refl) (next_of (at_number is_end 3 _ refl refl) refl)

-- The second is begun and ended in one turn.
unfoldable pub second_cycle : Cycle freed_after_begin
unfolding by c0 host freed_after_begin event_number at_number
second_cycle = cycle_of (at_number is_begin 42 _ refl refl) (next_of (at_number is_close 1 _ refl refl) refl)
    (next_of (at_number is_release 0 _ refl refl) refl) (next_of (at_number is_end 4 _ refl refl) refl)

-- The first object is freed before the first cycle begins, and the second only after that.
pub in_first_snapshot : IsInSnapshot one_page first_cycle.releasing.marking 0
unfolding by c0 host all_below pointed_cell one_page freed_after_begin left_from event_number at_number first_cycle
in_first_snapshot = refl

pub not_in_first_snapshot : IsInSnapshot one_page first_cycle.releasing.marking 1 → ⊥
unfolding by c0 host all_below pointed_cell one_page freed_after_begin left_from event_number at_number first_cycle
not_in_first_snapshot h = false≢true h

-- When the second cycle begins the first object is released already.
pub second_snapshot : IsInSnapshot one_page second_cycle.releasing.marking 1
    × (IsInSnapshot one_page second_cycle.releasing.marking 0 → ⊥)
unfolding by c0 host all_below pointed_cell one_page freed_after_begin left_from event_number at_number second_cycle
second_snapshot = (refl, λ h. false≢true h)

-- The freed object of the other schedule is in its cycle's snapshot, and isn't released, since a word points to it.
unfoldable pub cycle_of_blackened : Cycle blackened_before_the_move
unfolding by c0 m0 host blackened_before_the_move event_number at_number
cycle_of_blackened = cycle_of (at_number is_begin 34 _ refl refl) (next_of (at_number is_close 50 _ refl refl) refl)
    (next_of (at_number is_release 0 _ refl refl) refl) (next_of (at_number is_end 0 _ refl refl) refl)

-- Sweeping marks: the test along a list, and what it says.

unfoldable pub any_sweeps : Config → World → List Event → Bool
any_sweeps c w [] = false
any_sweeps c w (e ∷ es) = sweeps c w.now (flight_of w.now e.seat) e.step || any_sweeps c (world_behind c w e) es

neither : (a b : Bool) → (a || b) ≡ false → (a ≡ false) × (b ≡ false)
neither true b h = absurd (false≢true (sym h))
neither false b h = (refl, h)

pub none_sweeps : (c : Config) (w : World) (es : List Event) → any_sweeps c w es ≡ false → NoneSweepsFrom c w es
unfolding any_sweeps NoneSweepsFrom
none_sweeps c w [] h = tt
none_sweeps c w (e ∷ es) h =
    let both = neither (sweeps c w.now (flight_of w.now e.seat) e.step) (any_sweeps c (world_behind c w e) es) h in
    (both.0, none_sweeps c (world_behind c w e) es both.1)

-- No mark at all is made in the first cycle, and in the other schedule each is by a register or by a word of a marked
-- cell.
pub first_has_none : NoneSweeps one_page first_cycle.releasing.marking
unfolding by c0 host all_below pointed_cell one_page freed_after_begin left_from event_number at_number first_cycle
    any_sweeps
first_has_none = none_sweeps one_page _ _ refl

pub blackened_snapshot : IsInSnapshot pointer_page cycle_of_blackened.releasing.marking 2
    × ((placed_at (left pointer_page blackened_before_the_move).allocations 2).released ≡ false)
    × NoneSweeps pointer_page cycle_of_blackened.releasing.marking
unfolding by c0 m0 host all_below pointed_cell may_turn_black pointer_page blackened_before_the_move left_from
    event_number at_number cycle_of_blackened any_sweeps
blackened_snapshot = (refl, refl, none_sweeps pointer_page _ _ refl)

-- A word of an object that has no mark, looked at in the stop, gives a sweeping mark.
pub sweeps_there : sweeps pointer_page (left pointer_page before_the_sweep).now
    (flight_of (left pointer_page before_the_sweep).now sweeping_mark.seat) sweeping_mark.step ≡ true
unfolding by c0 host all_below pointed_cell pointer_page exchanged before_the_sweep sweeping_mark left_from
sweeps_there = refl
