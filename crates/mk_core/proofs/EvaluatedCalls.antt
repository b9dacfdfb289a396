-- Calls among events of other seats: gates that are held, what a call has found, and lists that go on.
use Rattle.std.proofs.lemmas.List.{append_cancel_left}
use Rattle.mk_core.proofs.Vocabulary.{AreOfOthers, Event, List, None, Op, Step, Word, all_below, false, false≢true}
use Rattle.mk_core.proofs.Vocabulary.{left_from, may_turn_black, pointed_cell, refl, subst, sym, take, true, [], ◌++◌}
use Rattle.mk_core.proofs.{Vocabulary.{◌∷◌, ◌≡◌}, Schedules.{blackened_before_the_move, by, c0, fault, first_fault}}
use Rattle.mk_core.proofs.{Schedules.{freed_after_begin, host, m0, one_page, pointer_page}, EventsAt.events_from}
use Rattle.mk_core.specs.History.{Grows, in_this_call, own_from, is_gate_held, is_gate_held_from}

-- In a call of its own a caller's gate isn't held. It is after the host's `hold`, and no longer after its `open`.
pub gate_along : (is_gate_held one_page 0 (take 23 freed_after_begin) ≡ false)
    × (is_gate_held one_page 0 (take 30 freed_after_begin) ≡ true) × (is_gate_held one_page 0 freed_after_begin ≡ false)
unfolding by c0 host all_below pointed_cell one_page freed_after_begin is_gate_held_from
gate_along = (refl, refl, refl)

-- A `hold` of a caller that is in a call finds its gate taken, and holds nothing.
unfoldable pub hold_in_vain : List Event
hold_in_vain = take 23 freed_after_begin ++ by host (Step.Take None ∷ Step.Hold 0 ∷ [])

pub hold_is_in_vain : (first_fault one_page hold_in_vain ≡ None) × (is_gate_held one_page 0 hold_in_vain ≡ false)
unfolding first_fault fault by c0 host all_below pointed_cell one_page freed_after_begin hold_in_vain is_gate_held_from
hold_is_in_vain = (refl, refl)

-- The marker scans the first object while the caller loads the pointer in the second.
unfoldable pub before_the_load : List Event
before_the_load = take 41 blackened_before_the_move

unfoldable pub load_among_a_scan : List Event
load_among_a_scan = by c0 (Step.Enter (Op.GetPtr 2 1 0) ∷ []) ++ by m0 (Step.Attend ∷ Step.Mlook (Word.Head 0) ∷ [])
    ++ by c0 (Step.Reg ∷ []) ++ by m0 (Step.Claim 0 0 ∷ Step.Mload ∷ []) ++ by c0 (Step.Probe ∷ [])
    ++ by m0 (Step.Mload ∷ Step.Mblack ∷ Step.Quit ∷ []) ++ by c0 (Step.Read ∷ [])

-- The caller's own steps have found its gate free, the address of the second object, at heap word 2, the header of
-- cells of 2 words, and the address of the third object, at heap word 4.
pub load_finds : (first_fault pointer_page (before_the_load ++ load_among_a_scan) ≡ None)
    × (in_this_call pointer_page c0 before_the_load load_among_a_scan
    ≡ record { event = record { seat = c0; step = Step.Enter (Op.GetPtr 2 1 0) }; found = 0 }
    ∷ record { event = record { seat = c0; step = Step.Reg }; found = 65552 }
    ∷ record { event = record { seat = c0; step = Step.Probe }; found = 1 }
    ∷ record { event = record { seat = c0; step = Step.Read }; found = 65568 } ∷ [])
unfolding first_fault fault by c0 m0 all_below pointed_cell may_turn_black pointer_page blackened_before_the_move
    before_the_load load_among_a_scan left_from own_from
load_finds = (refl, refl)

-- The seven events of the marker are of others than the caller, and not of others than the marker.
pub scan_is_of_others : AreOfOthers (c0 ∷ host ∷ []) (events_from 41 7 blackened_before_the_move)
unfolding by c0 m0 host blackened_before_the_move events_from AreOfOthers
scan_is_of_others = (refl, (refl, (refl, (refl, (refl, (refl, (refl, tt)))))))

pub scan_is_of_the_marker : AreOfOthers (m0 ∷ []) (events_from 41 7 blackened_before_the_move) → ⊥
unfolding by c0 m0 host blackened_before_the_move events_from AreOfOthers
scan_is_of_the_marker h = false≢true (sym h.0)

pub grows_for_the_caller : Grows (c0 ∷ host ∷ []) before_the_load (take 48 blackened_before_the_move)
unfolding by c0 m0 host blackened_before_the_move before_the_load events_from
grows_for_the_caller =
    record { more = events_from 41 7 blackened_before_the_move; is = refl; of_others = scan_is_of_others }

pub not_for_the_marker : Grows (m0 ∷ []) before_the_load (take 48 blackened_before_the_move) → ⊥
unfolding by c0 m0 host blackened_before_the_move before_the_load events_from
not_for_the_marker h = scan_is_of_the_marker (subst (λ (es : List Event). AreOfOthers (m0 ∷ []) es)
    (sym (append_cancel_left before_the_load (events_from 41 7 blackened_before_the_move) h.more h.is)) h.of_others)
