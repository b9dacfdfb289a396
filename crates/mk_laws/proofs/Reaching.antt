-- Which word an enabled event reaches, and how.
use Rattle.mk_laws.proofs.Vocabulary.{Config, Flight, Marker, Moment, Seat, Step, Word, ℕ, access, and_parts, arith}
use Rattle.mk_laws.proofs.Vocabulary.{caller_number, enabled_meets, flight_of, is_number_of, ltb-true, marker_at}
use Rattle.mk_laws.proofs.Vocabulary.{nat_lt, not, outside, page_met, refl, seat_exists, true, word_accessed, word_met}
use Rattle.mk_laws.proofs.Vocabulary.{◌&&◌, ◌*◌, ◌<◌, ◌≡◌, ◌≤◌}
use Rattle.mk_core.specs.{Layout.{IsOfTable, NamesWord}, Conditions.{is_word, is_word_met}}
use Rattle.mk_laws.proofs.Basics.{Known, Meets, is_grant, known_left, operands_of, register_small}
use Rattle.mk_laws.proofs.ScansInHeap.{MarkerFits, next_in_heap, nothing_fits, scan_page_in_heap, seen_page_in_heap}
use Rattle.mk_laws.proofs.{InHeap.{InHeap, in_heap_left}, Known.Operands, ProtocolFrames.others_leave}
use Rattle.mk_laws.proofs.ReachedWords.{EventsReachTheTable, OthersLeaveAccesses}

-- what is known of a seat

number_small : (c : Config) (seat : Seat) → c.callers ≤ 16 → seat_exists c seat ≡ true → caller_number seat < 16
number_small c seat small h = grind (arith, ltb-true)

seat_operands : (c : Config) (m : Moment) (seat : Seat) → Known c m → Operands (flight_of m seat).op
seat_operands c m seat known = grind (arith, operands_of)

seat_marker : {c : Config} {m : Moment} (seat : Seat) → InHeap c m → MarkerFits c (marker_at m seat)
seat_marker (Marker k) h = h.markers k
seat_marker {c} _ h = nothing_fits c outside refl refl

-- a word that is looked at
looked_at : (c : Config) (x : Word) → c.callers ≤ 16 → is_word c x ≡ true → NamesWord c.pages x
looked_at c x small h = grind (arith, ltb-true, and_parts)

-- the word that a call accesses
met : (c : Config) (f : Flight) → is_word_met c f ≡ true → (word_met f < 64 * c.pages) × (page_met f < c.pages)
met c f h = grind (arith, ltb-true, and_parts)

other_gate : (c : Config) (seat : Seat) (j : ℕ) → c.callers ≤ 16
    → (nat_lt j c.callers && not (is_number_of seat j)) ≡ true → j < 16
other_gate c seat j small h = let lt = ltb-true j c.callers (and_parts _ _ h).0 in omega arith

ruleset reaches_facts = (other_gate, and_parts, next_in_heap, seat_marker, seen_page_in_heap, scan_page_in_heap)

reaches : {c : Config} {m : Moment} (seat : Seat) (x : Step) → Known c m → InHeap c m → Meets c m seat x
    → IsOfTable c.pages (word_accessed c m (record { seat = seat; step = x }))
reaches seat x known heap h =
    grind (arith, reaches_facts, number_small, register_small, seat_operands, met, looked_at, ltb-true)

pub events_reach_the_table : EventsReachTheTable
events_reach_the_table c es e limits on now =
    reaches e.seat e.step (known_left c es limits on) (in_heap_left c es limits on) (enabled_meets c _ e now)

-- the access stays if the call, the marker and a New's place do

same_access : (c : Config) (m n : Moment) (seat : Seat) (x : Step) → flight_of n seat ≡ flight_of m seat
    → marker_at n seat ≡ marker_at m seat → (is_grant x ≡ true → n.seats.holding ≡ m.seats.holding)
    → access c n (record { seat = seat; step = x }) ≡ access c m (record { seat = seat; step = x })
same_access c m n seat x flight marker holding = grind (arith, is_grant)

pub others_leave_accesses : OthersLeaveAccesses
others_leave_accesses c es more e limits on others now =
    let l = (others_leave c es more e.seat limits on others).own in
    grind (arith, same_access, enabled_meets)
