-- What others also leave if calls are admitted, in small cases: to a caller in a call the objects that its registers
-- point to, to the turn's holder all words outside the mapped objects, and to a marker all headers.
use Rattle.mk_core.proofs.Vocabulary.{AreOfOthers, Event, IsWordOf, List, Null, Seat, Step, ℕ, all_below, arith}
use Rattle.mk_core.proofs.Vocabulary.{calls_from, false, false≢true, inl, leb-true, left, left_from, ltb-true}
use Rattle.mk_core.proofs.Vocabulary.{never_behind, placed_at, pointed_cell, refl, slice_index, storage_of, subst, suc}
use Rattle.mk_core.{proofs.Vocabulary.{true, zero, [], ◌*◌, ◌++◌, ◌+◌, ◌∷◌, ◌≡◌}, specs.Readings.{Holds}}
use Rattle.mk_core.proofs.{EvaluatedReach.{below_two, leads_into, led_into}, SmallCycles.{by_marker, first_marked}}
use Rattle.mk_core.proofs.SmallCycles.{pointer_written, small, three_objects}
use Rattle.mk_core.proofs.{EvaluatedFrames.{before_probe, turn_taken}, ListTests.list_all-at}
use Rattle.mk_never.specs.{NeverHeap.register_at, Laws.LeadsTo}
use Rattle.mk_core.specs.{Frames.{HeapIsLeft, IsLeft, IsLeftByAdmitted, TargetsAreLeft}, Allocations.is_mapped}

-- A caller in a call, while the host takes the turn: its registers point to the first two objects.

targets : (r a : ℕ) → LeadsTo (register_at (never_behind small before_probe) 0 r) a → below_two a ≡ true
unfolding left_from calls_from all_below pointed_cell three_objects
targets r a leads = led_into below_two (register_at (never_behind small before_probe) 0 r) a
    (list_all-at (leads_into below_two) (never_behind small before_probe).registers Null refl refl (8 * 0 + r)) leads

unreleased : (a : ℕ) → below_two a ≡ true
    → (placed_at (left small (before_probe ++ turn_taken)).allocations a).released ≡ false
unfolding left_from all_below pointed_cell three_objects
unreleased x0 h = grind arith

mapped : (a : ℕ) → below_two a ≡ true
    → is_mapped small (placed_at (left small (before_probe ++ turn_taken)).allocations a) ≡ true
unfolding left_from all_below pointed_cell three_objects
mapped x0 h = grind arith

pub targets_are_left : TargetsAreLeft small before_probe (before_probe ++ turn_taken) 0
unfolding left_from calls_from all_below pointed_cell three_objects
targets_are_left = record {
  unreleased = λ r a lt leads. unreleased a (targets r a leads);
  mapped = λ r a lt leads was. mapped a (targets r a leads);
}

values_are_left : (k r : ℕ) → Seat.Caller 0 ≡ Seat.Caller k → register_at
    (never_behind small (before_probe ++ turn_taken)) k r ≡ register_at (never_behind small before_probe) k r
unfolding left_from calls_from all_below pointed_cell three_objects
values_are_left k r is = refl

same_caller : (k : ℕ) → Seat.Caller 0 ≡ Seat.Caller k → 0 ≡ k
same_caller k is = cc

no_turn : Holds small (left small before_probe).now (Seat.Caller 0) → ⊥
unfolding left_from all_below pointed_cell three_objects
no_turn holds = false≢true holds.1

pub all_is_left_to_caller : IsLeftByAdmitted small (Seat.Caller 0) before_probe (before_probe ++ turn_taken)
all_is_left_to_caller = record {
  registers = λ k r is lt. values_are_left k r is;
  in_call = λ k is in_call. subst (λ i. TargetsAreLeft small before_probe (before_probe ++ turn_taken) i)
      (same_caller k is) targets_are_left;
  turn = λ holds. absurd (no_turn holds);
  held = λ holds k r lt two. absurd (no_turn holds);
  stop = λ all. absurd (no_turn all.0);
  scan = λ attends. absurd attends;
}

-- The host in its turn, while a caller writes to the first object: no word outside the objects changes.

outside : (n : ℕ) → ((i : ℕ) → is_mapped small (placed_at (left small first_marked).allocations i) ≡ true
    → IsWordOf (storage_of small (placed_at (left small first_marked).allocations i)) n → ⊥) → slice_index (left small
    (first_marked ++ pointer_written)).now.words.heap n ≡ slice_index (left small first_marked).now.words.heap n
unfolding left_from all_below pointed_cell three_objects
outside zero none = absurd (none 0 refl (leb-true 0 0 refl, ltb-true 0 2 refl))
outside (suc n) none = refl

pub heap_is_left : HeapIsLeft small (left small first_marked) (left small (first_marked ++ pointer_written))
unfolding left_from all_below pointed_cell three_objects
heap_is_left = record { outside = outside; well = λ marking u well. well }

-- A marker that attends, while that caller writes.

abbrev pub attending : List Event
attending = first_marked ++ by_marker (Step.Attend ∷ [])

pub writers_are_others : AreOfOthers (Seat.Marker 0 ∷ []) pointer_written
unfolding AreOfOthers
writers_are_others = (refl, (refl, (refl, (refl, (refl, tt)))))

pub all_is_left_to_marker : IsLeft small (Seat.Marker 0) attending (attending ++ pointer_written)
unfolding left_from all_below pointed_cell three_objects
all_is_left_to_marker = record {
  own = record { flight = refl; marker = refl; registers = λ k r is lt. absurd cc; holding = λ holds. absurd holds };
  in_call = λ k is in_call. absurd in_call;
  turn = λ holds. absurd holds;
  stop = λ all. absurd all.0;
  scan = λ attends. record { phase = inl refl; marks = λ p k has. has; blacks = λ p k has. has };
  visit = λ is_in. leb-true 1 1 refl;
}

pub headers_are_left_to_marker : IsLeftByAdmitted small (Seat.Marker 0) attending (attending ++ pointer_written)
unfolding left_from all_below pointed_cell three_objects
headers_are_left_to_marker = record {
  registers = λ k r is lt. absurd cc;
  in_call = λ k is in_call. absurd in_call;
  turn = λ holds. absurd holds;
  held = λ holds k r lt two. absurd holds;
  stop = λ all. absurd all.0;
  scan = λ attends. record { some = λ p is. is; cells = λ p u cell is. is; well = λ u well. well };
}
