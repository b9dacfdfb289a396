-- What turn, gates and phase tell along two small cycles: in a call, in a New, in a stop after its `close`, and with a
-- marker in.
use Rattle.mk_core.proofs.Vocabulary.{Event, List, Moment, Op, Seat, Some, Step, ℕ, all_below, arith, eqb-false, false}
use Rattle.mk_core.proofs.Vocabulary.{false≢true, first_moment, flight_of, leb-true, left, left_from, ltb-true, not}
use Rattle.mk_core.proofs.Vocabulary.{not-true, pointed_cell, refl, slice_index, suc, sym, true, zero, zero_words_of}
use Rattle.mk_core.proofs.{Vocabulary.{[], ◌++◌, ◌+◌, ◌<◌, ◌↔◌, ◌∷◌, ◌≡◌, ◌≤◌}, SmallCycles.{begun_in_stop, by_caller}}
use Rattle.mk_core.proofs.SmallCycles.{by_host, first_marked, marked_in_stop, marker_in, small, three_objects}
use Rattle.mk_core.proofs.{SmallCycles.written_beside, ListTests.list_all-at}
use Rattle.mk_core.specs.Readings.{Holds, NoneAttends}
use Rattle.mk_core.proofs.WhoHoldsWhat.{GateTells, PhaseTells, TurnTells, WordsTellWhoHoldsWhat}
use Rattle.mk_core.specs.{Readings.is_in_turn, MarkingConditions.{is_attending, none_attends}}
use Rattle.mk_core.specs.History.{is_gate_held_from}
use Rattle.mk_core.specs.{Moments.outside, declared.seats.Marker.Marker}

-- with one caller

abbrev CallerTells : Moment → Type 0
CallerTells m = (m.words.turn ≡ 1) ↔ (is_in_turn (flight_of m (Seat.Caller 0)) ≡ true)

sole_turn : (m : Moment) → CallerTells m
    → (k : ℕ) → k < 1 → (m.words.turn ≡ 1 + k) ↔ (is_in_turn (flight_of m (Seat.Caller k)) ≡ true)
sole_turn m h zero lt = h
sole_turn m h (suc k) lt = absurd (omega arith)

nobody_holds : (m : Moment) → CallerTells m → m.words.turn ≡ 0 → (s : Seat) → Holds small m s → ⊥
nobody_holds m h free x3 holds = grind (arith, sole_turn, eqb-false)

somebody_holds : (m : Moment) (turn : ℕ) → m.words.turn ≡ turn → CallerTells m → turn ≤ 2
    → ((s : Seat) → Holds small m s → ⊥) → m.words.turn ≡ 0
somebody_holds m zero is h le none = is
somebody_holds m (suc zero) is h le none = absurd (none (Seat.Caller 0) (leb-true 1 1 refl, h.0 is))
somebody_holds m (suc (suc zero)) is h le none = absurd (none Seat.Host is)
somebody_holds m (suc (suc (suc n))) is h le none = absurd (omega arith)

turn_tells : (m : Moment) → m.words.turn ≤ 2 → CallerTells m → TurnTells small m
turn_tells m le h = record {
  least = le;
  caller = sole_turn m h;
  nobody = (nobody_holds m h, somebody_holds m m.words.turn refl h le);
}

sole_gate : (es : List Event) → GateTells small es 0 → (k : ℕ) → k < 1 → GateTells small es k
sole_gate es h zero lt = h
sole_gate es h (suc k) lt = absurd (omega arith)

none_attends_at : (m : Moment) → none_attends m.seats.markers ≡ true → NoneAttends m
none_attends_at m h k =
    not-true _ (list_all-at (λ (x : Marker). not (is_attending x.presence)) m.seats.markers outside h refl k)

-- A caller is in a call, and the host holds the turn.

pub words_tell_in_call : WordsTellWhoHoldsWhat small written_beside
unfolding left_from is_gate_held_from all_below pointed_cell written_beside three_objects
words_tell_in_call = record {
  turn = turn_tells (left small written_beside).now (leb-true 2 2 refl)
      (λ e. absurd (eqb-false 2 1 refl e), λ h. absurd (false≢true h));
  gates = sole_gate written_beside (record {
    least = leb-true 1 2 refl;
    in_call = (λ e. refl, λ h. refl);
    held = (λ e. absurd (eqb-false 1 2 refl e), λ h. absurd (false≢true h));
    by_another = λ e. absurd (eqb-false 1 2 refl e);
  });
  phase = record {
    low = leb-true 1 5 refl;
    high = refl;
    none_in = λ e. none_attends_at (left small written_beside).now refl;
    attends = λ not_marking e. absurd (not_marking refl);
    under_the_turn = λ least most free. eqb-false 2 0 refl free;
    stopped = λ e. absurd (eqb-false 1 3 refl e);
  };
}

-- The caller is in a New.

abbrev pub in_new : List Event
in_new = three_objects ++ by_caller (Step.Take (Some (Op.New 1 0 false)) ∷ [])

pub turn_in_new : TurnTells small (left small in_new).now
unfolding left_from all_below pointed_cell three_objects
turn_in_new = turn_tells (left small in_new).now (leb-true 1 2 refl) (λ e. refl, λ h. refl)

pub gate_in_new : GateTells small in_new 0
unfolding left_from is_gate_held_from all_below pointed_cell three_objects
gate_in_new = record {
  least = leb-true 0 2 refl;
  in_call = (λ e. absurd (eqb-false 0 1 refl e), λ h. absurd (false≢true h));
  held = (λ e. absurd (eqb-false 0 2 refl e), λ h. absurd (false≢true h));
  by_another = λ e. absurd (eqb-false 0 2 refl e);
}

-- nobody holds the turn

pub turn_is_free : TurnTells small (left small three_objects).now
unfolding left_from all_below pointed_cell three_objects
turn_is_free = turn_tells (left small three_objects).now (leb-true 0 2 refl)
    (λ e. absurd (eqb-false 0 1 refl e), λ h. absurd (false≢true h))

-- The caller is stopped, and the marks are closed.

abbrev pub closed_in_stop : List Event
closed_in_stop = begun_in_stop ++ record { seat = Seat.Host; step = Step.Begin }
    ∷ (marked_in_stop ++ by_host (Step.Close ∷ []))

gate_is_held : (k : ℕ) → k < 1 → slice_index (left small closed_in_stop).now.words.gates k ≡ 2
unfolding left_from all_below pointed_cell begun_in_stop three_objects marked_in_stop
gate_is_held zero lt = refl
gate_is_held (suc k) lt = absurd (omega arith)

pub words_tell_in_stop : WordsTellWhoHoldsWhat small closed_in_stop
unfolding left_from is_gate_held_from all_below pointed_cell begun_in_stop three_objects marked_in_stop
words_tell_in_stop = record {
  turn = turn_tells (left small closed_in_stop).now (leb-true 2 2 refl)
      (λ e. absurd (eqb-false 2 1 refl e), λ h. absurd (false≢true h));
  gates = sole_gate closed_in_stop (record {
    least = leb-true 2 2 refl;
    in_call = (λ e. absurd (eqb-false 2 1 refl e), λ h. absurd (false≢true h));
    held = (λ e. refl, λ h. refl);
    by_another = λ e. (eqb-false 2 0 refl, eqb-false 2 1 refl);
  });
  phase = record {
    low = leb-true 3 5 refl;
    high = refl;
    none_in = λ e. none_attends_at (left small closed_in_stop).now refl;
    attends = λ not_marking not_wanted. none_attends_at (left small closed_in_stop).now refl;
    under_the_turn = λ least most free. eqb-false 2 0 refl free;
    stopped = λ e k lt other. gate_is_held k lt;
  };
}

-- A marker is in, and attends.

pub phase_with_marker : PhaseTells small (left small (first_marked ++ marker_in)).now
unfolding left_from all_below pointed_cell three_objects
phase_with_marker = record {
  low = leb-true 1 5 refl;
  high = refl;
  none_in = λ e. absurd (eqb-false 1 0 refl e);
  attends = λ not_marking e. absurd (not_marking refl);
  under_the_turn = λ least most free. eqb-false 2 0 refl free;
  stopped = λ e. absurd (eqb-false 1 3 refl e);
}

pub a_marker_attends : NoneAttends (left small (first_marked ++ marker_in)).now → ⊥
unfolding left_from all_below pointed_cell three_objects
a_marker_attends none = false≢true (sym (none 0))

-- what no history leaves: a turn that nobody holds, a gate that was held without the turn, and a marker that isn't in

turn_of_nobody : TurnTells small (record (first_moment small) { words = record (zero_words_of 1) { turn = 1 } }) → ⊥
turn_of_nobody tells = false≢true ((tells.caller 0 (ltb-true 0 1 refl)).0 refl)

held_without_turn : GateTells small (by_host (Step.Hold 0 ∷ [])) 0 → ⊥
unfolding left_from is_gate_held_from all_below pointed_cell
held_without_turn tells = (tells.by_another refl).0 refl

none_is_in : PhaseTells small (record (first_moment small) { words = record (zero_words_of 1) { phase = 8 } }) → ⊥
none_is_in tells = eqb-false 1 0 refl tells.high
