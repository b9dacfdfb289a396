-- What is touched in a small cycle: by a register, by a word of another object, and not at all, which is in the
-- snapshot.
use Rattle.mk_core.proofs.Vocabulary.{Event, IsClosedAlong, Marking, Seat, Step, Tally, all_below, append-nil}
use Rattle.mk_core.proofs.Vocabulary.{calls_from, false, false≢true, is_close, leb-true, left_from, list_any, ltb-true}
use Rattle.mk_core.proofs.Vocabulary.{pointed_cell, refl, sym, true, [], ◌++◌, ◌∷◌, ◌≡◌}
use Rattle.mk_core.proofs.{ListTests.{all_fronts, numbered_all}, SmallCycles.{begun_in_stop, by_host, marked_in_stop}}
use Rattle.mk_core.proofs.{SmallCycles.{small, stopped_cycle, third_released, three_objects}, EvaluatedReach.below_two}
use Rattle.mk_core.proofs.{Touched.touched_is_least, TouchedTests.closed_along_by_test}
use Rattle.mk_core.specs.Cycles.{IsTouched, LeadsToMoment, by_register, by_word, IsInSnapshot, through}

pub none_closes : list_any (λ (e : Event). is_close e.step) marked_in_stop ≡ false
unfolding marked_in_stop
none_closes = refl

abbrev pub marking : Marking stopped_cycle
marking = record {
  begin = record {
    before = begun_in_stop;
    event = record { seat = Seat.Host; step = Step.Begin };
    behind = marked_in_stop ++ third_released;
    is = refl;
    of_kind = refl;
  };
  close = record {
    at = record {
      before = marked_in_stop;
      event = record { seat = Seat.Host; step = Step.Close };
      behind = by_host (Step.Release ∷ Step.Used 0 3 ∷ Step.Quar 0 0 ∷ Step.Tally Tally.Held 4 ∷ Step.End ∷ Step.Open 0
          ∷ Step.Give ∷ []);
      is = refl;
      of_kind = refl;
    };
    none_before = none_closes;
  };
}

behind_begin : LeadsToMoment marking (through marking.begin)
behind_begin = record { done = []; to_come = marked_in_stop; of_the_cycle = refl; is = sym (append-nil _) }

pub third_is_in_snapshot : IsInSnapshot small marking 2
unfolding left_from all_below pointed_cell begun_in_stop three_objects
third_is_in_snapshot = refl

pub first_is_touched : IsTouched small marking 0
unfolding left_from calls_from all_below pointed_cell begun_in_stop three_objects
first_is_touched = by_register (through marking.begin) 0 0 behind_begin
    (refl, (leb-true 65536 65536 refl, (leb-true 0 0 refl, ltb-true 0 2 refl)))

pub second_is_touched : IsTouched small marking 1
unfolding left_from calls_from all_below pointed_cell begun_in_stop three_objects
second_is_touched = by_word (through marking.begin) 0 0 1 behind_begin first_is_touched (
  refl,
  refl,
  (leb-true 0 0 refl, ltb-true 0 2 refl),
) (refl, (leb-true 65536 65552 refl, (leb-true 2 2 refl, ltb-true 2 4 refl)))

two_are_closed_along : IsClosedAlong small marking (λ b. below_two b ≡ true)
unfolding left_from calls_from all_below pointed_cell numbered_all all_fronts begun_in_stop three_objects marked_in_stop
two_are_closed_along = closed_along_by_test small marking below_two refl

pub third_is_untouched : IsTouched small marking 2 → ⊥
third_is_untouched touched = false≢true (touched_is_least small marking below_two two_are_closed_along 2 touched)
