-- What is swept at the closes of two small cycles: by a register, by a word of a reached object, by a word of one that
-- nothing reaches, and not at all.
use Rattle.std.specs.List.{list_all}
use Rattle.mk_sweep.proofs.Vocabulary.{Config, Event, InRegister, InWord, IsSwept, IsSweptValue, Step, World, left}
use Rattle.mk_sweep.proofs.Vocabulary.{placed_at}
use Rattle.mk_cycle.proofs.Below.Laws.Vocabulary.{Bool, List, None, Op, Some, Tally, Word, ℕ, and_parts, arith, false}
use Rattle.mk_cycle.proofs.Below.Laws.Vocabulary.{false≢true, leb-true, ltb-true, refl, small, suc, true, zero, []}
use Rattle.mk_cycle.proofs.Below.Laws.Vocabulary.{◌&&◌, ◌++◌, ◌∷◌, ◌≡◌}
use Rattle.mk_core.proofs.Schedules.{by, c0, fault, first_fault, host, pointer_page}
use Rattle.mk_core.proofs.SmallCycles.{begun_in_stop, by_host, marked_in_stop, three_objects}
use Rattle.mk_core.proofs.{EvaluatedReach.below_two, ListTests.{list_all-at, numbered_all}}
use Rattle.mk_core.proofs.{MoreSchedules.exchanged, TouchedTests.{is_into_members, points_into}}
use Rattle.mk_core.specs.{Words.all_below, Cells.pointed_cell, History.left_from, MarkingConditions.may_turn_black}

-- Whatever these words point into is a member of the set: as a test.
abbrev pub all_into : Config → World → (ℕ → Bool) → List ℕ → Bool
all_into c w S words = list_all (is_into_members c w S) words

-- so of the registers, the globals and the heap
abbrev pub all_are_into : Config → World → (ℕ → Bool) → Bool
all_are_into c w S =
    all_into c w S w.now.words.registers && all_into c w S w.now.words.globals && all_into c w S w.now.words.heap

module _ (c : Config) (w : World) (S : ℕ → Bool) (h : all_are_into c w S ≡ true) where
  outer : (all_into c w S w.now.words.registers && all_into c w S w.now.words.globals ≡ true)
      × (all_into c w S w.now.words.heap ≡ true)
  outer = and_parts (all_into c w S w.now.words.registers && all_into c w S w.now.words.globals) _ h

  roots : (all_into c w S w.now.words.registers ≡ true) × (all_into c w S w.now.words.globals ≡ true)
  roots = and_parts (all_into c w S w.now.words.registers) (all_into c w S w.now.words.globals) outer.0

  value_into : {u : ℕ} → IsSweptValue c w u → is_into_members c w S u ≡ true
  value_into x0 = grind (arith, is_into_members, list_all-at, outer, roots)

  pub swept_by_test : {b : ℕ} → IsSwept c w b → S b ≡ true
  swept_by_test {b} swept = points_into c w S swept.value b (value_into swept.found) swept.points

-- A register holds the first of three objects, and a word of the first points to the second. The third is freed.

abbrev pub stopped : World
stopped = left small (begun_in_stop ++ by_host (Step.Begin ∷ []) ++ marked_in_stop)

pub first_is_swept : IsSwept small stopped 0
unfolding left_from all_below pointed_cell begun_in_stop three_objects marked_in_stop
first_is_swept = record {
  value = 65536;
  found = InRegister 0 refl;
  points = (refl, (leb-true 65536 65536 refl, (leb-true 0 0 refl, ltb-true 0 2 refl)));
}

pub second_is_swept : IsSwept small stopped 1
unfolding left_from all_below pointed_cell begun_in_stop three_objects marked_in_stop
second_is_swept = record {
  value = 65552;
  found = InWord 0 (record { number = 0; scanned = refl; word = (leb-true 0 0 refl, ltb-true 0 2 refl) }) refl;
  points = (refl, (leb-true 65536 65552 refl, (leb-true 2 2 refl, ltb-true 2 4 refl)));
}

pub stopped_into_two : all_are_into small stopped below_two ≡ true
unfolding left_from all_below pointed_cell numbered_all begun_in_stop three_objects marked_in_stop
stopped_into_two = refl

pub third_is_not_swept : IsSwept small stopped 2 → ⊥
third_is_not_swept swept = false≢true (swept_by_test small stopped below_two stopped_into_two swept)

-- A word of the first of two objects points to the second. Both are freed, and no register or global holds either.

unfoldable pub two_unreached : List Event
two_unreached =
    exchanged ++ by c0 (Step.Take (Some (Op.Free 0)) ∷ Step.Reg ∷ Step.Quar 0 1 ∷ Step.Tally Tally.Fresh 2 ∷ Step.Give ∷
    []) ++ by c0 (Step.Take (Some (Op.Free 1)) ∷ Step.Reg ∷ Step.Quar 0 3 ∷ Step.Tally Tally.Fresh 4 ∷ Step.Give ∷ [])
    ++ by c0 (Step.Enter (Op.Clear 0) ∷ Step.Reg ∷ Step.Leave ∷ []) ++ by c0
    (Step.Enter (Op.Clear 1) ∷ Step.Reg ∷ Step.Leave ∷ [])

-- The stop looks at the words of both, and marks the second.
unfoldable pub swept_in_stop : List Event
swept_in_stop =
    two_unreached ++ by host (Step.Take None ∷ Step.Hold 0 ∷ Step.Quar 0 12884901891 ∷ Step.Tally Tally.Fresh 0 ∷
    Step.Undirty 0 ∷ Step.Begin ∷ Step.Want ∷ Step.Look (Word.Heap 0) ∷ Step.Mark 0 2 ∷ Step.Black 0 2 ∷ [])

unfoldable pub released_unswept : List Event
released_unswept = swept_in_stop ++ by host (Step.Close ∷ Step.Release ∷ [])

pub no_fault_released : first_fault pointer_page released_unswept ≡ None
unfolding first_fault fault by c0 host all_below pointed_cell may_turn_black pointer_page exchanged two_unreached
    swept_in_stop released_unswept
no_fault_released = refl

abbrev pub unreached : World
unreached = left pointer_page swept_in_stop

abbrev pub is_second : ℕ → Bool
is_second (suc zero) = true
is_second _ = false

-- Though nothing reaches the first, its word is looked at. So the second is swept, and the first isn't.

pub second_is_swept_unreached : IsSwept pointer_page unreached 1
unfolding left_from by c0 host all_below pointed_cell pointer_page exchanged two_unreached swept_in_stop
second_is_swept_unreached = record {
  value = 65552;
  found = InWord 0 (record { number = 0; scanned = refl; word = (leb-true 0 0 refl, ltb-true 0 2 refl) }) refl;
  points = (refl, (leb-true 65536 65552 refl, (leb-true 2 2 refl, ltb-true 2 4 refl)));
}

pub unreached_into_second : all_are_into pointer_page unreached is_second ≡ true
unfolding left_from by c0 host all_below pointed_cell numbered_all pointer_page exchanged two_unreached swept_in_stop
unreached_into_second = refl

pub first_is_not_swept_unreached : IsSwept pointer_page unreached 0 → ⊥
first_is_not_swept_unreached swept =
    false≢true (swept_by_test pointer_page unreached is_second unreached_into_second swept)

-- The cycle releases the first, and keeps the second.
pub only_the_first_is_released : ((placed_at (left pointer_page released_unswept).allocations 0).released ≡ true)
    × ((placed_at (left pointer_page released_unswept).allocations 1).released ≡ false)
unfolding left_from by c0 host all_below pointed_cell pointer_page exchanged two_unreached swept_in_stop
    released_unswept
only_the_first_is_released = (refl, refl)
