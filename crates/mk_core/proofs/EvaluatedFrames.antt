-- What others leave to a seat, in small cases: to a caller before its `probe`, while the host takes the turn, and to
-- the host in its turn, while a caller tries to enter and a marker visits. An event of its own may leave less.
use Rattle.mk_core.proofs.Vocabulary.{AreOfOthers, Event, List, None, Op, Seat, Step, all_below, ap, calls_from}
use Rattle.mk_core.proofs.Vocabulary.{eqb-false, false≢true, left, left_from, ltb-true, pointed_cell, refl, [], ◌++◌}
use Rattle.mk_core.proofs.{Vocabulary.◌∷◌, SmallCycles.{begun_in_stop, by_caller, by_host, by_marker, small}}
use Rattle.mk_core.proofs.SmallCycles.{three_objects}
use Rattle.mk_core.specs.{Frames.{CallIsLeft, IsLeft, OwnIsLeft, Steady, TurnIsLeft}, HistoryLaws.IsStillTheSame}

-- The caller has loaded the registers of a SetPtr. The host takes the turn, and finds the caller's gate taken.

abbrev pub before_probe : List Event
before_probe = three_objects ++ by_caller (Step.Enter (Op.SetPtr 0 0 1) ∷ Step.Reg ∷ Step.Reg ∷ [])

abbrev pub turn_taken : List Event
turn_taken = by_host (Step.Take None ∷ Step.Hold 0 ∷ [])

abbrev pub probe : Event
probe = record { seat = Seat.Caller 0; step = Step.Probe }

pub hosts_are_others : AreOfOthers (Seat.Caller 0 ∷ []) turn_taken
unfolding AreOfOthers
hosts_are_others = (refl, (refl, tt))

pub probe_is_the_same : IsStillTheSame small before_probe (before_probe ++ turn_taken) probe
unfolding left_from all_below pointed_cell three_objects
probe_is_the_same = record { word = refl; of_the_table = ltb-true 0 1 refl; access = refl; decides = λ is. refl }

pub own_is_left : OwnIsLeft small (Seat.Caller 0) (left small before_probe) (left small (before_probe ++ turn_taken))
unfolding left_from all_below pointed_cell three_objects
own_is_left = record {
  flight = refl;
  marker = refl;
  registers = λ k r is lt. refl;
  holding = λ holds. absurd (false≢true holds.1);
}

pub call_is_left : CallIsLeft (left small before_probe) (left small (before_probe ++ turn_taken)) 0
unfolding left_from all_below pointed_cell three_objects
call_is_left = record { gate = refl; mapped = λ p mapped. mapped }

-- The host holds the turn and all gates. A caller finds its gate held, and a marker finds no marking.

abbrev pub others_try : List Event
others_try = by_caller (Step.Enter (Op.IsNull 0) ∷ []) ++ by_marker (Step.Attend ∷ Step.Quit ∷ [])

pub triers_are_others : AreOfOthers (Seat.Host ∷ []) others_try
unfolding AreOfOthers
triers_are_others = (refl, (refl, (refl, tt)))

pub all_is_left : IsLeft small Seat.Host begun_in_stop (begun_in_stop ++ others_try)
unfolding left_from calls_from all_below pointed_cell begun_in_stop three_objects
all_is_left = record {
  own = record { flight = refl; marker = refl; registers = λ k r is lt. absurd cc; holding = λ holds. (holds, refl) };
  in_call = λ k is in_call. absurd in_call;
  turn = λ holds. (
    record {
      steady = refl;
      held_gates = λ j held. held;
      other_gates = λ j other. other;
      held_callers = λ j held. refl;
      held_registers = λ j r lt held. refl;
      marks_grow = λ p k has. has;
      blacks_grow = λ p k has. has;
      unmarked = λ not_marking not_wanted. (refl, refl);
      stopped = λ e. absurd (eqb-false 0 2 refl e);
      dirty = λ p dirty. dirty;
    },
    record { ends = refl; fulls = refl },
  );
  stop = λ all. refl;
  scan = λ attends. absurd attends;
  visit = λ is_in. absurd is_in;
}

-- its own `begin` changes the phase
pub own_begin_leaves_less : TurnIsLeft (left small begun_in_stop)
    (left small (begun_in_stop ++ by_host (Step.Begin ∷ []))) → ⊥
unfolding left_from all_below pointed_cell begun_in_stop three_objects
own_begin_leaves_less left = eqb-false 1 0 refl (ap (λ (x : Steady). x.phase) left.steady)
