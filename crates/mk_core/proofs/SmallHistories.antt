-- The two lists of a small heap are histories: within limits, enabled, and of admitted calls.
use Rattle.mk_core.proofs.Vocabulary.{AreEnabledFrom, Config, Event, IsHistory, IsWithinLimits, List, Op, World}
use Rattle.mk_core.proofs.Vocabulary.{all_below, and_parts, arith, asked, calls, calls_from, eqb-true, false}
use Rattle.mk_core.proofs.Vocabulary.{first_world, leb-true, left_from, ltb-true, never_first, pointed_cell, refl}
use Rattle.mk_core.proofs.Vocabulary.{subst, sym, true, world_behind, [], ◌++◌, ◌∷◌, ◌≡◌}
use Rattle.mk_core.proofs.SmallCycles.{all_enabled, begun_in_stop, beside_are_enabled, marked_beside, marked_in_stop}
use Rattle.mk_core.proofs.SmallCycles.{small, stopped_are_enabled, stopped_cycle, third_released, three_objects}
use Rattle.mk_core.proofs.{SmallCycles.written_beside, EvaluatedHistories.admitted, EventsAt.◌and◌}
use Rattle.mk_never.specs.{Admitted.AreAdmitted, NeverHeap.Call}

pub enabled_by_test : (c : Config) (w : World) (es : List Event) → all_enabled c w es ≡ true → AreEnabledFrom c w es
unfolding AreEnabledFrom all_enabled
enabled_by_test c w [] h = tt
enabled_by_test c w (e ∷ es) h =
    let both = and_parts _ _ h in (eqb-true _ 0 both.0, enabled_by_test c (world_behind c w e) es both.1)

pub small_is_within_limits : IsWithinLimits small
small_is_within_limits = grind (arith, leb-true, small, ltb-true)

-- the calls of both
abbrev pub small_calls : List Call
small_calls = record { caller = 0; op = Op.New 0 0 false } ∷ record { caller = 0; op = Op.New 1 0 false } ∷ record {
  caller = 0;
  op = Op.New 2 0 false;
} ∷ record { caller = 0; op = Op.Free 2 } ∷ record { caller = 0; op = Op.Clear 2 }
    ∷ record { caller = 0; op = Op.SetPtr 0 0 1 } ∷ record { caller = 0; op = Op.Clear 1 } ∷ []

small_calls_are_admitted : AreAdmitted [] (never_first small) small_calls
small_calls_are_admitted = admitted (omega arith) (omega arith) tt tt and admitted (omega arith)
    (omega arith) tt tt and admitted (omega arith) (omega arith) tt tt and admitted (omega arith)
    (omega arith) tt refl and admitted (omega arith) (omega arith) tt tt and admitted (omega arith) (omega arith)
    (omega arith, refl) (omega arith, (refl, refl)) and admitted (omega arith) (omega arith) tt tt and tt

calls_in_stop : asked (calls small stopped_cycle) ≡ small_calls
unfolding left_from calls_from all_below pointed_cell begun_in_stop three_objects marked_in_stop
calls_in_stop = refl

calls_beside : asked (calls small (marked_beside ++ third_released)) ≡ small_calls
unfolding left_from calls_from all_below pointed_cell marked_beside written_beside three_objects
calls_beside = refl

pub stopped_is_history : IsHistory small stopped_cycle
stopped_is_history = record {
  within_limits = small_is_within_limits;
  enabled = enabled_by_test small (first_world small) stopped_cycle stopped_are_enabled;
  admitted = subst (λ xs. AreAdmitted [] (never_first small) xs) (sym calls_in_stop) small_calls_are_admitted;
}

pub beside_is_history : IsHistory small (marked_beside ++ third_released)
beside_is_history = record {
  within_limits = small_is_within_limits;
  enabled = enabled_by_test small (first_world small) (marked_beside ++ third_released) beside_are_enabled;
  admitted = subst (λ xs. AreAdmitted [] (never_first small) xs) (sym calls_beside) small_calls_are_admitted;
}
