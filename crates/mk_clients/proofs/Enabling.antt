-- Which steps a pass may make, by the conditions of their kinds.
use Rattle.mk_heap.proofs.Below.Laws.Vocabulary.{Caller, Config, Flight, Group, MarkerState, Moment, Step, ℕ, arith}
use Rattle.mk_heap.proofs.Below.Laws.Vocabulary.{comes_next}
use Rattle.mk_heap.proofs.Below.Laws.Vocabulary.{group_of, has_phase, holder_may, is_in_range, lt-ltb, marker_may, refl}
use Rattle.mk_heap.proofs.Below.Laws.Vocabulary.{true, ◌<◌}
use Rattle.mk_heap.proofs.Below.Laws.Vocabulary.{◌≡◌}
use Rattle.mk_core.proofs.Conditions.{meets_enabled}
use Rattle.mk_heap.specs.{Below.Words.States.{PassState, call_of}, Below.Words.Steps.IsEnabledTo}

-- a caller's kinds ask nothing of gates, phase and marks

calls_phase : (n : ℕ) (s : Step) → group_of s ≡ Group.Callers → has_phase n s ≡ true
calls_phase n (Step.Enter o) h = refl
calls_phase n _ h = cc

calls_marker : (c : Config) (x : MarkerState) (s : Step) → group_of s ≡ Group.Callers → marker_may c x s ≡ true
calls_marker c x (Step.Enter o) h = refl
calls_marker c x _ h = cc

calls_holder : (c : Config) (m : Moment) (f : Flight) (s : Step) → group_of s ≡ Group.Callers
    → holder_may c m f s ≡ true
calls_holder c m f (Step.Enter o) h = refl
calls_holder c m f _ h = cc

-- The next step of a caller's call is enabled, where its operands are in range.
pub call_step : (p : PassState) (s : Step) (k : ℕ) (f : Flight) → p.seat ≡ Caller k → k < p.table.config.callers
    → call_of p ≡ f → group_of s ≡ Group.Callers
    → comes_next f.stage f.op s ≡ true → is_in_range p.table.config (Caller k) f s ≡ true → IsEnabledTo p s
call_step p s k f seat_is lt call_is kind next range =
    grind (arith, meets_enabled, lt-ltb, calls_phase, calls_marker, calls_holder)
