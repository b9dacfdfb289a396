-- Each step of a call, from what is known of a call on its way: it may be made, and the call goes on.
use Rattle.mk_words.proofs.Below.Laws.Vocabulary.{Answer, Bool, Group, None, Null, Stage, Step, ℕ, and_parts, arith}
use Rattle.mk_words.proofs.Below.Laws.Vocabulary.{comes_next, false, group_of, header_of, i_of, if◌then◌else◌}
use Rattle.mk_words.proofs.Below.Laws.Vocabulary.{is_in_range, is_put, is_unmapped_header, leb-true, ltb-true, onward}
use Rattle.mk_words.proofs.Below.Laws.Vocabulary.{refl, refused, register_met, true, word_met, ◌*◌, ◌+◌, ◌-◌, ◌/◌, ◌<◌}
use Rattle.mk_words.proofs.Below.Laws.Vocabulary.{◌^◌, ◌↔◌, ◌≡◌, ◌≤◌}
use Rattle.mk_words.specs.Below.Laws.Theorems.{has_q, has_some_q}
use Rattle.mk_core.specs.{Effects.progress_probe, Conditions.is_word_met}
use Rattle.mk_caller.proofs.Enabling.{admitted, enabled, idly_admitted, met_is_small, put_decides_nothing}
use Rattle.mk_caller.{proofs.WordsMet.{null_tells, word_is_met}, specs.States.value_of}
use Rattle.mk_caller.specs.Moves.{CallMoves, IsUnderway, is_access, is_past_decision, loads_register, stores_register}
use Rattle.mk_words.specs.{States.{PassState, call_of}, Steps.{register_of, IsAdmittedTo, IsEnabledTo}}

load_undecided : (s : Stage) → loads_register s ≡ true → (is_past_decision s ≡ false) × (is_put s ≡ false)
load_undecided x0 h = grind arith

-- the step by which a call accesses its word, at the stage of that
abbrev pub accesses_at : Stage → Step → Bool
accesses_at Stage.Probe Step.Probe = true
accesses_at Stage.Read Step.Read = true
accesses_at Stage.Write Step.Write = true
accesses_at Stage.Cas Step.Cas = true
accesses_at _ _ = false

module _ {p : PassState} (u : IsUnderway p) where
  enabled_step : (s : Step) → group_of s ≡ Group.Callers → comes_next (call_of p).stage (call_of p).op s ≡ true
      → is_in_range p.table.config p.seat (call_of p) s ≡ true → IsEnabledTo p s
  enabled_step s kind next range = enabled p s u.caller u.seat u.exists kind next range

  admitted_step : (s : Step) → is_past_decision (call_of p).stage ≡ false → IsEnabledTo p s → IsAdmittedTo p s
  admitted_step s undecided on = admitted p s u.pass.history on u.entered (u.admits undecided)

  pub may_load : loads_register (call_of p).stage ≡ true → IsAdmittedTo p Step.Reg
  may_load is = grind (arith, admitted_step, load_undecided, enabled_step)

  pub may_store : stores_register (call_of p).stage ≡ true → IsAdmittedTo p Step.Reg
  may_store is = grind (arith, admitted_step, enabled_step, idly_admitted, put_decides_nothing)

  pub null_is : (r : ℕ) → loads_register (call_of p).stage ≡ true → r ≡ register_met (call_of p) (call_of p).stage
      → (register_of p r ≡ 0) ↔ (value_of p r ≡ Null)
  null_is r is met = grind (arith, null_tells, met_is_small, load_undecided)

  -- a step that reaches the accessed word, or its page
  module _ (s : Stage) (at : (call_of p).stage ≡ s) (through : is_access (call_of p).op ≡ true)
      (undecided : is_past_decision s ≡ false)
      (has : has_q s (call_of p).op ≡ true) (some : has_some_q s (call_of p).op ≡ true) where
    pub met : is_word_met p.table.config (call_of p) ≡ true
    met = grind (arith, word_is_met)

    pub may_reach : (x : Step) → group_of x ≡ Group.Callers → comes_next s (call_of p).op x ≡ true
        → is_in_range p.table.config p.seat (call_of p) x ≡ is_word_met p.table.config (call_of p)
        → IsEnabledTo p x × IsAdmittedTo p x
    may_reach x kind next range = grind (arith, enabled_step, met, admitted_step)

  -- where it is at the stage of that step
  pub may_access : (s : Stage) (x : Step) → (call_of p).stage ≡ s → accesses_at s x ≡ true
      → is_access (call_of p).op ≡ true → IsEnabledTo p x × IsAdmittedTo p x
  may_access Stage.Probe Step.Probe at h through =
      may_reach Stage.Probe at through refl refl refl Step.Probe refl refl refl
  may_access Stage.Read Step.Read at h through = may_reach Stage.Read at through refl refl refl Step.Read refl refl refl
  may_access Stage.Write Step.Write at h through =
      may_reach Stage.Write at through refl refl refl Step.Write refl refl refl
  may_access Stage.Cas Step.Cas at h through = may_reach Stage.Cas at through refl refl refl Step.Cas refl refl refl
  may_access _ _ at h through = cc

  pub access_admitted : (s : Stage) (x : Step) → (call_of p).stage ≡ s → accesses_at s x ≡ true
      → is_access (call_of p).op ≡ true → IsAdmittedTo p x
  access_admitted s x at h through = (may_access s x at h through).1

  -- a step that reaches a global
  pub may_getg : (call_of p).stage ≡ Stage.Getg → IsAdmittedTo p Step.Getg
  may_getg at = grind (arith, admitted_step, enabled_step)

  pub may_setg : (call_of p).stage ≡ Stage.Setg → IsAdmittedTo p Step.Setg
  may_setg at = grind (arith, admitted_step, enabled_step)

  -- what the word is
  pub met_bounds : (value offset : ℕ) → value ≡ (call_of p).q → offset ≡ i_of (call_of p).op
      → is_word_met p.table.config (call_of p) ≡ true → (65536 ≤ value) ×
      (word_met (call_of p) < 64 * p.table.config.pages) × ((value - 65536) / 8 + offset ≡ word_met (call_of p))
  met_bounds value offset v i is = grind (arith, and_parts, leb-true, ltb-true)

probe_by : {p q : PassState} (n : ℕ) (b : Bool) → is_unmapped_header (header_of n) ≡ b
    → CallMoves p (call_of p).op Step.Probe (progress_probe (call_of p) n) q
    → CallMoves p (call_of p).op Step.Probe (if b then refused (call_of p) Answer.Fault else onward (call_of p) None) q
probe_by n b is m = grind arith

pub probe_refused : {p q : PassState} (n : ℕ) → is_unmapped_header (header_of n) ≡ true
    → CallMoves p (call_of p).op Step.Probe (progress_probe (call_of p) n) q
    → CallMoves p (call_of p).op Step.Probe (refused (call_of p) Answer.Fault) q
probe_refused n is m = probe_by n true is m

pub probe_passed : {p q : PassState} (n : ℕ) → is_unmapped_header (header_of n) ≡ false
    → CallMoves p (call_of p).op Step.Probe (progress_probe (call_of p) n) q
    → CallMoves p (call_of p).op Step.Probe (onward (call_of p) None) q
probe_passed n is m = probe_by n false is m

-- A pointer that is moved on stays within its allocation.
pub moved_within : {p : PassState} (u : IsUnderway p) {value offset : ℕ} → (call_of p).stage ≡ Stage.Store → is_access
    (call_of p).op ≡ true → has_q Stage.Store (call_of p).op ≡ true → has_some_q Stage.Store (call_of p).op ≡ true
    → value ≡ (call_of p).q → offset ≡ i_of (call_of p).op → value + 8 * offset < 2 ^ 64
moved_within u {value} {offset} at access has some v i =
    let m = met u Stage.Store at access refl has some in
    let b = met_bounds u value offset v i m in
    omega arith
