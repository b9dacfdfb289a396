-- The phases of a cycle: which a step asks for and leaves, and between which steps they stand.
use Rattle.mk_laws.proofs.Vocabulary.{AreEnabledFrom, Bool, Config, Event, List, Moment, Seat, Step, World, [], ap}
use Rattle.mk_laws.proofs.Vocabulary.{arith, enabled_meets, eqb-true, false, is_begin, is_close, is_release, left_from}
use Rattle.mk_laws.proofs.Vocabulary.{list_any, or_from, or_parts, phase_of, refl, subst, sym, world_behind, ℕ, ◌%◌}
use Rattle.mk_laws.proofs.Vocabulary.{◌∷◌, ◌≡◌, ◌≤◌}
use Rattle.mk_laws.proofs.Basics.{Behind, Meets, Table, over_phase, reg_table, tally_table}
pub use Rattle.mk_laws.proofs.ProtocolStepKinds.{begin_is, close_is, release_is}
use Rattle.mk_core.specs.declared.events.Step.TheVariants as step

-- the phase that a step asks for

abbrev pub AsksPhase : Step → ℕ → Type 0
AsksPhase step.Begin p = p ≡ 0
AsksPhase step.Want p = p ≡ 1
AsksPhase step.Close p = p ≡ 2
AsksPhase step.Release p = p ≡ 3
AsksPhase step.End p = p ≡ 4
AsksPhase step.Over p = p ≡ 0
AsksPhase _ p = Unit {0}

pub phase_asked : (c : Config) (m : Moment) (seat : Seat) (x : Step) → Meets c m seat x → AsksPhase x (phase_of m.words)
phase_asked c m seat step.Begin h = eqb-true _ 0 h.phase
phase_asked c m seat x3 h = grind (arith, eqb-true, over_phase)

-- and the phase after it

abbrev pub phase_behind : Step → ℕ → ℕ
phase_behind step.Begin p = 1
phase_behind step.Want p = 2
phase_behind step.Close p = 3
phase_behind step.Release p = 4
phase_behind step.End p = 0
phase_behind step.Over p = 5
phase_behind _ p = p

pub phase_moves : (c : Config) (m : Moment) (seat : Seat) (x : Step) → Meets c m seat x
    → phase_of (Behind c m seat x).words ≡ phase_behind x (phase_of m.words)
phase_moves c m seat step.Reg h = ap (λ (t : Table). t.phase % 8) (reg_table c m seat)
phase_moves c m seat x3 h = grind (arith, tally_table, phase_asked, over_phase)

-- While marking goes on, phases 1 and 2, no cycle begins or releases before the `close`.
pub record IsMarking (p : ℕ) : Type 0 where
  pub least : 1 ≤ p
  pub most : p ≤ 2

pub marking_step : (x : Step) {p : ℕ} → AsksPhase x p → IsMarking p → is_close x ≡ false
    → IsMarking (phase_behind x p) × (is_begin x ≡ false) × (is_release x ≡ false)
marking_step step.Begin asks m out = let least = m.least in absurd (omega arith)
marking_step x0 asks m out = grind arith

-- From a `begin` up to its `release`, phases 1, 2 and 3, no other cycle begins.
pub record IsUnreleased (p : ℕ) : Type 0 where
  pub least : 1 ≤ p
  pub most : p ≤ 3

unreleased_step : (x : Step) (p : ℕ) → AsksPhase x p → IsUnreleased p → is_release x ≡ false
    → IsUnreleased (phase_behind x p) × (is_begin x ≡ false)
unreleased_step step.Begin p asks m out = let least = m.least in absurd (omega arith)
unreleased_step x0 p asks m out = grind arith

-- One event that is enabled: what its phases are.
pub moves_phase : (c : Config) (w : World) (e : Event) (es : List Event) → AreEnabledFrom c w (e ∷ es)
    → AsksPhase e.step (phase_of w.now.words) × (phase_of (world_behind c w e).now.words ≡ phase_behind e.step
    (phase_of w.now.words)) × AreEnabledFrom c (world_behind c w e) es
unfolding AreEnabledFrom
moves_phase c w e es on = grind (arith, enabled_meets, phase_asked, phase_moves)

-- Without events of one kind a claim of the phase stays along a list, and another kind doesn't come, if each step says
-- so.
pub phases_go_on : (P : ℕ → Type 0) (stops out : Step → Bool) → ((x : Step) (p : ℕ) → AsksPhase x p → P p
    → stops x ≡ false → P (phase_behind x p) × (out x ≡ false)) → (c : Config) (w : World) (es : List Event)
    → AreEnabledFrom c w es → P (phase_of w.now.words) → list_any (λ (e : Event). stops e.step) es ≡ false → P
    (phase_of (left_from c w es).now.words) × (list_any (λ (e : Event). out e.step) es ≡ false)
unfolding left_from
phases_go_on P stops out one c w [] on here none = (here, refl)
phases_go_on P stops out one c w (e ∷ es) on here none =
    let outs = or_parts _ (list_any (λ (x : Event). stops x.step) es) none in
    let moves = moves_phase c w e es on in
    let next = one e.step _ moves.0 here outs.0 in
    let rest = phases_go_on P stops out one c (world_behind c w e) es moves.2 (subst P (sym moves.1) next.0) outs.1 in
    (rest.0, or_from _ (list_any (λ (x : Event). out x.step) es) next.1 rest.1)

pub record MarkingGoesOn (c : Config) (w : World) (es : List Event) : Type 0 where
  pub phase : IsMarking (phase_of (left_from c w es).now.words)
  pub none_begins : list_any (λ (e : Event). is_begin e.step) es ≡ false
  pub none_releases : list_any (λ (e : Event). is_release e.step) es ≡ false

pub marking_goes_on : (c : Config) (w : World) (es : List Event) → AreEnabledFrom c w es
    → IsMarking (phase_of w.now.words) → list_any (λ (e : Event). is_close e.step) es ≡ false → MarkingGoesOn c w es
marking_goes_on c w es on m none =
    let begins = phases_go_on IsMarking is_close is_begin (λ x p asks here out. let s = marking_step x asks here out in
    (s.0, s.1)) c w es on m none in
    let releases = phases_go_on IsMarking is_close is_release (λ x p asks here out.
    let s = marking_step x asks here out in (s.0, s.2)) c w es on m none in
    record { phase = begins.0; none_begins = begins.1; none_releases = releases.1 }

pub record NoneIsReleased (c : Config) (w : World) (es : List Event) : Type 0 where
  pub phase : IsUnreleased (phase_of (left_from c w es).now.words)
  pub none_begins : list_any (λ (e : Event). is_begin e.step) es ≡ false

pub none_is_released : (c : Config) (w : World) (es : List Event) → AreEnabledFrom c w es → IsUnreleased
    (phase_of w.now.words) → list_any (λ (e : Event). is_release e.step) es ≡ false → NoneIsReleased c w es
none_is_released c w es on m none =
    let rest = phases_go_on IsUnreleased is_release is_begin unreleased_step c w es on m none in
    record { phase = rest.0; none_begins = rest.1 }
