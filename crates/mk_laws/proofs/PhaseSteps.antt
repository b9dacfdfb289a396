-- The phase along a cycle: it marks up to the `close`, then stays closed up to the `release`, and releasing up to the
-- `end`.
use Rattle.mk_laws.proofs.Vocabulary.{Config, IsMarking, Moment, Seat, Step, ℕ, arith, cases_lt, false, inl, inr}
use Rattle.mk_laws.proofs.Vocabulary.{is_begin, is_close, is_end, is_release, phase_of, ◌≡◌, ◌≤◌, ◌⊎◌}
use Rattle.mk_laws.proofs.CyclePhases.{AsksPhase, IsMarking as IsMarkingPhase, phase_asked, phase_behind, phase_moves}
use Rattle.mk_laws.proofs.Basics.{Behind, Meets, either_phase, is_grant}

pub record GoesOnMarking (c : Config) (m : Moment) (seat : Seat) (x : Step) : Type 0 where
  pub early : IsMarking (Behind c m seat x).words
  pub begun : is_begin x ≡ false
  pub released : is_release x ≡ false

within : (n : ℕ) → (n ≡ 1) ⊎ (n ≡ 2) → IsMarkingPhase n
within n h = grind arith

one_of : (n : ℕ) → IsMarkingPhase n → (n ≡ 1) ⊎ (n ≡ 2)
one_of n m = elim (cases_lt n 2) [ inl lt ↦ inl (omega (arith, m.least)) | inr le ↦ inr (omega (arith, m.most)) ]

-- While it marks, what isn't a `close` leaves it marking.
pub marking_goes_on : (c : Config) (m : Moment) (seat : Seat) (x : Step) → IsMarking m.words → Meets c m seat x
    → is_close x ≡ false → GoesOnMarking c m seat x
marking_goes_on c m seat x early h other = grind (arith, one_of, phase_moves)

-- After the `close` neither a `begin` nor a grant comes: the phase waits for the `release`, and then for the `end`.
pub record Waits (c : Config) (m : Moment) (seat : Seat) (x : Step) (p : ℕ) : Type 0 where
  pub phase : phase_of (Behind c m seat x).words ≡ p
  pub begun : is_begin x ≡ false
  pub granted : is_grant x ≡ false

waiting_step : (x : Step) (p : ℕ) → 3 ≤ p → AsksPhase x p → (p ≡ 3 → is_release x ≡ false) → (p ≡ 4 → is_end x ≡ false)
    → (phase_behind x p ≡ p) × (is_begin x ≡ false)
waiting_step x p late asks out past = grind arith

waits : (c : Config) (m : Moment) (seat : Seat) (x : Step) (p : ℕ) → 3 ≤ p → phase_of m.words ≡ p → Meets c m seat x
    → (p ≡ 3 → is_release x ≡ false) → (p ≡ 4 → is_end x ≡ false) → Waits c m seat x p
waits c m seat x p late at h out past =
    grind (arith, waiting_step, phase_asked, phase_moves, phase_behind, either_phase)

pub stopped_waits : (c : Config) (m : Moment) (seat : Seat) (x : Step) → phase_of m.words ≡ 3 → Meets c m seat x
    → is_release x ≡ false → Waits c m seat x 3
stopped_waits c m seat x at h other = waits c m seat x 3 (omega arith) at h (λ e. other) (λ e. absurd (omega arith))

pub releasing_waits : (c : Config) (m : Moment) (seat : Seat) (x : Step) → phase_of m.words ≡ 4 → Meets c m seat x
    → is_end x ≡ false → Waits c m seat x 4
releasing_waits c m seat x at h other = waits c m seat x 4 (omega arith) at h (λ e. absurd (omega arith)) (λ e. other)
