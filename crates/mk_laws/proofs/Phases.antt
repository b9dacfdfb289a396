-- The phase that a condition names, and the phase after a step.
use Rattle.mk_laws.proofs.Vocabulary.{Bool, Config, Moment, Seat, Step, ℕ, and_parts, arith, eqb-true, false, or_cases}
use Rattle.mk_laws.proofs.Vocabulary.{phase_of, true, ◌==◌, ◌||◌, ◌≡◌, ◌⊎◌}
use Rattle.mk_laws.proofs.{Actors.Meets, Changes.reg_table, Changes.tally_table, SameWords.Behind}

pub either_phase : (n a b : ℕ) → ((n == a) || (n == b)) ≡ true → (n ≡ a) ⊎ (n ≡ b)
either_phase n a b h = grind (arith, or_cases, eqb-true)

-- six kinds change it

abbrev pub is_phase_step : Step → Bool
is_phase_step Step.Begin = true
is_phase_step Step.Want = true
is_phase_step Step.Close = true
is_phase_step Step.Release = true
is_phase_step Step.End = true
is_phase_step Step.Over = true
is_phase_step _ = false

pub phase_stays : (c : Config) (m : Moment) (seat : Seat) (x : Step) → is_phase_step x ≡ false
    → phase_of (Behind c m seat x).words ≡ phase_of m.words
phase_stays c m seat x no_change = grind (arith, reg_table, tally_table)

pub over_phase : (c : Config) (m : Moment) (seat : Seat) → Meets c m seat Step.Over → phase_of m.words ≡ 0
over_phase c m seat h = eqb-true _ 0 (and_parts _ _ h.holder).1
