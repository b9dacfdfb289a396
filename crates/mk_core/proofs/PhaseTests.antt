-- What a test of a phase word says of it.
use Rattle.mk_core.proofs.Vocabulary.{Bool, ℕ, eqb-false, eqb-true, false, sym, true, ◌%◌, ◌==◌, ◌∙◌, ◌≡◌}

pub in_word : (word number : ℕ) (answer : Bool) → answer ≡ (word % 8 == number) → answer ≡ true → word % 8 ≡ number
in_word word number answer is h = eqb-true (word % 8) number (sym is ∙ h)

pub not_in_word : (word number : ℕ) (answer : Bool) → answer ≡ (word % 8 == number) → answer ≡ false
    → word % 8 ≡ number → ⊥
not_in_word word number answer is h = eqb-false (word % 8) number (sym is ∙ h)
