-- A line with a number of words that no form has.
use Rattle.mk_script.proofs.Vocabulary.{Err, Keyword, List, ℕ, item_from, length, refl, [], ◌∷◌, ◌≡◌, ◌≢◌}
use Rattle.mk_script.specs.declared.faults.LineFault.TheVariants.{Text}
use Rattle.mk_script.specs.{declared.faults.TextKind.TheVariants.Word, declared.keywords.Keyword.TheVariants.TypeLine}

pub of_no_form : (keyword : Keyword) (words : List (List ℕ)) → keyword ≢ TypeLine → length words ≢ 0 → length words ≢ 1
    → length words ≢ 2 → length words ≢ 3 → length words ≢ 5 → item_from keyword words ≡ Err (Text Word)
unfolding item_from
of_no_form keyword [] other n0 n1 n2 n3 n5 = absurd (n0 refl)
of_no_form keyword (a ∷ []) other n0 n1 n2 n3 n5 = absurd (n1 refl)
of_no_form keyword (a ∷ b ∷ []) other n0 n1 n2 n3 n5 = absurd (n2 refl)
of_no_form keyword (a ∷ b ∷ c ∷ []) other n0 n1 n2 n3 n5 = absurd (n3 refl)
of_no_form keyword (a ∷ b ∷ c ∷ d ∷ e ∷ []) other n0 n1 n2 n3 n5 = absurd (n5 refl)
of_no_form TypeLine (a ∷ b ∷ c ∷ d ∷ []) other n0 n1 n2 n3 n5 = absurd (other refl)
of_no_form TypeLine (a ∷ b ∷ c ∷ d ∷ e ∷ f ∷ rest) other n0 n1 n2 n3 n5 = absurd (other refl)
of_no_form keyword (a ∷ b ∷ c ∷ d ∷ []) other n0 n1 n2 n3 n5 = refl
of_no_form keyword (a ∷ b ∷ c ∷ d ∷ e ∷ f ∷ rest) other n0 n1 n2 n3 n5 = refl
