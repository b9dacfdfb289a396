use Rattle.mk_replay.proofs.Vocabulary.{Bor, form_of, length-drop, take_all, texts_of}
use Rattle.mk_laws.proofs.Vocabulary.{List, ℕ, ap, arith, drop, get_or, length, refl, sym, take, [], ◌-◌, ◌∙◌, ◌∷◌, ◌≡◌}
use Rattle.mk_laws.proofs.Vocabulary.{◌≤◌}
use Rattle.mk_replay.specs.Forms.{look_form}
use Rattle.mk_replay.proofs.forms.form.Goals as goal

-- more than three words
many : (words : List (Bor (List ℕ))) (d : Bor (List ℕ)) → 4 ≤ length words
    → form_of (texts_of words) ≡ look_form (get_or words 0 d).now (texts_of (drop 1 words))
many [] d more = absurd (omega arith)
many (a ∷ []) d more = absurd (omega arith)
many (a ∷ v ∷ []) d more = absurd (omega arith)
many (a ∷ v ∷ w ∷ []) d more = absurd (omega arith)
many (a ∷ u ∷ v ∷ w ∷ words) d more = refl

looks : (words : List (Bor (List ℕ))) (d : Bor (List ℕ)) → 4 ≤ length words
    → look_form (get_or words 0 d).now (texts_of (take (length words - 1) (drop 1 words))) ≡ form_of (texts_of words)
looks words d more =
    ap (λ left. look_form (get_or words 0 d).now (texts_of left))
    (take_all (length words - 1) (drop 1 words) (omega (arith, length-drop 1 words))) ∙ sym (many words d more)

pub returns-in-len1-up : goal.returns-in-len1-up
returns-in-len1-up c = c.look.ensures ∙ looks c.args.words.now _ c.in-len1-up.len_at_least
