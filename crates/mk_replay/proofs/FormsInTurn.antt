-- The forms of a line's pieces and its entries, one piece after another.
use Rattle.std.{proofs.lemmas.List.take_more, specs.declared.result.Result.Result}
use Rattle.mk_replay.proofs.Vocabulary.{Bor, Ok, Step, form_of, texts_of}
use Rattle.mk_laws.proofs.Vocabulary.{List, ℕ, ap, arith, get_or, length, map, map-append, sym, take, [], ◌++◌, ◌+◌}
use Rattle.mk_laws.proofs.Vocabulary.{◌<◌, ◌∙◌, ◌∷◌, ◌≡◌}
use Rattle.mk_replay.specs.{Schedules.{forms_with, with_form}, Forms.{both, worse_fault}}
use Rattle.mk_replay.specs.Schedules.{forms_of}
use Rattle.mk_script.specs.{Grammar.words_of_line, declared.faults.TextKind.TextKind}

worse_fault-in_turn : (a b c : TextKind) → worse_fault a (worse_fault b c) ≡ worse_fault (worse_fault a b) c
worse_fault-in_turn a b c = grind arith

in_turn : (first : Result Step TextKind) (forms : Result (List Step) TextKind) (last : Result Step TextKind)
    → both (λ form forms. form ∷ forms) first (with_form forms last)
    ≡ with_form (both (λ form forms. form ∷ forms) first forms) last
in_turn x0 x1 x2 = grind (arith, worse_fault-in_turn)

pub single : (last : Result Step TextKind) → both (λ form forms. form ∷ forms) last (Ok []) ≡ with_form (Ok []) last
single x0 = grind arith

-- the forms of one piece more
pub forms_of-push : (pieces : List (List (List ℕ))) (last : List (List ℕ))
    → forms_of (pieces ++ last ∷ []) ≡ with_form (forms_of pieces) (form_of last)
forms_of-push [] last = single (form_of last)
forms_of-push (first ∷ pieces) last =
    ap (both (λ form forms. form ∷ forms) (form_of first)) (forms_of-push pieces last)
    ∙ in_turn (form_of first) (forms_of pieces) (form_of last)

-- the same, along the other pieces of a line
pub goes_on : (first : Result Step TextKind) (others : List (Bor (List ℕ))) (i : ℕ) (d : Bor (List ℕ))
    (before after : Result (List Step) TextKind) → i < length others → forms_with first (texts_of (take i others))
    ≡ before → after ≡ with_form before (form_of (words_of_line (get_or others i d).now))
    → forms_with first (texts_of (take (i + 1) others)) ≡ after
goes_on first others i d before after inside so_far is =
    let front = map words_of_line (texts_of (take i others)) in
    let last = (get_or others i d).now in
    ap (λ some. forms_with first (texts_of some)) (take_more others i d inside)
    ∙ ap (forms_with first) (map-append (λ text. text.now) (take i others) (get_or others i d ∷ [])) ∙ ap (λ all. both
    (λ form forms. form ∷ forms) first (forms_of all)) (map-append words_of_line (texts_of (take i others)) (last ∷ []))
    ∙ ap (both (λ form forms. form ∷ forms) first) (forms_of-push front (words_of_line last)) ∙ in_turn first (forms_of
    front) (form_of (words_of_line last)) ∙ ap (λ forms. with_form forms (form_of (words_of_line last))) so_far ∙ sym is
