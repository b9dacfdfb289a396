-- The names of a set, and another that is put to them.
use Rattle.std.proofs.lemmas.List.Sorted.{IsPermutation-map, IsPermutation-to_front, IsPermutation-trans}
use Rattle.std.specs.Bool.{MatchBool}
use Rattle.mk_script.proofs.Vocabulary.{Bool, IsPermutation, List, ℕ, ap, arith, bytes_eq, false, is_among, list_any}
use Rattle.mk_script.proofs.Vocabulary.{map, not, refl, sym, true, [], ◌++◌, ◌||◌, ◌∙◌, ◌∷◌, ◌≡◌}

pub list_any-map : {A B : Type 0} (p : B → Bool) (f : A → B) (xs : List A)
    → list_any p (map f xs) ≡ list_any (λ x. p (f x)) xs
list_any-map p f [] = refl
list_any-map p f (x ∷ xs) = ap (λ rest. p (f x) || rest) (list_any-map p f xs)

contradicts : (found : Bool) → false ≡ not found → found ≡ false → ⊥
contradicts x0 a b = grind arith

put : {A : Type 0} (text : A → List ℕ) (before after : List A) (key : A) (added : Bool)
    → added ≡ not (list_any (λ other. bytes_eq (text key) (text other)) before)
    → MatchBool added (IsPermutation (key ∷ before) after) (after ≡ before)
    → is_among (text key) (map text before) ≡ false → IsPermutation (map text before ++ text key ∷ []) (map text after)
put text before after key true is_new puts absent =
    IsPermutation-trans (map text before ++ text key ∷ []) (text key ∷ map text before) (map text after)
    (IsPermutation-to_front (map text before) (text key)) (IsPermutation-map text (key ∷ before) after puts)
put text before after key false is_new puts absent =
    absurd (contradicts (list_any (λ other. bytes_eq (text key) (text other)) before) is_new
    (sym (list_any-map (bytes_eq (text key)) text before) ∙ absent))

-- the same, at a name that the key's text is, and at the set's view
pub puts_name : {A : Type 0} (text : A → List ℕ) (before after : List A) (key : A) (added : Bool) (name : List ℕ)
    (names : List (List ℕ)) → text key ≡ name → map text before ≡ names → added ≡ not
    (list_any (λ other. bytes_eq (text key) (text other)) before) → MatchBool added (IsPermutation (key ∷ before) after)
    (after ≡ before) → is_among name names ≡ false → IsPermutation (names ++ name ∷ []) (map text after)
puts_name text before after key added name names name_is names_are is_new puts absent =
    rw (← name_is, ← names_are) (put text before after key added is_new puts (rw (name_is, names_are) absent))
