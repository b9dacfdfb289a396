-- What stands around the first `+` of a word.
use Rattle.std.{proofs.Common.{length-drop, ltb, position}, specs.List.{position_or_len}}
use Rattle.mk_script.proofs.Vocabulary.{Bool, List, None, Some, ℕ, ap, arith, cond, drop, false, length, list_any}
use Rattle.mk_script.proofs.Vocabulary.{lt-ltb, nat_tests, not, refl, suc, take, take_all, true, [], ◌+◌, ◌-◌, ◌||◌}
use Rattle.mk_script.{proofs.Vocabulary.{◌∙◌, ◌∷◌, ◌≡◌}, specs.Operands.{IsCutAtPlus, is_plus}}

behind : (here : Bool) (rest : Bool) (place count : ℕ) → rest ≡ ltb place count
    → (here || rest) ≡ ltb (cond (not here) (1 + place) 0) (suc count)
behind x0 rest place count h = grind (arith, lt-ltb, nat_tests)

any_from_place : {A : Type 0} (p : A → Bool) (xs : List A) → list_any p xs ≡ ltb (position_or_len p xs) (length xs)
any_from_place p [] = refl
any_from_place p (x ∷ xs) = behind (p x) (list_any p xs) (position_or_len p xs) (length xs) (any_from_place p xs)

chosen : (test : Bool) (place plus : ℕ) → Some plus ≡ cond test (Some place) None → (test ≡ true) × (plus ≡ place)
chosen x0 place plus found = grind arith

unchosen : (test : Bool) (place : ℕ) → None ≡ cond test (Some place) None → test ≡ false
unchosen x0 place found = grind arith

pub uncut : (word : List ℕ) → None ≡ position is_plus word → list_any is_plus word ≡ false
uncut word found = any_from_place is_plus word
    ∙ unchosen (ltb (position_or_len is_plus word) (length word)) (position_or_len is_plus word) found

pub cut : (word : List ℕ) (plus : ℕ) → Some plus ≡ position is_plus word
    → IsCutAtPlus word (take plus word) (take (length word - (plus + 1)) (drop (plus + 1) word))
cut word plus found =
    let is = chosen (ltb (position_or_len is_plus word) (length word)) (position_or_len is_plus word) plus found in
    let all : take (length word - (plus + 1)) (drop (plus + 1) word) ≡ drop (plus + 1) word =
    take_all (length word - (plus + 1)) (drop (plus + 1) word) (omega (arith, length-drop (plus + 1) word)) in
    record {
      has_plus = any_from_place is_plus word ∙ is.0;
      front_is = ap (λ place. take place word) is.1;
      back_is = all ∙ ap (λ place. drop (place + 1) word) is.1;
    }
