-- What a set says of the names that it has.
use Rattle.std.proofs.{Common.Result, lemmas.List.Sorted.length_permutation, lemmas.List.Sorted.list_any-IsPermutation}
use Rattle.std.specs.Result.{OnOk}
use Rattle.mk_script.proofs.Vocabulary.{Bool, IsPermutation, List, ℕ, ap, arith, bytes_eq, false, is_among, length}
use Rattle.mk_script.proofs.Vocabulary.{list_any-append, sym, true, ◌++◌, ◌||◌, ◌∙◌, ◌≡◌}

pub among : (name : List ℕ) (names set : List (List ℕ)) → IsPermutation names set
    → is_among name set ≡ is_among name names
among name names set same = sym (list_any-IsPermutation (bytes_eq name) names set same)

pub among_both : (name : List ℕ) (names set others other_set : List (List ℕ)) → IsPermutation names set
    → IsPermutation others other_set → (is_among name set || is_among name other_set) ≡ is_among name (names ++ others)
among_both name names set others other_set same same' =
    cc (among name names set same, among name others other_set same', list_any-append (bytes_eq name) names others)

pub count : (names set : List (List ℕ)) → IsPermutation names set → length set ≡ length names
count names set same = length_permutation names set same

pub either_true : {x z : Bool} (y r : Bool) → r ≡ x → r ≡ true → (x || y) ≡ z → r ≡ z
either_true {x} y r is holds both = holds ∙ sym (ap (λ b. b || y) (sym is ∙ holds)) ∙ both

pub either_false : {x y z q : Bool} (r : Bool) → r ≡ x → r ≡ false → q ≡ y → (x || y) ≡ z → q ≡ z
either_false {x} {y} r is fails other both = other ∙ sym (ap (λ b. b || y) (sym is ∙ fails)) ∙ both

pub on_ok : {T E P Q : Type 0} (r : Result T E) → OnOk r P → (P → Q) → OnOk r Q
on_ok x0 holds gives = grind arith

neither : (a b : Bool) → (a || b) ≡ false → (a ≡ false) × (b ≡ false)
neither x0 b fails = grind arith

pub among_neither : (name : List ℕ) (names set others other_set : List (List ℕ)) → IsPermutation names set
    → IsPermutation others other_set
    → is_among name (names ++ others) ≡ false → (is_among name set ≡ false) × (is_among name other_set ≡ false)
among_neither name names set others other_set same same' fails =
    neither (is_among name set) (is_among name other_set) (among_both name names set others other_set same same'
    ∙ fails)
