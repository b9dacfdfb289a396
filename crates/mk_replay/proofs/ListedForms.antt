-- A form that is listed by its name, with words after it that aren't numbers.
use Rattle.std.proofs.Common.{codes, ok_or}
use Rattle.std.specs.{Option.option_map, Result.IsErrAnd, Str.bytes_eq, declared.result.Result.Result}
use Rattle.mk_replay.proofs.Vocabulary.{Err, Ok, Step, value_among}
use Rattle.mk_laws.proofs.Vocabulary.{Bool, List, None, Option, Some, ℕ, ap, arith, false, if◌then◌else◌, map, refl}
use Rattle.mk_laws.proofs.Vocabulary.{true, [], ◌∙◌, ◌∷◌, ◌≡◌}
use Rattle.mk_replay.specs.Forms.{both, forms_of_numbers, number, two_operands}
use Rattle.mk_replay.specs.declared.forms.FormOfNumbers.TheVariants.{Black, Claim, Head, Mark, Quar, Used}
use Rattle.mk_replay.specs.{Forms.form_of_numbers, declared.forms.FormOfNumbers.FormOfNumbers}
use Rattle.mk_script.specs.{Operands.number_of_word, declared.faults.TextKind.TextKind}

by_test : {A B : Type 0} (b : Bool) (f : A → B) (x : A) (rest : Option A) (others : Option B)
    → others ≡ option_map f rest → (if b then Some (f x) else others) ≡ option_map f (if b then Some x else rest)
by_test true f x rest others same = refl
by_test false f x rest others same = same

value_among_map : {A B : Type 0} (f : A → B) (xs : List (List ℕ × A)) (w : List ℕ)
    → value_among (map (λ (x : List ℕ × A). (x.0, f x.1)) xs) w ≡ option_map f (value_among xs w)
value_among_map f [] w = refl
value_among_map f (x ∷ xs) w = by_test (bytes_eq w x.0) f x.1 (value_among xs w) _ (value_among_map f xs w)

abbrev pub listed : List (List ℕ × FormOfNumbers)
listed =
    (codes "head", Head) ∷ (codes "used", Used) ∷ (codes "quar", Quar) ∷ (codes "mark", Mark) ∷ (codes "black", Black)
    ∷ (codes "claim", Claim) ∷ []

was_some : {A : Type 0} (o : Option A) (x : A) → ok_or o TextKind.Word ≡ Ok x → o ≡ Some x
was_some None x is = cc
was_some (Some y) x is = cc

unnumbered : (f : ℕ → ℕ → Step) (v w : Option ℕ) (e : TextKind) → ok_or v TextKind.Number ≡ Err e
    → both f (ok_or v TextKind.Number) (ok_or w TextKind.Number) ≡ Err e
unnumbered f x1 w e is = grind arith

-- the first of two words that should be numbers is none
pub first_is_no_number : (name v w : List ℕ) (form : FormOfNumbers) (e : TextKind) → bytes_eq name (codes "tally")
    ≡ false → ok_or (value_among listed name) TextKind.Word ≡ Ok form → number v ≡ Err e → two_operands name v w ≡ Err e
first_is_no_number name v w form e other is fault =
    let named : value_among forms_of_numbers name ≡ Some (form_of_numbers form) = value_among_map form_of_numbers listed
    name ∙ ap (option_map form_of_numbers) (was_some (value_among listed name) form is) in
    rw (other, named) (unnumbered (form_of_numbers form) (number_of_word v) (number_of_word w) e fault)

pub refused : {A : Type 0} (result : Result A TextKind) (e : TextKind) → IsErrAnd result (λ handed. handed ≡ e)
    → result ≡ Err e
refused (Ok x) e is = absurd is
refused (Err handed) e is = ap Err is
