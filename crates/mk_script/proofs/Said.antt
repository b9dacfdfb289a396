-- What operands say, they say again as they are printed.
use Rattle.std.proofs.Common.{drop-drop, drop_at, inl, inr, ne_eqb, ok_or, one-add, take_at}
use Rattle.std.proofs.lemmas.Bool.{cases_cond, cond-false, cond_both, not_from_false, or_from, or_right}
use Rattle.std.specs.List.{after_first, before_first, position_or_len}
use Rattle.mk_script.proofs.Vocabulary.{At, Bool, LineFault, List, None, Ok, Option, Result, Some, ℕ, and_from}
use Rattle.mk_script.proofs.Vocabulary.{and_parts, ap, arith, at, at_text, codes, cond, cond-true, decimal, false}
use Rattle.mk_script.proofs.Vocabulary.{length, list_all, list_any, list_any-append, name, nat_tests, number_of_word}
use Rattle.mk_script.proofs.Vocabulary.{refl, subst, sym, true, [], ◌++◌, ◌+◌, ◌<◌, ◌>>=◌, ◌^◌, ◌∙◌, ◌∷◌, ◌≡◌}
use Rattle.mk_script.proofs.LineWords.{is_solid, is_solid-append, is_solid-decimal, is_solid-names, is_word}
use Rattle.mk_script.proofs.{LineWords.is_word-append, PrintedNumbers.{number_of_word-below, number_of_word-decimal}}
use Rattle.mk_script.specs.Operands.{is_name, is_name_byte, name_of, is_plus, number}
use Rattle.mk_script.specs.declared.faults.{LineFault.TheVariants.Text, TextKind.TextKind}

-- a step that went well, and what comes of it

pub then_again : {A B : Type 0} (r : Result A LineFault) (f : A → Result B LineFault) (x : A) (y : Result B LineFault)
    → r ≡ Ok x → f x ≡ y → (r >>= f) ≡ y
then_again r f x y e g = ap (λ q. q >>= f) e ∙ g

pub then_was : {A B : Type 0} (r : Result A LineFault) (f : A → Result B LineFault) (y : B) → (r >>= f) ≡ Ok y
    → (x : A) × (r ≡ Ok x) × (f x ≡ Ok y)
then_was x0 f y e = grind arith

ok_or_was : {A : Type 0} (fault : LineFault) (o : Option A) (x : A) → ok_or o fault ≡ Ok x → o ≡ Some x
ok_or_was fault x1 x e = grind arith

-- names

pub name_again : (n : List ℕ) → is_name n ≡ true → name n ≡ Ok n
name_again n h = ap (λ o. ok_or o (Text TextKind.Name)) (cond-true _ _ _ h)

name_of_is : (w n : List ℕ) (b : Bool) → is_name w ≡ b → cond b (Some w) None ≡ Some n → is_name n ≡ true
name_of_is w n x2 h e = grind arith

name_bytes : (n : List ℕ) → is_name n ≡ true → list_all is_name_byte n ≡ true
name_bytes n h = (and_parts _ _ h).1

pub is_solid-name : (n : List ℕ) → is_name n ≡ true → is_solid n ≡ true
is_solid-name n h = is_solid-names n (name_bytes n h)

pub is_word-name : (n : List ℕ) → is_name n ≡ true → is_word n ≡ true
is_word-name n h = and_from _ _ (and_parts _ _ (and_parts _ _ (and_parts _ _ h).0).0).0 (is_solid-name n h)

-- numbers

pub number_again : (n : ℕ) → n < 2 ^ 64 → number (decimal n) ≡ Ok n
number_again n small = ap (λ o. ok_or o (Text TextKind.Number)) (number_of_word-decimal n small)

-- places of types

pub record IsPlace (at : At) : Type 0 where
  pub named : is_name at.name ≡ true
  pub small : at.offset < 2 ^ 64

no_plus : (byte : ℕ) → is_name_byte byte ≡ true → is_plus byte ≡ false
no_plus byte h = grind (arith, nat_tests)

without_plus : (n : List ℕ) → list_all is_name_byte n ≡ true → list_any is_plus n ≡ false
without_plus [] h = refl
without_plus (byte ∷ n) h = let parts = and_parts _ _ h in or_from _ _ (no_plus byte parts.0) (without_plus n parts.1)

first_plus : (n digits : List ℕ) → list_all is_name_byte n ≡ true
    → position_or_len is_plus (n ++ 43 ∷ digits) ≡ length n
first_plus [] digits h = refl
first_plus (byte ∷ n) digits h =
    let parts = and_parts _ _ h in
    cond-true _ _ _ (not_from_false _ (no_plus byte parts.0)) ∙ ap (λ k. 1 + k) (first_plus n digits parts.1)
    ∙ one-add (length n)

before_plus : (n digits : List ℕ) → list_all is_name_byte n ≡ true → before_first is_plus (n ++ 43 ∷ digits) ≡ n
before_plus n digits h = cc (first_plus n digits h, take_at n (43 ∷ digits) (length n) refl)

behind_plus : (n digits : List ℕ) → list_all is_name_byte n ≡ true → after_first is_plus (n ++ 43 ∷ digits) ≡ digits
behind_plus n digits h =
    cc (first_plus n digits h, drop-drop 1 (length n) (n ++ 43 ∷ digits), drop_at n (43 ∷ digits) (length n) refl)

has_plus : (n digits : List ℕ) → list_any is_plus (n ++ 43 ∷ digits) ≡ true
has_plus n digits = list_any-append is_plus n (43 ∷ digits) ∙ or_right _ _ refl

alone : (n : List ℕ) → is_name n ≡ true → at n ≡ Ok (record { name = n; offset = 0 })
alone n h = cond-false _ _ _ (without_plus n (name_bytes n h)) ∙ then_again (name n) _ n _ (name_again n h) refl

with_offset : (n : List ℕ) (k : ℕ) → is_name n ≡ true → k < 2 ^ 64
    → at (n ++ (codes "+" ++ decimal k)) ≡ Ok (record { name = n; offset = k })
with_offset n k h small =
    grind (arith, before_plus, name_bytes, name_again, behind_plus, number_again, cond-true, has_plus, then_again)

at_text_again : (n : List ℕ) (k : ℕ) → is_name n ≡ true → k < 2 ^ 64
    → at (at_text (record { name = n; offset = k })) ≡ Ok (record { name = n; offset = k })
at_text_again n x1 h small = grind (arith, alone, ne_eqb, cond-false, with_offset)

pub at_again : {a : At} → IsPlace a → at (at_text a) ≡ Ok a
at_again {a} place = at_text_again a.name a.offset place.named place.small

-- A line's operands, one after the other.

pub with_name : {A P : Type 0} (w : List ℕ) {f : List ℕ → Result A LineFault} {y : A} → (name w >>= f) ≡ Ok y
    → ((n : List ℕ) → is_name n ≡ true → f n ≡ Ok y → P) → P
with_name w {f} {y} e go = let was = then_was (name w) f y e in go was.0 (
    name_of_is w was.0 (is_name w) refl (ok_or_was (Text TextKind.Name) (name_of w) was.0 was.1)) was.2

pub with_number : {A P : Type 0} (w : List ℕ) {f : ℕ → Result A LineFault} {y : A} → (number w >>= f) ≡ Ok y
    → ((n : ℕ) → n < 2 ^ 64 → f n ≡ Ok y → P) → P
with_number w {f} {y} e go = let was = then_was (number w) f y e in go was.0 (
    number_of_word-below w was.0 (ok_or_was (Text TextKind.Number) (number_of_word w) was.0 was.1)) was.2

pub is_this : {A : Type 0} {x y : A} → ◌≡◌ {A = Result A LineFault} (Ok x) (Ok y) → (P : A → Type 0) → P x → P y
is_this {x} {y} e P p = let same : x ≡ y = cc in subst P same p

pub at_was : (w : List ℕ) (a : At) → at w ≡ Ok a → IsPlace a
at_was w a e = elim (cases_cond (list_any is_plus w) _ _ (Ok a) (sym e)) [
  | inl h ↦ with_name (before_first is_plus w) (sym h) (λ n named rest. with_number (after_first is_plus w) rest
      (λ k small done. is_this done IsPlace (record { named = named; small = small })))
  | inr h ↦ with_name w (sym h) (λ n named done. is_this done IsPlace (record { named = named; small = omega arith }))
]

pub with_at : {A P : Type 0} (w : List ℕ) {f : At → Result A LineFault} {y : A} → (at w >>= f) ≡ Ok y
    → ((a : At) → IsPlace a → f a ≡ Ok y → P) → P
with_at w {f} {y} e go = let was = then_was (at w) f y e in go was.0 (at_was w was.0 was.1) was.2

pub is_solid-at : {a : At} → IsPlace a → is_solid (at_text a) ≡ true
is_solid-at place = grind (arith, cond_both, is_solid, is_solid-name, is_solid-append, is_solid-decimal)

pub is_word-at : {a : At} → IsPlace a → is_word (at_text a) ≡ true
is_word-at place = grind (arith, cond_both, is_word, is_word-name, is_word-append, is_solid-decimal)
