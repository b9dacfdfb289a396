-- The item that a line's operands say, its own words say again.
use Rattle.std.proofs.lemmas.List.Elements.{All-append, All-cons, All-head, All-nil, All-replicate, All-tail}
use Rattle.std.proofs.{Common.{eqb-true, inl, inr, leb-true}, lemmas.Bool.{cases_cond, cond_both}}
use Rattle.std.proofs.lemmas.List.{length-replicate, replicate_more}
use Rattle.std.specs.{Option.{is_some, option_and_then, option_map, unwrap_or}, List.All, Result.result_ok}
use Rattle.mk_script.proofs.Vocabulary.{At, Bool, Err, Item, Keyword, LineFault, List, None, Ok, Option, Result, Some}
use Rattle.mk_script.proofs.Vocabulary.{ℕ, and_from, and_parts, ap, append_assoc, arith, at, at_text, codes, cond}
use Rattle.mk_script.proofs.Vocabulary.{cond-true, decimal, fields_behind, fields_of, has_word_count, have_form}
use Rattle.mk_script.proofs.Vocabulary.{item_from, keyword_of, le-leb, length, length-append, list_all, name, nat_eq}
use Rattle.mk_script.proofs.Vocabulary.{nat_le, number_of_word, refl, replicate, subst, suc, sym, true, words_of_item}
use Rattle.mk_script.proofs.Vocabulary.{zero, [], ◌++◌, ◌+◌, ◌<◌, ◌>>=◌, ◌^◌, ◌∙◌, ◌∷◌, ◌≡◌, ◌≢◌, ◌≤◌}
use Rattle.mk_script.proofs.Layouts.{AName, ANumber, APlace, Kind, Makes, ValueOf, Values, all_written, have_form-plain}
use Rattle.mk_script.proofs.Layouts.{layout, layout_keyword, layout_says, layout_words, made, read, says, written}
use Rattle.mk_script.proofs.LineWords.{AreWords, is_solid-decimal, is_word, is_word-append, is_word-decimal}
use Rattle.mk_script.proofs.Said.{IsPlace, at_again, at_was, is_solid-at, is_word-at, is_word-name, name_again}
use Rattle.mk_script.proofs.Said.{number_again, then_again, with_at, with_name, with_number}
use Rattle.mk_script.proofs.PrintedNumbers.{number_of_word-decimal}
use Rattle.mk_script.specs.Operands.{field_of, number, number_field, numbers, pointer_field}
use Rattle.mk_script.specs.declared.items.TypeWord.TheVariants.{Number, Pointer}
use Rattle.mk_script.specs.{declared.keywords.Keyword.TheVariants.{Heap, TypeLine}, Canonical.numbers_before}
use Rattle.mk_script.specs.{Operands.is_name, declared.items.TypeWord.TypeWord}

-- The fields of a type's line: what they say, they say again as they are printed.

-- a word of a type whose place is one
abbrev pub IsTypeWord : TypeWord → Type 0
IsTypeWord Number = Unit {0}
IsTypeWord (Pointer at) = IsPlace at

-- a field says these words
pub record IsFieldOf (field : List ℕ) (words : List TypeWord) : Type 0 where
  pub says : field_of field ≡ Some words
  pub word : is_word field ≡ true

numbers_again : (count : ℕ) → 0 < count → numbers count ≡ Some (replicate count Number)
numbers_again count some = cond-true _ _ _ (le-leb 1 count some)

many_numbers : (count : ℕ) → 0 < count → count < 2 ^ 64
    → IsFieldOf (codes "n*" ++ decimal count) (replicate count Number)
many_numbers count some small = grind (arith, number_of_word-decimal, numbers_again, is_word-append, is_solid-decimal)

-- fields that each say something, together these words
pub record AreFieldsOf (fields : List (List ℕ)) (words : List TypeWord) : Type 0 where
  pub say : fields_of fields ≡ words
  pub each : list_all (λ field. is_some (field_of field)) fields ≡ true
  pub apart : AreWords fields

one_more : {field : List ℕ} {fields : List (List ℕ)} {first words : List TypeWord} → IsFieldOf field first
    → AreFieldsOf fields words → AreFieldsOf (field ∷ fields) (first ++ words)
one_more f fs = grind (arith, and_from)

numbers_before_again : (count : ℕ) (fields : List (List ℕ)) (words : List TypeWord) → count < 2 ^ 64
    → AreFieldsOf fields words → AreFieldsOf (numbers_before count fields) (replicate count Number ++ words)
numbers_before_again zero fields words small fs = fs
numbers_before_again (suc count) fields words small fs =
    one_more
    (cond_both (nat_eq (suc count) 1) (codes "n") (codes "n*" ++ decimal (suc count))
    (λ field. IsFieldOf field (replicate (suc count) Number))
    (λ one. subst (λ k. IsFieldOf (codes "n") (replicate k Number)) (sym (eqb-true (suc count) 1 one))
    (record { says = refl; word = refl })) (λ more. many_numbers (suc count) (omega arith) small)) fs

pub fields_again : (words : List TypeWord) (count : ℕ) → All IsTypeWord words → count + length words < 2 ^ 64
    → AreFieldsOf (fields_behind words count) (replicate count Number ++ words)
fields_again [] count all small = numbers_before_again count [] [] (omega arith)
    (record { say = refl; each = refl; apart = tt })
fields_again (Number ∷ words) count all small =
    let later = fields_again words (count + 1) (All-tail IsTypeWord Number words all) (omega arith) in
    let same : replicate (count + 1) Number ++ words ≡ replicate count Number ++ (Number ∷ words) =
    rw (← replicate_more count Number) (append_assoc (replicate count Number) (Number ∷ []) words) in
    subst (λ ws. AreFieldsOf (fields_behind words (count + 1)) ws) same later
fields_again (Pointer a ∷ words) count all small =
    let later = fields_again words 0 (All-tail IsTypeWord (Pointer a) words all) (omega arith) in
    let place : IsPlace a = All-head IsTypeWord (Pointer a) words all in
    numbers_before_again count ((codes "p:" ++ at_text a) ∷ fields_behind words 0) (Pointer a ∷ words) (omega arith)
    (one_more {first = Pointer a ∷ []} (grind (arith, at_again, is_word-append, is_solid-at)) later)

numbers_before_some : (count : ℕ) (fields : List (List ℕ)) → 0 < count + length fields
    → 0 < length (numbers_before count fields)
numbers_before_some x0 fields some = grind arith

-- a type that has words has fields
pub fields_behind_some : (words : List TypeWord) (count : ℕ) → 0 < count + length words
    → 0 < length (fields_behind words count)
fields_behind_some [] count some = numbers_before_some count [] some
fields_behind_some (Number ∷ words) count some = fields_behind_some words (count + 1) (omega arith)
fields_behind_some (Pointer a ∷ words) count some =
    numbers_before_some count ((codes "p:" ++ at_text a) ∷ fields_behind words 0) (omega arith)

-- What fields said.

pub record AreSaid (words : List TypeWord) : Type 0 where
  pub all : All IsTypeWord words
  pub some : 0 < length words

cond_was : {A : Type 0} (b : Bool) (x y : A) → cond b (Some x) None ≡ Some y → (b ≡ true) × (x ≡ y)
cond_was x0 x y e = grind arith

and_then_was : {A B : Type 0} (f : A → Option B) (o : Option A) (y : B) → option_and_then f o ≡ Some y
    → (x : A) × (f x ≡ Some y)
and_then_was f x1 y e = grind arith

numbers_were : (digits : List ℕ) (words : List TypeWord) → option_and_then numbers (number_of_word digits) ≡ Some words
    → AreSaid words
numbers_were digits words e =
    let step = and_then_was numbers (number_of_word digits) words e in
    let was = cond_was (nat_le 1 step.0) (replicate step.0 Number) words step.1 in
    let some : 0 < step.0 = leb-true 1 step.0 was.0 in
    subst AreSaid was.1 (record {
      all = All-replicate IsTypeWord step.0 Number tt;
      some = omega (arith, length-replicate step.0 Number);
    })

one_was : (word : TypeWord) (words : List TypeWord) → IsTypeWord word → word ∷ [] ≡ words → AreSaid words
one_was word words is same =
    subst AreSaid same (record { all = All-cons IsTypeWord word [] is (All-nil IsTypeWord); some = omega arith })

starred_was : (rest : List ℕ) (words : List TypeWord) → number_field rest ≡ Some words → AreSaid words
starred_was x0 words e = grind (arith, one_was, cases_cond, numbers_were)

place_was : (r : Result At LineFault) (words : List TypeWord)
    → option_map (λ a. Pointer a ∷ []) (result_ok r) ≡ Some words → ((a : At) → r ≡ Ok a → IsPlace a) → AreSaid words
place_was x0 words e is = grind (arith, one_was)

pointed_was : (rest : List ℕ) (words : List TypeWord) → pointer_field rest ≡ Some words → AreSaid words
pointed_was [] words e = absurd cc
pointed_was (colon ∷ place) words e =
    elim (cases_cond (nat_eq colon 58) _ _ (Some words) (sym e))
    [ inl h ↦ place_was (at place) words (sym h) (at_was place) | inr h ↦ absurd cc ]

field_was : (field : List ℕ) (words : List TypeWord) → field_of field ≡ Some words → AreSaid words
field_was x0 words e = grind (arith, cases_cond, starred_was, pointed_was)

some_said : (said : Option (List TypeWord)) → is_some said ≡ true
    → ((words : List TypeWord) → said ≡ Some words → AreSaid words) → AreSaid (unwrap_or said [])
some_said x0 e was = grind arith

-- the words of fields that each say something
pub fields_were : (fields : List (List ℕ)) → list_all (λ field. is_some (field_of field)) fields ≡ true
    → All IsTypeWord (fields_of fields)
fields_were [] e = All-nil IsTypeWord
fields_were (field ∷ fields) e =
    let parts = and_parts _ _ e in
    All-append IsTypeWord (unwrap_or (field_of field) []) (fields_of fields)
    (some_said (field_of field) parts.0 (field_was field)).all (fields_were fields parts.1)

pub fields_were_some : (field : List ℕ) (fields : List (List ℕ))
    → list_all (λ field. is_some (field_of field)) (field ∷ fields) ≡ true → 0 < length (fields_of (field ∷ fields))
fields_were_some field fields e =
    let first = (some_said (field_of field) (and_parts _ _ e).0 (field_was field)).some in
    omega (arith, length-append (unwrap_or (field_of field) []) (fields_of fields))

-- its words are those of a line of the form, and say it
pub record Printed (form : Keyword) (item : Item) : Type 0 where
  pub word : List ℕ
  pub operands : List (List ℕ)
  pub words : words_of_item item ≡ word ∷ operands
  pub keyword : keyword_of word ≡ Some form
  pub count : has_word_count form (length operands) ≡ true
  pub formed : have_form form operands ≡ true
  pub reads : item_from form operands ≡ Ok item
  pub apart : AreWords (word ∷ operands)

pub no_item : {A P : Type 0} {fault : LineFault} {x : A} → ◌≡◌ {A = Result A LineFault} (Err fault) (Ok x) → P
no_item e = absurd cc

pub read_name : {A : Type 0} (n : List ℕ) → is_name n ≡ true
    → (f : List ℕ → Result A LineFault) {y : Result A LineFault} → f n ≡ y → (name n >>= f) ≡ y
read_name n p f {y} e = then_again (name n) f n y (name_again n p) e

pub read_number : {A : Type 0} (n : ℕ) → n < 2 ^ 64 → (f : ℕ → Result A LineFault) {y : Result A LineFault} → f n ≡ y
    → (number (decimal n) >>= f) ≡ y
read_number n p f {y} e = then_again (number (decimal n)) f n y (number_again n p) e

record IsOperand (k : Kind) (x : ValueOf k) : Type 0 where
  again : read k (written k x) ≡ Ok x
  apart : is_word (written k x) ≡ true

with_operand : {A P : Type 0} (k : Kind) (w : List ℕ) {f : ValueOf k → Result A LineFault} {y : A}
    → (read k w >>= f) ≡ Ok y → ((x : ValueOf k) → IsOperand k x → f x ≡ Ok y → P) → P
with_operand AName w e go =
    with_name w e (λ n p e. go n (record { again = name_again n p; apart = is_word-name n p }) e)
with_operand ANumber w e go =
    with_number w e (λ n p e. go n (record { again = number_again n p; apart = is_word-decimal n p }) e)
with_operand APlace w e go = with_at w e (λ a p e. go a (record { again = at_again p; apart = is_word-at p }) e)

-- the values that a line's operands say, and say again as they are printed
record Again (ks : List Kind) (make : Makes ks) (count : ℕ) (item : Item) : Type 0 where
  values : Values ks
  is : made ks make values ≡ item
  same_count : length (all_written ks values) ≡ count
  reads : says ks make (all_written ks values) ≡ Ok item
  apart : AreWords (all_written ks values)

again : (ks : List Kind) (make : Makes ks) (operands : List (List ℕ)) (line : Item) → says ks make operands ≡ Ok line
    → Again ks make (length operands) line
again [] make [] line e = record { values = tt; is = cc; same_count = refl; reads = e; apart = tt }
again [] make (operand ∷ operands) line e = no_item e
again (k ∷ ks) make [] line e = no_item e
again (k ∷ ks) make (operand ∷ operands) line e =
    with_operand k operand e (λ x is e.
    let rest = again ks (make x) operands line e in
    record {
      values = (x, rest.values);
      is = rest.is;
      same_count = ap suc rest.same_count;
      reads = rw is.again rest.reads;
      apart = (is.apart, rest.apart);
    })

-- a type has at most 4096 words
abbrev pub IsShort : Item → Type 0
IsShort (Item.TypeLine name words) = length words ≤ 4096
IsShort item = Unit {0}

solid_word : (form : Keyword) → is_word (layout form).word ≡ true
solid_word Heap = refl
solid_word form = refl

said_plain : (form : Keyword) (operands : List (List ℕ)) (line : Item) → form ≢ TypeLine → has_word_count form
    (length operands) ≡ true → item_from form operands ≡ Ok line → Printed form line
said_plain form operands line other count e =
    let reads = λ (words : List (List ℕ)) (as_many : has_word_count form (length words) ≡ true).
    layout_says form words other ∙ cond-true _ _ _ as_many in
    let of = again _ (layout form).make operands line (sym (reads operands count) ∙ e) in
    let counts : has_word_count form (length (all_written _ of.values)) ≡ true = rw of.same_count count in
    record {
      word = (layout form).word;
      operands = all_written _ of.values;
      words = rw of.is at (layout_words form of.values other);
      keyword = layout_keyword form;
      count = counts;
      formed = have_form-plain form _ other;
      reads = reads _ counts ∙ of.reads;
      apart = (solid_word form, of.apart);
    }

pub said : (form : Keyword) (operands : List (List ℕ)) (line : Item) → IsShort line → has_word_count form
    (length operands) ≡ true → have_form form operands ≡ true → item_from form operands ≡ Ok line → Printed form line
unfolding item_from
said TypeLine [] line short count form e = no_item e
said TypeLine (t ∷ []) line short count form e = absurd cc
said TypeLine (t ∷ field ∷ fields) line short count form e =
    with_name t e (λ n p e.
    let words = fields_of (field ∷ fields) in
    let same : Item.TypeLine n words ≡ line = cc in
    let few : length words ≤ 4096 = subst IsShort (sym same) short in
    let again = fields_again words 0 (fields_were (field ∷ fields) form) (omega arith) in
    let some : 0 < length (fields_behind words 0) =
    fields_behind_some words 0 (omega (arith, fields_were_some field fields form)) in
    subst (Printed TypeLine) same (record {
      word = codes "type";
      operands = n ∷ fields_behind words 0;
      words = refl;
      keyword = refl;
      count = le-leb _ _ (omega arith);
      formed = again.each;
      reads = read_name n p _ (ap (λ ws. Ok (Item.TypeLine n ws)) again.say);
      apart = (refl, (is_word-name n p, again.apart));
    }))
said form operands line short count formed e = said_plain form operands line (λ is. absurd cc) count e
