-- What stands at the place of a declared name.
use Rattle.std.proofs.lemmas.{List.Elements.filter_map-append, Option.get_or_from_slice_get}
use Rattle.std.specs.List.{cons_option, filter_map, list_any}
use Rattle.mk_check.proofs.Vocabulary.{At, Bool, Item, List, None, Option, Some, TypeWord, ℕ, append-nil, arith}
use Rattle.mk_check.proofs.Vocabulary.{bytes_eq, bytes_eq-Decides, get_or, global_names, global_type, globals_among}
use Rattle.mk_check.proofs.Vocabulary.{if◌then◌else◌, kind_of, kinds_among, kinds_of, length, length-map, map}
use Rattle.mk_check.proofs.Vocabulary.{number_of_name, option_map, option_or, pointer_at, pointer_names, refl}
use Rattle.mk_check.proofs.Vocabulary.{same_Some, slice_get, slice_get_within, suc, sym, type_names, type_words, []}
use Rattle.mk_check.proofs.Vocabulary.{◌++◌, ◌+◌, ◌<◌, ◌∙◌, ◌∷◌, ◌≡◌}
use Rattle.mk_check.specs.{Declarations.{declared_type, declared_words}, Typing.declared_for}
use Rattle.mk_check.specs.Typing.{declared_place, value_of}
use Rattle.std.proofs.{Common.{nat_lt, ◌||◌}, lemmas.Bool.Decides.nat_tests}
use Rattle.mk_script.specs.{Scopes.{declared_name, names_of}, declared.sorts.Sort.Sort}

-- the name at its place
at_place : (name : List ℕ) (names : List (List ℕ)) → number_of_name name names < length names
    → get_or names (number_of_name name names) [] ≡ name
at_place name [] h = absurd (omega arith)
at_place name (other ∷ others) h = by_test (at_place name others) (bytes_eq name other) refl h
  where
    by_test : (number_of_name name others < length others → get_or others (number_of_name name others) [] ≡ name)
        → (same : Bool) → bytes_eq name other ≡ same → (if same then 0 else number_of_name name others + 1) < suc
        (length others) → get_or (other ∷ others) (if same then 0 else number_of_name name others + 1) [] ≡ name
    by_test rest x1 e h = grind (arith, bytes_eq-Decides)

-- names at one place are equal
pub same_place : (name other : List ℕ) (names : List (List ℕ)) → number_of_name name names < length names
    → number_of_name other names < length names → number_of_name name names ≡ number_of_name other names → name ≡ other
same_place name other names h h' e = cc (at_place name names h, at_place other names h')

-- a line that declares nothing of a kind
pub declares_nothing : {X : Type 0} (says : Item → Option X) (items : List Item) (item : Item) → says item ≡ None
    → filter_map says (items ++ item ∷ []) ≡ filter_map says items
declares_nothing says items item none =
    filter_map-append says items (item ∷ []) ∙ rw none (append-nil (filter_map says items))

module _ {X : Type 0} where
  abbrev names_in : List (List ℕ × X) → List (List ℕ)
  names_in declared = map (λ (d : List ℕ × X). d.0) declared

  pub value_of-append : (name : List ℕ) (declared others : List (List ℕ × X))
      → value_of name (declared ++ others) ≡ option_or (value_of name declared) (value_of name others)
  value_of-append name [] others = refl
  value_of-append name (one ∷ declared) others =
      by_test (bytes_eq name one.0) one.1 _ _ (value_of-append name declared others)
    where
      by_test : (same : Bool) (x : X) (first rest : Option X)
          → value_of name (declared ++ others) ≡ option_or first rest → (if same then Some x else value_of name
          (declared ++ others)) ≡ option_or (if same then Some x else first) rest
      by_test x0 x first rest e = grind arith

  pub said_of-append : (says : Item → Option (List ℕ × X)) (name : List ℕ) (items others : List Item)
      → value_of name (filter_map says (items ++ others))
      ≡ option_or (value_of name (filter_map says items)) (value_of name (filter_map says others))
  said_of-append says name items others =
      rw (filter_map-append says items others) (value_of-append name (filter_map says items) (filter_map says others))

  -- what a name is declared for stands at its number, and nothing stands there where it isn't declared
  value_by_number : (name : List ℕ) (declared : List (List ℕ × X)) → value_of name declared
      ≡ slice_get (map (λ (d : List ℕ × X). d.1) declared) (number_of_name name (names_in declared))
  value_by_number name [] = refl
  value_by_number name (one ∷ declared) = by_test (value_by_number name declared) (bytes_eq name one.0)
    where
      by_test : value_of name declared
          ≡ slice_get (map (λ (d : List ℕ × X). d.1) declared) (number_of_name name (names_in declared))
          → (same : Bool) → (if same then Some one.1 else value_of name declared)
          ≡ slice_get (one.1 ∷ map (λ (d : List ℕ × X). d.1) declared)
          (if same then 0 else number_of_name name (names_in declared) + 1)
      by_test rest x1 = grind arith

  -- what a name is declared for stands at its place
  pub value_place : {Y : Type 0} (f : X → Y) (name : List ℕ) (declared : List (List ℕ × X)) (x : X)
      → value_of name declared ≡ Some x
      → slice_get (map (λ (d : List ℕ × X). f d.1) declared) (number_of_name name (names_in declared)) ≡ Some (f x)
  value_place f name [] x e = cc
  value_place f name (one ∷ declared) x e = by_test (value_place f name declared x) (bytes_eq name one.0) e
    where
      by_test : (value_of name declared ≡ Some x → slice_get (map (λ (d : List ℕ × X). f d.1) declared)
          (number_of_name name (names_in declared)) ≡ Some (f x)) → (same : Bool) → (if same then Some one.1 else
          value_of name declared) ≡ Some x → slice_get (f one.1 ∷ map (λ (d : List ℕ × X). f d.1) declared)
          (if same then 0 else number_of_name name (names_in declared) + 1) ≡ Some (f x)
      by_test rest x1 h = grind (arith, same_Some)

  -- Lines that say of a name of the sort what it is declared for.
  module _ (s : Sort) (says : Item → Option (List ℕ × X)) (named : (item : Item)
      → declared_name s item ≡ option_map (λ (d : List ℕ × X). d.0) (says item)) where
    pub names_are : (items : List Item) → names_of s items ≡ names_in (filter_map says items)
    names_are [] = refl
    names_are (item ∷ items) = rw (named item, names_are items) (by_said (says item))
      where
        by_said : (said : Option (List ℕ × X)) → cons_option (option_map (λ (d : List ℕ × X). d.0) said)
            (names_in (filter_map says items)) ≡ names_in (cons_option said (filter_map says items))
        by_said x0 = grind arith

    pub declared_at : {Y : Type 0} (f : X → Y) (name : List ℕ) (items : List Item) (x : X) → value_of name
        (filter_map says items) ≡ Some x → slice_get (map (λ (d : List ℕ × X). f d.1) (filter_map says items))
        (number_of_name name (names_of s items)) ≡ Some (f x)
    declared_at f name items x e = rw (names_are items) (value_place f name (filter_map says items) x e)

    pub value_at_number : (name : List ℕ) (items : List Item) → value_of name (filter_map says items)
        ≡ slice_get (map (λ (d : List ℕ × X). d.1) (filter_map says items)) (number_of_name name (names_of s items))
    value_at_number name items = rw (names_are items) (value_by_number name (filter_map says items))

    pub length-declared : {Y : Type 0} (f : List ℕ × X → Y) (items : List Item)
        → length (map f (filter_map says items)) ≡ length (names_of s items)
    length-declared f items = rw (names_are items) (length-map (filter_map says items) f
        ∙ sym (length-map (filter_map says items) (λ (d : List ℕ × X). d.0)))

    pub declared_within : (name : List ℕ) (items : List Item) (x : X) → value_of name (filter_map says items) ≡ Some x
        → number_of_name name (names_of s items) < length (names_of s items)
    declared_within name items x e =
        rw (← length-declared (λ (d : List ℕ × X). d.1) items)
        (slice_get_within _ _ _ (declared_at (λ x. x) name items x e))

pub word_named : (item : Item) → declared_name Sort.Type item ≡ option_map (λ d. d.0) (declared_words item)
word_named item = grind arith

pub type_named : (item : Item) → declared_name Sort.Global item ≡ option_map (λ d. d.0) (declared_type item)
type_named item = grind arith

pub place_named : (item : Item) → declared_name Sort.Pointer item ≡ option_map (λ d. d.0) (declared_place item)
place_named item = grind arith

pub type_words_are : (name : List ℕ) (items : List Item) → type_words name items
    ≡ slice_get (declared_for declared_words items) (number_of_name name (type_names items))
type_words_are name items = value_at_number Sort.Type declared_words word_named name items

pub global_type_is : (name : List ℕ) (items : List Item) → global_type name items
    ≡ slice_get (declared_for declared_type items) (number_of_name name (global_names items))
global_type_is name items = value_at_number Sort.Global declared_type type_named name items

pub pointer_at_is : (name : List ℕ) (items : List Item) → pointer_at name items
    ≡ slice_get (declared_for declared_place items) (number_of_name name (pointer_names items))
pointer_at_is name items = value_at_number Sort.Pointer declared_place place_named name items

-- a name is one of these where its number is one of theirs
pub number_within : (name : List ℕ) (names : List (List ℕ))
    → nat_lt (number_of_name name names) (length names) ≡ list_any (bytes_eq name) names
number_within name [] = refl
number_within name (other ∷ others) = by_test (bytes_eq name other) (number_within name others)
  where
    by_test : (same : Bool) → nat_lt (number_of_name name others) (length others) ≡ list_any (bytes_eq name) others
        → nat_lt (if same then 0 else number_of_name name others + 1) (suc (length others))
        ≡ (same || list_any (bytes_eq name) others)
    by_test x0 rest = grind (arith, nat_tests)

pub pointer_within : (name : List ℕ) (lines : List Item) (at : At) → pointer_at name lines ≡ Some at
    → number_of_name name (pointer_names lines) < length (pointer_names lines)
pointer_within name lines at e = declared_within Sort.Pointer declared_place place_named name lines at e

pub global_within : (name : List ℕ) (items : List Item) (ty : List ℕ) → global_type name items ≡ Some ty
    → number_of_name name (global_names items) < length (global_names items)
global_within name items ty e = declared_within Sort.Global declared_type type_named name items ty e

module _ (types : List (List ℕ)) where
  -- the kinds of a type are those of its words
  pub type_place : (name : List ℕ) (items : List Item) (words : List TypeWord) → type_words name items ≡ Some words
      → (number_of_name name (type_names items) < length (kinds_among types items))
      × (kinds_of (kinds_among types items) (number_of_name name (type_names items)) ≡ map (kind_of types) words)
  type_place name items words e =
      let at = declared_at Sort.Type declared_words word_named (map (kind_of types)) name items words e in
      (slice_get_within _ _ _ at, get_or_from_slice_get (kinds_among types items) _ _ [] at)

  -- a global has the type that it is declared for
  pub global_place : (name : List ℕ) (items : List Item) (ty : List ℕ) → global_type name items ≡ Some ty → slice_get
      (globals_among types items) (number_of_name name (global_names items)) ≡ Some (number_of_name ty types)
  global_place name items ty e =
      declared_at Sort.Global declared_type type_named (λ ty. number_of_name ty types) name items ty e
