-- What lines declare, with one line more.
use Rattle.std.{proofs.lemmas.List.Elements.filter_map-append, specs.{Borrow.Bor, List.filter_map}}
use Rattle.mk_check.proofs.Vocabulary.{At, Err, Item, List, None, Ok, OnOk, Option, Result, TypeWord, ap, arith, map}
use Rattle.mk_check.proofs.Vocabulary.{map-append, refl, sym, ℕ, [], ◌++◌, ◌∙◌, ◌∷◌, ◌≡◌}
use Rattle.mk_check.proofs.DeclaredPlaces.{declares_nothing}
use Rattle.mk_check.specs.declared.{declarations.Declarations.Declarations, registers.Registers.Registers}
use Rattle.mk_check.specs.Declarations.{declared_type, declared_words}
use Rattle.mk_check.specs.Typing.{AreDeclared, AreRegisters, declared_for, declared_place}
use Rattle.mk_script.proofs.Pushed.{names_of-append}
use Rattle.mk_script.specs.{declared.items.Item.TheVariants.{Global, Num, Ptr, TypeLine}, Scopes.declared_name}
use Rattle.mk_script.specs.declared.sorts.Sort.{Sort}

-- what an `Ok` has leads to more
pub OnOk-map : {T E P Q : Type 0} (r : Result T E) → (P → Q) → OnOk r P → OnOk r Q
OnOk-map (Ok x) f p = f p
OnOk-map (Err e) f p = p

module _ {X : Type 0} (says : Item → Option (List ℕ × X)) (lines : List Item) (item : Item) where
  said_more : declared_for says (lines ++ item ∷ []) ≡ declared_for says lines ++ declared_for says (item ∷ [])
  said_more = ap (map (λ (d : List ℕ × X). d.1)) (filter_map-append says lines (item ∷ []))
      ∙ map-append (λ (d : List ℕ × X). d.1) (filter_map says lines) (filter_map says (item ∷ []))

  said_nothing : says item ≡ None → declared_for says (lines ++ item ∷ []) ≡ declared_for says lines
  said_nothing none = ap (map (λ (d : List ℕ × X). d.1)) (declares_nothing says lines item none)

module _ (registers now : Registers) (lines : List Item) (known : AreRegisters registers lines) where
  -- a pointer register more
  pub with_pointer : (name : List ℕ) (at : At) → now.pointers ≡ registers.pointers ++ name ∷ []
      → map (λ (a : Bor At). a.now) now.places.items ≡ map (λ (a : Bor At). a.now) registers.places.items ++ at ∷ []
      → now.numbers ≡ registers.numbers → AreRegisters now (lines ++ Ptr name at ∷ [])
  with_pointer name at pointers places numbers = record {
    pointers = pointers ∙ ap (λ (names : List (List ℕ)). names ++ name ∷ []) known.pointers
        ∙ sym (names_of-append Sort.Pointer lines (Ptr name at ∷ []));
    places = places ∙ ap (λ (ats : List At). ats ++ at ∷ []) known.places
        ∙ sym (said_more declared_place lines (Ptr name at));
    numbers = numbers ∙ known.numbers ∙ sym (declares_nothing (declared_name Sort.Number) lines (Ptr name at) refl);
  }

  -- a number register more
  pub with_number : (name : List ℕ) → now.pointers ≡ registers.pointers
      → map (λ (a : Bor At). a.now) now.places.items ≡ map (λ (a : Bor At). a.now) registers.places.items
      → now.numbers ≡ registers.numbers ++ name ∷ [] → AreRegisters now (lines ++ Num name ∷ [])
  with_number name pointers places numbers = record {
    pointers = pointers ∙ known.pointers ∙ sym (declares_nothing (declared_name Sort.Pointer) lines (Num name) refl);
    places = places ∙ known.places ∙ sym (said_nothing declared_place lines (Num name) refl);
    numbers = numbers ∙ ap (λ (names : List (List ℕ)). names ++ name ∷ []) known.numbers
        ∙ sym (names_of-append Sort.Number lines (Num name ∷ []));
  }

-- a line that declares no register
pub with_neither : (registers : Registers) (lines : List Item) (item : Item) → AreRegisters registers lines
    → ((name : List ℕ) (at : At) → item ≡ Ptr name at → ⊥) → ((name : List ℕ) → item ≡ Num name → ⊥)
    → AreRegisters registers (lines ++ item ∷ [])
with_neither registers lines item known no_pointer no_number = record {
  pointers = known.pointers ∙ sym (declares_nothing (declared_name Sort.Pointer) lines item (grind arith));
  places = known.places ∙ sym (said_nothing declared_place lines item (grind arith));
  numbers = known.numbers ∙ sym (declares_nothing (declared_name Sort.Number) lines item (grind arith));
}

module _ (declarations now : Declarations) (lines : List Item) (known : AreDeclared declarations lines) where
  abbrev words_in : Declarations → List (List TypeWord)
  words_in d = map (λ (words : Bor (List TypeWord)). words.now) d.words.items

  abbrev types_in : Declarations → List (List ℕ)
  types_in d = map (λ (ty : Bor (List ℕ)). ty.now) d.global_types.items

  -- a type more
  pub with_type : (name : List ℕ) (words : List TypeWord) → now.types ≡ declarations.types ++ name ∷ []
      → words_in now ≡ words_in declarations ++ words ∷ [] → now.globals ≡ declarations.globals
      → types_in now ≡ types_in declarations → AreDeclared now (lines ++ TypeLine name words ∷ [])
  with_type name words types all globals global_types = record {
    types = types ∙ ap (λ (names : List (List ℕ)). names ++ name ∷ []) known.types
        ∙ sym (names_of-append Sort.Type lines (TypeLine name words ∷ []));
    words = all ∙ ap (λ (ws : List (List TypeWord)). ws ++ words ∷ []) known.words
        ∙ sym (said_more declared_words lines (TypeLine name words));
    globals = globals ∙ known.globals
        ∙ sym (declares_nothing (declared_name Sort.Global) lines (TypeLine name words) refl);
    global_types = global_types ∙ known.global_types
        ∙ sym (said_nothing declared_type lines (TypeLine name words) refl);
  }

  -- a global more
  pub with_global : (name ty : List ℕ) → now.types ≡ declarations.types → words_in now ≡ words_in declarations
      → now.globals ≡ declarations.globals ++ name ∷ [] → types_in now ≡ types_in declarations ++ ty ∷ []
      → AreDeclared now (lines ++ Global name ty ∷ [])
  with_global name ty types all globals global_types = record {
    types = types ∙ known.types ∙ sym (declares_nothing (declared_name Sort.Type) lines (Global name ty) refl);
    words = all ∙ known.words ∙ sym (said_nothing declared_words lines (Global name ty) refl);
    globals = globals ∙ ap (λ (names : List (List ℕ)). names ++ name ∷ []) known.globals
        ∙ sym (names_of-append Sort.Global lines (Global name ty ∷ []));
    global_types = global_types ∙ ap (λ (tys : List (List ℕ)). tys ++ ty ∷ []) known.global_types
        ∙ sym (said_more declared_type lines (Global name ty));
  }

-- a line that declares neither
pub with_no_type : (declarations : Declarations) (lines : List Item) (item : Item) → AreDeclared declarations lines
    → ((name : List ℕ) (words : List TypeWord) → item ≡ TypeLine name words → ⊥)
    → ((name ty : List ℕ) → item ≡ Global name ty → ⊥) → AreDeclared declarations (lines ++ item ∷ [])
with_no_type declarations lines item known no_type no_global = record {
  types = known.types ∙ sym (declares_nothing (declared_name Sort.Type) lines item (grind arith));
  words = known.words ∙ sym (said_nothing declared_words lines item (grind arith));
  globals = known.globals ∙ sym (declares_nothing (declared_name Sort.Global) lines item (grind arith));
  global_types = known.global_types ∙ sym (said_nothing declared_type lines item (grind arith));
}
