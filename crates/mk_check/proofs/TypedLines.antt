-- What a well-typed line says of its registers, its types and its globals.
use Rattle.std.proofs.Common.{eqb-true}
use Rattle.mk_check.proofs.Vocabulary.{Around, At, Item, List, None, Option, Some, TypeKind, TypeWord, ℕ, and_parts, ap}
use Rattle.mk_check.proofs.Vocabulary.{arith, base_of, bytes_eq-Decides, global_type, moved_by, option_map, pointer_at}
use Rattle.mk_check.proofs.Vocabulary.{refl, same_Some, sym, true, type_words, typing_fault, word_among, ◌+◌, ◌∙◌, ◌≡◌}
use Rattle.mk_check.{proofs.FaultLemmas.{HasValue, has_value, or-None, unless-None}, specs.Typing.{unless}}
use Rattle.mk_check.specs.Typing.{base_of_global, inside_fault, is_base, kind_fault, number_word_fault, place_behind}
use Rattle.mk_check.specs.Typing.{pointed_place, pointer_fault, pointer_word_fault, same_at, type_fault, type_word_at}
use Rattle.mk_script.specs.declared.items.Item.TheVariants.{Casp, Clear, Free, Getn, Getp, Isnull, Lea, Loadg, Move}
use Rattle.mk_script.specs.declared.items.Item.TheVariants.{New, Same, Setn, Setp, Show, Storeg}
use Rattle.mk_script.specs.declared.items.TypeWord.TheVariants.{Number, Pointer}

-- The register points to a place from which this word is i words on.
pub record PointsBefore (program script : List Item) (pointer : List ℕ) (i : ℕ) (word : TypeWord) : Type 0 where
  pub at : At
  pub declared : pointer_at pointer script ≡ Some at
  pub is : word_among (type_words at.name program) (at.offset + i) ≡ Some word

-- The word i words on points to where the other register does.
pub record PointsBeforeOne (program script : List Item) (pointer : List ℕ) (i : ℕ) (register : List ℕ) : Type 0 where
  pub at : At
  pub word : PointsBefore program script pointer i (Pointer at)
  pub declared : pointer_at register script ≡ Some at

-- The other register points i words on.
pub record PointsBehind (program script : List Item) (pointer : List ℕ) (i : ℕ) (register : List ℕ) : Type 0 where
  pub word : TypeWord
  pub before : PointsBefore program script pointer i word
  pub declared : pointer_at register script ≡ Some (moved_by i before.at)

pub record IsDeclared (script : List Item) (pointer : List ℕ) : Type 0 where
  pub at : At
  pub declared : pointer_at pointer script ≡ Some at

-- Both registers point to one place.
pub record AreAlike (script : List Item) (first second : List ℕ) : Type 0 where
  pub at : At
  pub first_is : pointer_at first script ≡ Some at
  pub second_is : pointer_at second script ≡ Some at

-- The register points to objects of the type.
pub record PointsToType (program script : List Item) (pointer ty : List ℕ) : Type 0 where
  pub words : List TypeWord
  pub is : type_words ty program ≡ Some words
  pub declared : pointer_at pointer script ≡ Some (base_of ty)

-- The register points to the objects of a global.
pub record PointsToGlobal (program script : List Item) (pointer global : List ℕ) : Type 0 where
  pub ty : List ℕ
  pub is : global_type global program ≡ Some ty
  pub declared : pointer_at pointer script ≡ Some (base_of ty)

pub record PointsToBase (script : List Item) (pointer : List ℕ) : Type 0 where
  pub at : At
  pub declared : pointer_at pointer script ≡ Some at
  pub base : at.offset ≡ 0

-- what a line of a script says, given all lines of the script
abbrev pub Says : List Item → List Item → Item → Type 0
Says program script (New pointer ty) = PointsToType program script pointer ty
Says program script (Free pointer) = PointsToBase script pointer
Says program script (Getn number pointer index) = PointsBefore program script pointer index Number
Says program script (Setn pointer index number) = PointsBefore program script pointer index Number
Says program script (Getp loaded pointer index) = PointsBeforeOne program script pointer index loaded
Says program script (Setp pointer index stored) = PointsBeforeOne program script pointer index stored
Says program script (Casp number pointer index expected stored) =
    PointsBeforeOne program script pointer index expected × PointsBeforeOne program script pointer index stored
Says program script (Lea moved pointer index) = PointsBehind program script pointer index moved
Says program script (Move copied pointer) = AreAlike script copied pointer
Says program script (Clear pointer) = IsDeclared script pointer
Says program script (Loadg loaded global) = PointsToGlobal program script loaded global
Says program script (Storeg stored global) = PointsToGlobal program script stored global
Says program script (Same number first second) = IsDeclared script first × IsDeclared script second
Says program script (Isnull number pointer) = IsDeclared script pointer
Says program script (Show pointer) = IsDeclared script pointer
Says program script item = Unit {0}

record AreOne (s t : Option At) : Type 0 where
  at : At
  first : s ≡ Some at
  second : t ≡ Some at

abbrev at_of : List ℕ → ℕ → At
at_of name offset = record { name = name; offset = offset }

are_one : (s t : Option At) → same_at s t ≡ true → AreOne s t
are_one x0 x1 e = grind (arith, and_parts, bytes_eq-Decides, eqb-true, at_of)

pointer_word : (word : Option TypeWord) (at : At) → pointed_place word ≡ Some at → word ≡ Some (Pointer at)
pointer_word x0 at e = grind (arith, same_Some)

module _ (a : Around) (script : List Item) (stays : (name : List ℕ) (at : At) → pointer_at name a.script ≡ Some at
    → pointer_at name script ≡ Some at) where
  declared : (pointer : List ℕ) → pointer_fault a pointer ≡ None → IsDeclared script pointer
  declared pointer e =
      let found = has_value (pointer_at pointer a.script) (unless-None _ TypeKind.NoRegister e) in
      record { at = found.value; declared = stays pointer found.value found.is }

  before : (pointer : List ℕ) (i : ℕ) (word : TypeWord) → type_word_at a (place_behind a pointer i) ≡ Some word
      → PointsBefore a.program script pointer i word
  before pointer i word e = by_place (pointer_at pointer a.script) refl e
    where
      by_place : (place : Option At) → pointer_at pointer a.script ≡ place
          → type_word_at a (option_map (moved_by i) place) ≡ Some word → PointsBefore a.program script pointer i word
      by_place x0 is f = grind (arith, declared)

  before_number : (pointer : List ℕ) (i : ℕ) → number_word_fault a pointer i ≡ None
      → PointsBefore a.program script pointer i Number
  before_number pointer i e = before pointer i Number (grind arith)

  before_one : (pointer : List ℕ) (i : ℕ) (register : List ℕ) → pointer_word_fault a pointer i register ≡ None
      → PointsBeforeOne a.program script pointer i register
  before_one pointer i register e =
      let one = are_one (pointed_place (type_word_at a (place_behind a pointer i))) (pointer_at register a.script)
      (unless-None _ TypeKind.Kind e) in
      record {
        at = one.at;
        word = before pointer i (Pointer one.at) (pointer_word _ one.at one.first);
        declared = stays register one.at one.second;
      }

  behind : (pointer : List ℕ) (i : ℕ) (register : List ℕ) → inside_fault a (place_behind a pointer i) ≡ None
      → kind_fault (pointer_at register a.script) (place_behind a pointer i) ≡ None
      → PointsBehind a.program script pointer i register
  behind pointer i register inside alike =
      by_place (pointer_at pointer a.script) refl (has_value _ (unless-None _ TypeKind.Offset inside))
      (are_one _ _ (unless-None _ TypeKind.Kind alike))
    where
      by_place : (place : Option At) → pointer_at pointer a.script ≡ place
          → HasValue (type_word_at a (option_map (moved_by i) place)) → AreOne (pointer_at register a.script)
          (option_map (moved_by i) place) → PointsBehind a.program script pointer i register
      by_place None is word one = let f = one.second in cc
      by_place (Some at) is word one =
          let same : one.at ≡ moved_by i at = sym (same_Some (moved_by i at) one.at one.second) in
          record {
            word = word.value;
            before = record { at = at; declared = stays pointer at is; is = word.is };
            declared = stays register (moved_by i at) (one.first ∙ ap Some same);
          }

  alike : (first second : List ℕ) → kind_fault (pointer_at first a.script) (pointer_at second a.script) ≡ None
      → AreAlike script first second
  alike first second e =
      let one = are_one (pointer_at first a.script) (pointer_at second a.script) (unless-None _ TypeKind.Kind e) in
      record { at = one.at; first_is = stays first one.at one.first; second_is = stays second one.at one.second }

  to_type : (pointer ty : List ℕ) → type_fault a ty ≡ None
      → kind_fault (pointer_at pointer a.script) (Some (base_of ty)) ≡ None → PointsToType a.program script pointer ty
  to_type pointer ty e f =
      let found = has_value (type_words ty a.program) (unless-None _ TypeKind.NoType e) in
      let one = are_one (pointer_at pointer a.script) (Some (base_of ty)) (unless-None _ TypeKind.Kind f) in
      record { words = found.value; is = found.is; declared = stays pointer (base_of ty) (one.first ∙ sym one.second) }

  to_global : (pointer global : List ℕ) → kind_fault (pointer_at pointer a.script) (base_of_global a global) ≡ None
      → PointsToGlobal a.program script pointer global
  to_global pointer global e =
      by_type (global_type global a.program) refl
      (are_one (pointer_at pointer a.script) (base_of_global a global) (unless-None _ TypeKind.Kind e))
    where
      by_type : (ty : Option (List ℕ)) → global_type global a.program ≡ ty → AreOne (pointer_at pointer a.script)
          (option_map base_of ty) → PointsToGlobal a.program script pointer global
      by_type x0 is one = grind (arith, declared)

  to_base : (pointer : List ℕ) → unless (is_base (pointer_at pointer a.script)) TypeKind.InteriorFree ≡ None
      → PointsToBase script pointer
  to_base pointer e = by_place (pointer_at pointer a.script) refl (unless-None _ TypeKind.InteriorFree e)
    where
      by_place : (place : Option At) → pointer_at pointer a.script ≡ place → is_base place ≡ true
          → PointsToBase script pointer
      by_place x0 is f = grind (arith, declared, eqb-true)

  -- a well-typed line
  pub says : (line : ℕ) (after : List Item) (item : Item) → typing_fault a line after item ≡ None
      → Says a.program script item
  says line after item e =
      grind (arith, or-None, to_type, to_base, before_number, before_one, behind, alike, declared, to_global)
