-- A caller's registers hold what its script declares them for, and its typed lines keep them so.
use Rattle.std.proofs.lemmas.Option.{get_or_from_slice_get, slice_get-map}
use Rattle.mk_check.proofs.Vocabulary.{At, IfSome, IsOfKind, Item, Kind, List, NeverState, Option, Some, TypeWord}
use Rattle.mk_check.proofs.Vocabulary.{Value, ℕ, ap, arith, base_of, get_or, global_names, global_type, globals_of}
use Rattle.mk_check.proofs.Vocabulary.{kind_of, kinds_of, length, length-map, map, moved_by, number_of_name, option_map}
use Rattle.mk_check.proofs.Vocabulary.{pointer_at, pointer_names, same_Some, slice_get, slice_get_within, subst, sym}
use Rattle.mk_check.proofs.Vocabulary.{type_names, type_words, types_of, word_among, ◌*◌, ◌+◌, ◌<◌, ◌∙◌, ◌≡◌}
use Rattle.mk_check.proofs.DeclaredPlaces.{global_place, pointer_within, same_place, type_place}
use Rattle.mk_check.proofs.TypedLines.{PointsBefore}
use Rattle.mk_never.{proofs.Edits.{exists, if_by, set_by}, specs.declared.values.Target.TheVariants.{WordOf}}
use Rattle.mk_never.specs.NeverHeap.{allocation_at, global_at, moved_on, register_at, target_of, with_register, word_at}
use Rattle.mk_never.specs.{NeverHeap.words_of, Admitted.{IsSound, IsTyped, kind_in}}
use Rattle.mk_never.specs.{declared.values.Value.TheVariants.{Null, Ptr}, Admitted.{IsCaller, Meets}}
use Rattle.mk_script.specs.declared.items.TypeWord.TheVariants.{Pointer}
use Rattle.mk_never.specs.declared.types.Kind.TheVariants.{Num as NumKind, To}

-- what a register that is declared for this place holds
abbrev pub kind_at : List Item → At → Kind
kind_at program at = kind_of (type_names program) (Pointer at)

-- what the caller's register of this name holds
abbrev pub register_of : List Item → NeverState → ℕ → List ℕ → Value
register_of script n caller name = register_at n caller (number_of_name name (pointer_names script))

-- Each register that the script declares is null or points to the place that it is declared for.
abbrev pub AreAsDeclared : List Item → List Item → NeverState → ℕ → Type 0
AreAsDeclared program script n caller =
    (name : List ℕ) (at : At) → pointer_at name script ≡ Some at
    → IsOfKind (register_of script n caller name) (kind_at program at)

-- A state of the program's types, in which the caller has the script's registers.
pub record FitsScript (program script : List Item) (n : NeverState) (caller : ℕ) : Type 0 where
  pub types : n.types ≡ types_of program
  pub globals : length n.globals ≡ 64
  pub of_a_caller : IsCaller n caller
  pub typed : IsTyped (globals_of program) n
  pub declared : AreAsDeclared program script n caller

-- A register that is set to what it is declared for.
pub set_register : (program script : List Item) (n : NeverState) (caller : ℕ) (name : List ℕ) (at : At) (v : Value)
    → AreAsDeclared program script n caller → pointer_at name script ≡ Some at → IsOfKind v (kind_at program at)
    → AreAsDeclared program script (with_register n caller (number_of_name name (pointer_names script)) v) caller
set_register program script n caller name at v before is of_kind = λ other at' is'.
    let here : 8 * caller + number_of_name other (pointer_names script)
    ≡ 8 * caller + number_of_name name (pointer_names script)
    → IsOfKind v (kind_at program at') = grind (arith, same_place, pointer_within, same_Some, kind_at) in
    set_by (λ x. IsOfKind x (kind_at program at')) _ (8 * caller + number_of_name name (pointer_names script)) (8 *
    caller + number_of_name other (pointer_names script)) v Null here (before other at' is')

-- What is i words on from a register.

record WordAmong (words : Option (List TypeWord)) (i : ℕ) (word : TypeWord) : Type 0 where
  all : List TypeWord
  is : words ≡ Some all
  at : slice_get all i ≡ Some word

word_in : (words : Option (List TypeWord)) (i : ℕ) (word : TypeWord) → word_among words i ≡ Some word
    → WordAmong words i word
word_in x0 i word e = grind arith

pub meets_weaker : (n : NeverState) (v : Value) (i : ℕ) (P Q : Kind → Type 0) → ((kind : Kind) → P kind → Q kind)
    → Meets n v i P → Meets n v i Q
meets_weaker n x1 i x3 x4 weaker meets = grind arith

-- a pointer to a place: the word i words on is inside its type
meets_word : (program : List Item) {n : NeverState} (v : Value) (at : At) (i : ℕ) (word : TypeWord)
    → n.types ≡ types_of program → IsTyped (globals_of program) n → IsSound n v → IsOfKind v (kind_at program at)
    → word_among (type_words at.name program) (at.offset + i) ≡ Some word
    → Meets n v i (λ kind. kind ≡ kind_of (type_names program) word)
meets_word program {n = n} (Ptr number ty offset) at i word types typed sound of_kind is =
    let names = type_names program in
    let found = word_in (type_words at.name program) (at.offset + i) word is in
    let whole : kinds_of (types_of program) (number_of_name at.name names) ≡ map (kind_of names) found.all =
    (type_place names at.name program found.all found.is).1 in
    let ty_is : (allocation_at n number).ty ≡ number_of_name at.name names = sym sound.1 ∙ of_kind.0 in
    let kinds : kinds_of n.types (allocation_at n number).ty ≡ map (kind_of names) found.all = grind arith in
    let within : at.offset + i < length found.all = slice_get_within found.all (at.offset + i) word found.at in
    let size : length (words_of n number) ≡ length (map (kind_of names) found.all) = grind arith in
    let offset_is : offset + i ≡ at.offset + i = ap (λ (o : ℕ). o + i) of_kind.1 in
    let here : get_or (map (kind_of names) found.all) (at.offset + i) NumKind ≡ kind_of names word =
    get_or_from_slice_get (map (kind_of names) found.all) (at.offset + i) (kind_of names word) NumKind
    (slice_get-map (kind_of names) found.all (at.offset + i)
    ∙ ap (λ (w : Option TypeWord). option_map (kind_of names) w) found.at) in (
      omega (arith, length-map found.all (kind_of names)),
      ap (λ (k : List Kind). get_or k (offset + i) NumKind) kinds
          ∙ (ap (λ (o : ℕ). get_or (map (kind_of names) found.all) o NumKind) offset_is ∙ here),
    )
meets_word program _ at i word types typed sound of_kind is = tt

pub meets_before : {program script : List Item} {n : NeverState} {caller : ℕ} → FitsScript program script n caller
    → {pointer : List ℕ} {i : ℕ} (word : TypeWord) → PointsBefore program script pointer i word
    → Meets n (register_of script n caller pointer) i (λ kind. kind ≡ kind_of (type_names program) word)
meets_before {program} {script} {n} {caller} s {pointer = pointer} {i = i} word b =
    meets_word program (register_of script n caller pointer) b.at i word s.types s.typed (s.typed.registers
    (8 * caller + number_of_name pointer (pointer_names script))) (s.declared pointer b.at b.declared) b.is

-- a word that is reached is in an allocation, and of its kind
record IsTypedWord (n : NeverState) (number place : ℕ) (Q : Kind → Type 0) : Type 0 where
  there : number < length n.allocations
  inside : place < length (words_of n number)
  is : Q (kind_in n (allocation_at n number) place)

-- a pointer word that is loaded points to where it is declared to
pub loaded_word : (program : List Item) {n : NeverState} (v : Value) (i : ℕ) (at : At) (number place : ℕ) → IsTyped
    (globals_of program) n → Meets n v i (λ kind. kind ≡ kind_at program at) → target_of n v i ≡ WordOf number place
    → IsOfKind (word_at n number place) (kind_at program at)
loaded_word program v i at number place typed meets e = grind (arith, kind_at, if_by, exists)

-- a pointer that is moved on points to where its place is moved on to
pub moved_word : (program : List Item) (v : Value) (i : ℕ) (at : At) → IsOfKind v (kind_at program at)
    → IsOfKind (moved_on v i) (kind_at program (moved_by i at))
moved_word program x1 i at of_kind = grind arith

-- what a global holds
pub global_word : (program : List Item) {n : NeverState} (name ty : List ℕ) → IsTyped (globals_of program) n
    → global_type name program ≡ Some ty
    → IsOfKind (global_at n (number_of_name name (global_names program))) (kind_at program (base_of ty))
global_word program {n = n} name ty typed is =
    subst (λ (o : Option ℕ). IfSome o (λ t. IsOfKind (global_at n (number_of_name name (global_names program)))
    (To t 0)))
    (global_place (type_names program) name program ty is) (typed.listed (number_of_name name (global_names program)))
