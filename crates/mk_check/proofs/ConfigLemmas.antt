-- The configuration of a well typed program of some text is within its limits.
use Rattle.std.proofs.lemmas.List.Elements.{All-cons, All-nil}
use Rattle.mk_check.proofs.Vocabulary.{All, ArePassed, Around, At, Config, Item, List, None, Option, Some, TypeKind}
use Rattle.mk_check.proofs.Vocabulary.{TypeWord}
use Rattle.mk_check.proofs.Vocabulary.{Which, ℕ, ap, arith, false≢true, fault_from, globals_among, globals_of, is_some}
use Rattle.mk_check.proofs.Vocabulary.{kind_of, kinds_among, length, length-map, map, number_of_name, pages_of, refl}
use Rattle.mk_check.proofs.Vocabulary.{resident_of, script_names, slice_get, slice_get_within, this_script, true}
use Rattle.mk_check.proofs.Vocabulary.{type_names, type_words, types_of, typing_fault, word_among, [], ◌++◌, ◌+◌, ◌<◌}
use Rattle.mk_check.proofs.{Vocabulary.{◌∷◌, ◌≡◌, ◌≤◌}, FaultLemmas.{at_line-None, has_value, or-None, unless-None}}
use Rattle.mk_check.proofs.GrammarLemmas.{at_most-None, heap_within, length-global_names, length-script_names}
use Rattle.mk_check.proofs.{GrammarLemmas.length-type_names, NumberLemmas.{length-globals_among, length-kinds_among}}
use Rattle.mk_check.{proofs.{DeclaredPlaces.type_place, FormLemmas.line_item-word}, specs.Declarations.{config_of}}
use Rattle.mk_core.specs.Moments.{IsAmong, IsTypeAmong, IsWithinLimits}
use Rattle.mk_check.{proofs.Among.{offsets_fault, pointers_fault}, specs.Typing.{IsWellTyped, inside_fault, type_fault}}
use Rattle.mk_script.{proofs.PassedLines.{IsWhole}, specs.declared.items.TypeWord.TheVariants.{Number, Pointer}}
use Rattle.mk_script.specs.{Lines.at_most, declared.items.Item.TheVariants.{Global, TypeLine}}

module _ (program : List Item) (script : List Item) where
  -- the place of a type that is declared
  pub type_fault-within : (name : List ℕ) → type_fault (record { program = program; script = script }) name ≡ None
      → number_of_name name (type_names program) < length (types_of program)
  type_fault-within name h =
      let words = has_value (type_words name program) (unless-None _ TypeKind.NoType h) in
      (type_place (type_names program) name program words.value words.is).0

  word_within : (at : At) (found : Option (List TypeWord)) → type_words at.name program ≡ found → is_some
      (word_among found at.offset) ≡ true → IsAmong (types_of program) (kind_of (type_names program) (Pointer at))
  word_within at None is h = absurd (false≢true h)
  word_within at (Some words) is h =
      let type' = type_place (type_names program) at.name program words is in
      let word = has_value (slice_get words at.offset) h in (
        type'.0,
        omega (
          arith,
          ap length type'.1,
          length-map words (kind_of (type_names program)),
          slice_get_within words at.offset word.value word.is,
        ),
      )

  -- a place that is inside its type
  inside_fault-IsAmong : (at : At) → inside_fault (record { program = program; script = script }) (Some at) ≡ None
      → IsAmong (types_of program) (kind_of (type_names program) (Pointer at))
  inside_fault-IsAmong at h = grind (arith, word_within, unless-None)

  words_among : (words : List TypeWord) → offsets_fault (record { program = program; script = script }) words ≡ None
      → All (IsAmong (types_of program)) (map (kind_of (type_names program)) words)
  words_among [] h = All-nil (IsAmong (types_of program))
  words_among (Number ∷ words) h = All-cons (IsAmong (types_of program)) _ _ tt (words_among words h)
  words_among (Pointer at ∷ words) h =
      let both = or-None _ (offsets_fault (record { program = program; script = script }) words) h in
      All-cons (IsAmong (types_of program)) _ _ (inside_fault-IsAmong at both.0) (words_among words both.1)

-- the types that lines after these declare
pub types-within : (program : List Item) (line : ℕ) (before items : List Item) → ArePassed before items
    → fault_from program line before items ≡ None
    → All (IsTypeAmong (types_of program)) (kinds_among (type_names program) items)
types-within program line before [] lines h = All-nil (IsTypeAmong (types_of program))
types-within program line before (TypeLine name words ∷ items) lines h =
    let a : Around = record { program = program; script = this_script before } in
    let both = at_line-None line _ (fault_from program (line + 1) (before ++ TypeLine name words ∷ []) items) h in
    let pointers = or-None (pointers_fault a words) (offsets_fault a words) both.0 in
    let limits = or-None (at_most (length (type_names before) + 1) 64 Which.Types) _ lines.0.within in
    let size = length-map words (kind_of (type_names program)) in
    All-cons (IsTypeAmong (types_of program)) _ _ (
      (
        omega (arith, size, line_item-word before lines.0.words name words lines.0.says),
        omega (arith, size, at_most-None (length words) 4096 Which.Words limits.1),
      ),
      words_among program (this_script before) words pointers.1,
    ) (types-within program (line + 1) (before ++ TypeLine name words ∷ []) items lines.1 both.1)
types-within program line before (item ∷ items) lines h =
    types-within program (line + 1) (before ++ item ∷ []) items lines.1
    (at_line-None line (typing_fault (record { program = program; script = this_script before }) line items item) _ h).1

-- the globals that lines after these declare
pub globals-within : (program : List Item) (line : ℕ) (before items : List Item) → fault_from program line before
    items ≡ None → All (λ ty. ty < length (types_of program)) (globals_among (type_names program) items)
globals-within program line before [] h = All-nil (λ ty. ty < length (types_of program))
globals-within program line before (Global name ty ∷ items) h =
    let both = at_line-None line _ (fault_from program (line + 1) (before ++ Global name ty ∷ []) items) h in
    All-cons (λ t. t < length (types_of program)) _ _ (type_fault-within program (this_script before) ty both.0)
    (globals-within program (line + 1) (before ++ Global name ty ∷ []) items both.1)
globals-within program line before (item ∷ items) h =
    globals-within program (line + 1) (before ++ item ∷ []) items
    (at_line-None line (typing_fault (record { program = program; script = this_script before }) line items item) _ h).1

-- the configuration of a program is within its limits
pub config_within : (program : List Item) (markers : ℕ) → IsWhole program → IsWellTyped program → markers ≤ 8
    → IsWithinLimits (config_of program markers)
config_within program markers lines typed few =
    let heap = heap_within program lines in
    record {
      pages = heap.pages;
      resident = heap.resident;
      callers = length-script_names lines;
      markers = few;
      type_count = omega (arith, length-kinds_among (type_names program) program, length-type_names lines);
      global_count = omega (
        arith,
        length-globals_among (type_names program) program,
        length-global_names lines,
      );
      types = types-within program 1 [] program lines.lines typed;
      globals = globals-within program 1 [] program typed;
    }

-- a configuration that has what the program declares
pub config_is : (program : List Item) (c : Config) → c.pages ≡ pages_of program → c.resident ≡ resident_of program
    → c.callers ≡ length (script_names program) → c.types ≡ types_of program → c.globals ≡ globals_of program
    → c ≡ config_of program c.markers
config_is program c p r n t g = rw (← p, ← r, ← n, ← t, ← g) refl
