-- What a program declares: a name's place among the names of its sort is its number.
use Rattle.std.specs.Prelude.{ℕ, ◌+◌, List, [], ◌∷◌, length, map, if◌then◌else◌, Option, Some, None, ◌-◌, ◌*◌, ◌%◌, ◌<◌}
use Rattle.std.specs.{Prelude.{◌≤◌, slice_index, slice_index_or}, List.filter_map, Str.bytes_eq}
use Rattle.mk_never.specs.declared.types.Kind.{Kind, TheVariants.{Num as NumKind, To}}
use Rattle.mk_core.specs.declared.config.Config.{Config}
use Rattle.mk_script.specs.declared.items.TypeWord.{TypeWord, TheVariants.{Number, Pointer}}
use Rattle.mk_script.specs.declared.items.Item.{Item, TheVariants.{Heap, TypeLine, Global}}
use Rattle.mk_script.specs.Scopes.{type_names, script_names}

-- the place of a name among these; after them if it isn't one
abbrev pub number_of_name : List ℕ → List (List ℕ) → ℕ
number_of_name name [] = 0
number_of_name name (other ∷ others) = if bytes_eq name other then 0 else number_of_name name others + 1

-- the kind of a word of a type
abbrev pub kind_of : List (List ℕ) → TypeWord → Kind
kind_of types Number = NumKind
kind_of types (Pointer at) = To (number_of_name at.name types) at.offset

-- the type that a line declares, with its words
abbrev pub declared_words : Item → Option (List ℕ × List TypeWord)
declared_words (TypeLine name words) = Some (name, words)
declared_words item = None

-- the global that a line declares, with the name of its type
abbrev pub declared_type : Item → Option (List ℕ × List ℕ)
declared_type (Global name ty) = Some (name, ty)
declared_type item = None

-- the types that are declared, in order
abbrev pub types_of : List Item → List (List Kind)
types_of items =
    map (λ (t : List ℕ × List TypeWord). map (kind_of (type_names items)) t.1) (filter_map declared_words items)

-- the type of each global, in order
abbrev pub globals_of : List Item → List ℕ
globals_of items =
    map (λ (g : List ℕ × List ℕ). number_of_name g.1 (type_names items)) (filter_map declared_type items)

-- the pages of its heap, and how many of them may be resident
abbrev pub pages_of : List Item → ℕ
pages_of [] = 0
pages_of (Heap pages resident ∷ items) = pages
pages_of (item ∷ items) = pages_of items

-- how many pages may be resident
abbrev pub resident_of : List Item → ℕ
resident_of [] = 0
resident_of (Heap pages resident ∷ items) = resident
resident_of (item ∷ items) = resident_of items

-- the heap that a program's scripts share, with this many markers
abbrev pub config_of : List Item → ℕ → Config
config_of program markers =
    record {
      pages = pages_of program;
      resident = resident_of program;
      callers = length (script_names program);
      markers = markers;
      types = types_of program;
      globals = globals_of program;
    }

-- Names that are found by a key. Private functions alone cite these words.

-- the key of a name: its last byte, and the one before it, as two digits of a number
abbrev pub key_of : List ℕ → ℕ
key_of [] = 0
key_of (only ∷ []) = only % 64
key_of name = (10 * slice_index name (length name - 2) + slice_index name (length name - 1)) % 64

-- for each key, a place before which no name has it
abbrev pub IsIndex : List ℕ → List (List ℕ) → Type 0
IsIndex starts names = (i : ℕ) → i < length names → slice_index starts (key_of (slice_index_or names i [])) ≤ i
