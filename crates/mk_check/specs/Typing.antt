-- Which programs are well typed, line by line, and what look-ups by name know of a program.
use Rattle.std.specs.Prelude.{◌≡◌, ⊤, ℕ, ◌+◌, ◌-◌, ◌^◌, min, Bool, true, false, ◌&&◌, ◌==◌, nat_le, if◌then◌else◌, List}
use Rattle.std.specs.Prelude.{[], ◌∷◌, ◌++◌, Option, Some, None, is_some, option_map, slice_get, map, take}
use Rattle.std.specs.{List.{filter_map, list_any}, Option.option_or, Str.bytes_eq}
use Rattle.mk_script.specs.declared.items.{At.At, TypeWord.TypeWord}
use Rattle.mk_script.specs.declared.items.{TypeWord.TheVariants.{Number, Pointer}, Item.Item}
use Rattle.mk_script.specs.declared.items.Item.TheVariants.{TypeLine, Global, Script, Ptr, New, Free, Getn, Setn, Getp}
use Rattle.mk_script.specs.declared.items.Item.TheVariants.{Setp, Casp, Lea, Move, Clear, Loadg, Storeg, Same, Isnull}
use Rattle.mk_script.specs.declared.items.Item.TheVariants.{Show, Const, Add, Sub, Print, If}
use Rattle.mk_script.specs.Scopes.{this_script, number_names, global_names, is_script, pointer_names, type_names}
use Rattle.mk_check.specs.declared.typing_faults.{TypeKind.TypeKind, TypeStop.TypeStop}
use Rattle.mk_check.specs.{Blocks.{before_next_script, script_length}, Declarations.{declared_type, declared_words}}
use Rattle.mk_check.specs.declared.{places.Place.Place, declarations.Declarations.Declarations}
use Rattle.mk_check.specs.{declared.registers.Registers.Registers, Feed.referred_names}

-- Look-ups. A type may be declared in a later line, and so may a global that another line names; a register is
-- declared before in its script.

-- what the first of these has that has the name
abbrev pub value_of : {X : Type 0} → List ℕ → List (List ℕ × X) → Option X
value_of name [] = None
value_of name (one ∷ others) = if bytes_eq name one.0 then Some one.1 else value_of name others

-- the words of a type, if it is declared
abbrev pub type_words : List ℕ → List Item → Option (List TypeWord)
type_words name items = value_of name (filter_map declared_words items)

-- the type of a global, if it is declared
abbrev pub global_type : List ℕ → List Item → Option (List ℕ)
global_type name items = value_of name (filter_map declared_type items)

-- the pointer register that a line declares, with where it is to point
abbrev pub declared_place : Item → Option (List ℕ × At)
declared_place (Ptr name at) = Some (name, at)
declared_place item = None

-- what a pointer register is declared for
abbrev pub pointer_at : List ℕ → List Item → Option At
pointer_at name items = value_of name (filter_map declared_place items)

-- A program, and the lines of the script so far.
pub record Around : Type 0 where
  pub program : List Item
  pub script : List Item

-- the first of these that fails
infixl 10 ◌or◌
-- the first fault
abbrev pub ◌or◌ : Option TypeKind → Option TypeKind → Option TypeKind
fault or other = option_or fault other

-- this fault, if it doesn't hold
abbrev pub unless : Bool → TypeKind → Option TypeKind
unless true k = None
unless false k = Some k

-- the type isn't declared
abbrev pub type_fault : Around → List ℕ → Option TypeKind
type_fault a name = unless (is_some (type_words name a.program)) TypeKind.NoType

-- the global isn't declared
abbrev pub global_fault : Around → List ℕ → Option TypeKind
global_fault a name = unless (is_some (global_type name a.program)) TypeKind.NoGlobal

-- there is no such pointer register
abbrev pub pointer_fault : Around → List ℕ → Option TypeKind
pointer_fault a name = unless (is_some (pointer_at name a.script)) TypeKind.NoRegister

-- there is no such number register
abbrev pub number_fault : Around → List ℕ → Option TypeKind
number_fault a name = unless (list_any (bytes_eq name) (number_names a.script)) TypeKind.NoRegister

-- both are one word of one type
abbrev pub same_at : Option At → Option At → Bool
same_at (Some s) (Some t) = bytes_eq s.name t.name && (s.offset == t.offset)
same_at s t = false

-- the word so many words further
abbrev pub moved_by : ℕ → At → At
moved_by i at = record { name = at.name; offset = at.offset + i }

-- the place i words after the one that a register is declared for
abbrev pub place_behind : Around → List ℕ → ℕ → Option At
place_behind a pointer i = option_map (moved_by i) (pointer_at pointer a.script)

-- the word at this offset
abbrev pub word_among : Option (List TypeWord) → ℕ → Option TypeWord
word_among None offset = None
word_among (Some words) offset = slice_get words offset

-- the word of a type at a place; none where that isn't inside
abbrev pub type_word_at : Around → Option At → Option TypeWord
type_word_at a None = None
type_word_at a (Some at) = word_among (type_words at.name a.program) at.offset

-- there is no such word
abbrev pub inside_fault : Around → Option At → Option TypeKind
inside_fault a place = unless (is_some (type_word_at a place)) TypeKind.Offset

-- the word is a number
abbrev pub is_number_word : Option TypeWord → Bool
is_number_word (Some Number) = true
is_number_word word = false

-- where a pointer word points
abbrev pub pointed_place : Option TypeWord → Option At
pointed_place (Some (Pointer at)) = Some at
pointed_place word = None

-- a type's first word
abbrev pub base_of : List ℕ → At
base_of ty = record { name = ty; offset = 0 }

-- it is a first word
abbrev pub is_base : Option At → Bool
is_base (Some at) = at.offset == 0
is_base None = false

-- the first fault of a type's pointer words, each judged so by where it points
abbrev pub words_fault : (At → Option TypeKind) → List TypeWord → Option TypeKind
words_fault fault [] = None
words_fault fault (Number ∷ words) = words_fault fault words
words_fault fault (Pointer at ∷ words) = fault at or words_fault fault words

-- a script's length
abbrev pub length_fault : ℕ → Option TypeKind
length_fault count = unless (nat_le count 1000000) (TypeKind.TooLong (min count (2 ^ 64 - 1)))

-- the first word of a global's type
abbrev pub base_of_global : Around → List ℕ → Option At
base_of_global a name = option_map base_of (global_type name a.program)

-- they aren't one word of one type
abbrev pub kind_fault : Option At → Option At → Option TypeKind
kind_fault s t = unless (same_at s t) TypeKind.Kind

-- a word after a register holds a number, or points to where another register does
abbrev pub number_word_fault : Around → List ℕ → ℕ → Option TypeKind
number_word_fault a pointer index =
    unless (is_number_word (type_word_at a (place_behind a pointer index))) TypeKind.Kind

-- the register isn't declared for what the word points to
abbrev pub pointer_word_fault : Around → List ℕ → ℕ → List ℕ → Option TypeKind
pointer_word_fault a pointer index register =
    kind_fault (pointed_place (type_word_at a (place_behind a pointer index))) (pointer_at register a.script)

-- What is wrong with a line that stands after these of its script, and before those after it: the names from left to
-- right, then offsets, then kinds, then an interior pointer that is freed.
abbrev pub typing_fault : Around → ℕ → List Item → Item → Option TypeKind
typing_fault a line behind (TypeLine name words) =
    words_fault (λ at. type_fault a at.name) words or words_fault (λ at. inside_fault a (Some at)) words
typing_fault a line behind (Global name ty) = type_fault a ty
typing_fault a line behind (Script name) =
    length_fault (script_length (record { name = name; line = line + 1; items = before_next_script behind }))
typing_fault a line behind (Ptr name at) = type_fault a at.name or inside_fault a (Some at)
typing_fault a line behind (New pointer ty) =
    pointer_fault a pointer or type_fault a ty or kind_fault (pointer_at pointer a.script) (Some (base_of ty))
typing_fault a line behind (Free pointer) =
    pointer_fault a pointer or unless (is_base (pointer_at pointer a.script)) TypeKind.InteriorFree
typing_fault a line behind (Getn number pointer index) =
    number_fault a number or pointer_fault a pointer or inside_fault a (place_behind a pointer index)
    or number_word_fault a pointer index
typing_fault a line behind (Setn pointer index number) =
    pointer_fault a pointer or number_fault a number or inside_fault a (place_behind a pointer index)
    or number_word_fault a pointer index
typing_fault a line behind (Getp loaded pointer index) =
    pointer_fault a loaded or pointer_fault a pointer or inside_fault a (place_behind a pointer index)
    or pointer_word_fault a pointer index loaded
typing_fault a line behind (Setp pointer index stored) =
    pointer_fault a pointer or pointer_fault a stored or inside_fault a (place_behind a pointer index)
    or pointer_word_fault a pointer index stored
typing_fault a line behind (Casp number pointer index expected stored) =
    number_fault a number or pointer_fault a pointer or pointer_fault a expected or pointer_fault a stored
    or inside_fault a (place_behind a pointer index) or pointer_word_fault a pointer index expected
    or pointer_word_fault a pointer index stored
typing_fault a line behind (Lea moved pointer index) =
    pointer_fault a moved or pointer_fault a pointer or inside_fault a (place_behind a pointer index)
    or kind_fault (pointer_at moved a.script) (place_behind a pointer index)
typing_fault a line behind (Move copied pointer) =
    pointer_fault a copied or pointer_fault a pointer
    or kind_fault (pointer_at copied a.script) (pointer_at pointer a.script)
typing_fault a line behind (Clear pointer) = pointer_fault a pointer
typing_fault a line behind (Loadg loaded global) =
    pointer_fault a loaded or global_fault a global or kind_fault (pointer_at loaded a.script) (base_of_global a global)
typing_fault a line behind (Storeg stored global) =
    pointer_fault a stored or global_fault a global or kind_fault (pointer_at stored a.script) (base_of_global a global)
typing_fault a line behind (Same number first second) =
    number_fault a number or pointer_fault a first or pointer_fault a second
typing_fault a line behind (Isnull number pointer) = number_fault a number or pointer_fault a pointer
typing_fault a line behind (Show pointer) = pointer_fault a pointer
typing_fault a line behind (Const number value) = number_fault a number
typing_fault a line behind (Add number left right) =
    number_fault a number or number_fault a left or number_fault a right
typing_fault a line behind (Sub number left right) =
    number_fault a number or number_fault a left or number_fault a right
typing_fault a line behind (Print number) = number_fault a number
typing_fault a line behind (If number) = number_fault a number
typing_fault a line behind _ = None

-- an ill-typed line
pub record TypingFault : Type 0 where
  pub line : ℕ
  pub kind : TypeKind

-- this fault at this line, or the other one
abbrev pub at_line : ℕ → Option TypeKind → Option TypingFault → Option TypingFault
at_line line (Some k) other = Some (record { line = line; kind = k })
at_line line None other = other

-- the least ill-typed line of the items, after those that were read; the first stands at this line
abbrev pub fault_from : List Item → ℕ → List Item → List Item → Option TypingFault
fault_from program line before [] = None
fault_from program line before (item ∷ items) =
    at_line line (typing_fault (record { program = program; script = this_script before }) line items item)
    (fault_from program (line + 1) (before ++ item ∷ []) items)

-- the first ill-typed line, with its fault
abbrev pub first_typing_fault : List Item → Option TypingFault
first_typing_fault program = fault_from program 1 [] program

-- The program has no ill-typed line.
abbrev pub IsWellTyped : List Item → Type 0
IsWellTyped program = first_typing_fault program ≡ None

-- a stop names the first fault of the program, or is for memory
abbrev pub NamesFirstFault : List Item → TypeStop → Type 0
NamesFirstFault program (TypeStop.IllTyped line k) =
    first_typing_fault program ≡ Some (record { line = line; kind = k })
NamesFirstFault program TypeStop.NoMemory = ⊤

-- Rules for the lines of each sort, and what look-ups by name know. Private functions alone cite these words.

-- the word that is named
abbrev pub at_of : Place → At
at_of place = record { name = place.name.now; offset = place.offset }

-- what is wrong with a line of some sort
abbrev pub fault_of_sort : (Item → Bool) → Around → Item → Option TypeKind
fault_of_sort is_of_sort a item = if is_of_sort item then typing_fault a 0 [] item else None

-- A program, and how many of its lines were read.
pub record Reading : Type 0 where
  pub program : List Item
  pub count : ℕ

-- the program and the script around the line that is read
abbrev pub around : Reading → Around
around reading = record { program = reading.program; script = this_script (take reading.count reading.program) }

-- what names are declared for, in the order of their lines
abbrev pub declared_for : {X : Type 0} → (Item → Option (List ℕ × X)) → List Item → List X
declared_for {X = X} says items = map (λ (d : List ℕ × X). d.1) (filter_map says items)

-- the lines of the script after a line
abbrev pub lines_behind : List Item → Item → List Item
lines_behind lines item = if is_script item then [] else lines ++ item ∷ []

-- they are those of the program
pub record AreDeclared (declarations : Declarations) (program : List Item) : Type 0 where
  pub types : declarations.types ≡ type_names program
  pub words : map (λ words. words.now) declarations.words.items ≡ declared_for declared_words program
  pub globals : declarations.globals ≡ global_names program
  pub global_types : referred_names declarations.global_types.items ≡ declared_for declared_type program

-- they are those of a script's lines
pub record AreRegisters (registers : Registers) (lines : List Item) : Type 0 where
  pub pointers : registers.pointers ≡ pointer_names lines
  pub places : map (λ at. at.now) registers.places.items ≡ declared_for declared_place lines
  pub numbers : registers.numbers ≡ number_names lines
