-- The canonical text of a program, and what holds of every program of a text.
use Rattle.std.specs.Prelude.{ℕ, zero, suc, ◌+◌, ◌==◌, if◌then◌else◌, List, [], ◌∷◌, ◌++◌, Bool, drop, ◌≡◌, ◌≤◌, length}
use Rattle.std.specs.{Prelude.Ok, List.flat_map, Fmt.decimal}
use Rattle.mk_script.specs.{Grammar.{longest_text, program_of, IsOfSomeText}, declared.items.At.At}
use Rattle.mk_script.specs.declared.items.Item.{Item, TheVariants.{Heap, TypeLine, Global, Script}}
use Rattle.mk_script.specs.declared.items.Item.TheVariants.{Ptr, Num, New, Free, Getn, Setn, Getp, Setp, Casp, Lea}
use Rattle.mk_script.specs.declared.items.Item.TheVariants.{Move, Clear, Loadg, Storeg, Same, Isnull, Show, Const, Add}
use Rattle.mk_script.specs.declared.items.Item.TheVariants.{Sub, Print, Repeat, If, Else, End}
use Rattle.mk_script.specs.declared.items.TypeWord.{TypeWord, TheVariants.{Number, Pointer}}
use lib.Chars.{codes}

-- `T`, and `T+K` for K from 1 on
abbrev pub at_text : At → List ℕ
at_text at = if at.offset == 0 then at.name else at.name ++ (codes "+" ++ decimal at.offset)

-- `n` for one number, and `n*K` for K neighbours, from 2 on
abbrev pub numbers_text : ℕ → List ℕ
numbers_text count = if count == 1 then codes "n" else codes "n*" ++ decimal count

-- fields, with so many numbers before them
abbrev pub numbers_before : ℕ → List (List ℕ) → List (List ℕ)
numbers_before zero fields = fields
numbers_before (suc more) fields = numbers_text (suc more) ∷ fields

-- the fields of a type, after this many numbers
abbrev pub fields_behind : List TypeWord → ℕ → List (List ℕ)
fields_behind [] count = numbers_before count []
fields_behind (Number ∷ words) count = fields_behind words (count + 1)
fields_behind (Pointer at ∷ words) count = numbers_before count ((codes "p:" ++ at_text at) ∷ fields_behind words 0)

-- the words of a line
abbrev pub words_of_item : Item → List (List ℕ)
words_of_item (Heap pages resident) = codes "heap" ∷ decimal pages ∷ decimal resident ∷ []
words_of_item (TypeLine name words) = codes "type" ∷ name ∷ fields_behind words 0
words_of_item (Global name ty) = codes "global" ∷ name ∷ ty ∷ []
words_of_item (Script name) = codes "script" ∷ name ∷ []
words_of_item (Ptr name at) = codes "ptr" ∷ name ∷ at_text at ∷ []
words_of_item (Num name) = codes "num" ∷ name ∷ []
words_of_item (New pointer ty) = codes "new" ∷ pointer ∷ ty ∷ []
words_of_item (Free pointer) = codes "free" ∷ pointer ∷ []
words_of_item (Getn number pointer index) = codes "getn" ∷ number ∷ pointer ∷ decimal index ∷ []
words_of_item (Setn pointer index number) = codes "setn" ∷ pointer ∷ decimal index ∷ number ∷ []
words_of_item (Getp loaded pointer index) = codes "getp" ∷ loaded ∷ pointer ∷ decimal index ∷ []
words_of_item (Setp pointer index stored) = codes "setp" ∷ pointer ∷ decimal index ∷ stored ∷ []
words_of_item (Casp number pointer index expected stored) =
    codes "casp" ∷ number ∷ pointer ∷ decimal index ∷ expected ∷ stored ∷ []
words_of_item (Lea moved pointer index) = codes "lea" ∷ moved ∷ pointer ∷ decimal index ∷ []
words_of_item (Move copied pointer) = codes "move" ∷ copied ∷ pointer ∷ []
words_of_item (Clear pointer) = codes "clear" ∷ pointer ∷ []
words_of_item (Loadg loaded global) = codes "loadg" ∷ loaded ∷ global ∷ []
words_of_item (Storeg stored global) = codes "storeg" ∷ stored ∷ global ∷ []
words_of_item (Same number first second) = codes "same" ∷ number ∷ first ∷ second ∷ []
words_of_item (Isnull number pointer) = codes "isnull" ∷ number ∷ pointer ∷ []
words_of_item (Show pointer) = codes "show" ∷ pointer ∷ []
words_of_item (Const number value) = codes "const" ∷ number ∷ decimal value ∷ []
words_of_item (Add number left right) = codes "add" ∷ number ∷ left ∷ right ∷ []
words_of_item (Sub number left right) = codes "sub" ∷ number ∷ left ∷ right ∷ []
words_of_item (Print number) = codes "print" ∷ number ∷ []
words_of_item (Repeat rounds) = codes "repeat" ∷ decimal rounds ∷ []
words_of_item (If number) = codes "if" ∷ number ∷ []
words_of_item Else = codes "else" ∷ []
words_of_item End = codes "end" ∷ []

-- words with a space between them, and a newline after the last
abbrev pub line_text : List (List ℕ) → List ℕ
line_text [] = codes "\n"
line_text (word ∷ []) = word ++ codes "\n"
line_text (word ∷ next ∷ words) = word ++ (codes " " ++ line_text (next ∷ words))

-- the canonical text of a program
abbrev pub canonical_text : List Item → List ℕ
canonical_text items = flat_map (λ item. line_text (words_of_item item)) items

-- A line's words as a text. Private functions alone cite these.

-- words after another, each with a space before it
abbrev pub spaced_words : List (List ℕ) → List ℕ
spaced_words [] = []
spaced_words (word ∷ words) = codes " " ++ (word ++ spaced_words words)

-- a line without its newline
abbrev pub joined_words : List (List ℕ) → List ℕ
joined_words [] = []
joined_words (word ∷ words) = word ++ spaced_words words

-- what stands after the first word of a line of some sort
abbrev pub operands_of_sort : (Item → Bool) → Item → List ℕ
operands_of_sort is_of_sort item = if is_of_sort item then spaced_words (drop 1 (words_of_item item)) else []

-- A program's canonical text is a text of the same program, where it isn't too long for a text.
abbrev pub IsReadBack : List Item → Type 0
IsReadBack items =
    IsOfSomeText items → length (canonical_text items) ≤ longest_text → program_of (canonical_text items) ≡ Ok items
