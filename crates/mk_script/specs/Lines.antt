-- What a line is, after the lines before it: its item, or the first fault by the order of the six steps.
use Rattle.std.specs.Prelude.{ℕ, ◌+◌, ◌-◌, ◌^◌, min, Bool, true, false, not, ◌&&◌, nat_le, if◌then◌else◌, List, [], ◌∷◌}
use Rattle.std.specs.{Prelude.{◌++◌, length, Option, Some, None, Ok, Err, ◌≡◌, reverse}, declared.result.Result.Result}
use Rattle.std.specs.{List.{list_any, Sorted.IsPermutation}, Option.option_or, Str.bytes_eq}
use Rattle.mk_script.specs.declared.items.Item.{Item, TheVariants.{Heap, TypeLine, Global, Script}}
use Rattle.mk_script.specs.declared.items.Item.TheVariants.{Ptr, Num, Repeat, If, Else, End}
use Rattle.mk_script.specs.declared.{keywords.Keyword.Keyword, faults.LineFault.LineFault}
use Rattle.mk_script.specs.declared.faults.{LineFault.TheVariants.{Text, Limit}, Which.Which}
use Rattle.mk_script.specs.{Keywords.{keyword_of, has_word_count}, Operands.{◌>>=◌, have_form, item_from}}
use Rattle.mk_script.specs.Scopes.{type_names, global_names, script_names, pointer_names, number_names, is_script}
use Rattle.mk_script.specs.Scopes.{is_instruction, this_script, OpenBlock, InRepeat, InFirst, InSecond, open_blocks}
use Rattle.mk_script.specs.declared.{faults.LineStop.LineStop, scope.Scope.Scope}
use Rattle.mk_script.specs.declared.faults.{LineStop.TheVariants.{Fault, NoMemory}, TextKind.TextKind}
use lib.Chars.{codes}

-- Steps 1 to 3: the form, its place and its operands.

-- a script has begun
abbrev pub has_script : List Item → Bool
has_script before = list_any is_script before

-- whether a line of the form may stand after these
abbrev pub is_placed : List Item → Keyword → Bool
is_placed before Keyword.Heap = false
is_placed before Keyword.TypeLine = not (has_script before)
is_placed before Keyword.Global = not (has_script before)
is_placed before Keyword.Script = true
is_placed before Keyword.Ptr = has_script before && not (list_any is_instruction (this_script before))
is_placed before Keyword.Num = has_script before && not (list_any is_instruction (this_script before))
is_placed before form = has_script before

-- line 1: `heap` with two more words
abbrev pub heap_line : List (List ℕ) → Result Item LineFault
heap_line (word ∷ pages ∷ resident ∷ []) =
    if bytes_eq word (codes "heap") then item_from Keyword.Heap (pages ∷ resident ∷ []) else Err (Text TextKind.Header)
heap_line words = Err (Text TextKind.Header)

-- what a line of this form says, if it is in its place
abbrev pub placed_item : List Item → Option Keyword → List (List ℕ) → Result Item LineFault
placed_item before None operands = Err (Text TextKind.Word)
placed_item before (Some form) operands =
    if has_word_count form (length operands) && have_form form operands && is_placed before form
    then item_from form operands
    else Err (Text TextKind.Word)

-- what a line after the first says
abbrev pub other_line : List Item → List (List ℕ) → Result Item LineFault
other_line before [] = Err (Text TextKind.Word)
other_line before (word ∷ operands) = placed_item before (keyword_of word) operands

-- what a line says by itself
abbrev pub line_item : List Item → List (List ℕ) → Result Item LineFault
line_item [] words = heap_line words
line_item (first ∷ before) words = other_line (first ∷ before) words

-- Step 4: names that are declared twice.

-- the name is one of these
abbrev pub is_among : List ℕ → List (List ℕ) → Bool
is_among name names = list_any (bytes_eq name) names

-- the registers that a script declares
abbrev pub register_names : List Item → List (List ℕ)
register_names lines = pointer_names lines ++ number_names lines

-- the line declares a name again
abbrev pub is_twice : List Item → Item → Bool
is_twice before (TypeLine name words) = is_among name (type_names before)
is_twice before (Global name ty) = is_among name (global_names before)
is_twice before (Script name) = is_among name (script_names before)
is_twice before (Ptr name at) = is_among name (register_names (this_script before))
is_twice before (Num name) = is_among name (register_names (this_script before))
is_twice before item = false

-- Step 5: limits, and what is found where one is passed.

-- this limit, if more were found
abbrev pub at_most : ℕ → ℕ → Which → Option LineFault
at_most found greatest which = if nat_le found greatest then None else Some (Limit which (min found (2 ^ 64 - 1)))

-- this limit, if what was found is outside
abbrev pub within : ℕ → ℕ → ℕ → Which → Option LineFault
within least found greatest which =
    if nat_le least found && nat_le found greatest then None else Some (Limit which found)

-- a limit of the first line
abbrev pub heap_limit : ℕ → ℕ → Option LineFault
heap_limit pages resident = option_or (within 1 pages 4096 Which.Pages) (within 1 resident pages Which.Resident)

-- the limit that a line breaks
abbrev pub limit_fault : List Item → Item → Option LineFault
limit_fault before (Heap pages resident) = heap_limit pages resident
limit_fault before (TypeLine name words) =
    option_or (at_most (length (type_names before) + 1) 64 Which.Types) (at_most (length words) 4096 Which.Words)
limit_fault before (Global name ty) = at_most (length (global_names before) + 1) 64 Which.Globals
limit_fault before (Script name) = at_most (length (script_names before) + 1) 16 Which.Scripts
limit_fault before (Ptr name at) = at_most (length (pointer_names (this_script before)) + 1) 8 Which.Pointers
limit_fault before (Num name) = at_most (length (number_names (this_script before)) + 1) 8 Which.Numbers
limit_fault before (Repeat rounds) = at_most (length (open_blocks before) + 1) 32 Which.Depth
limit_fault before (If number) = at_most (length (open_blocks before) + 1) 32 Which.Depth
limit_fault before item = None

-- Step 6: blocks that are ended and aren't open, and a script inside an open block.

-- an `else` may come here
abbrev pub may_have_else : List OpenBlock → Bool
may_have_else [] = false
may_have_else (InRepeat ∷ blocks) = false
may_have_else (InFirst ∷ blocks) = true
may_have_else (InSecond ∷ blocks) = false

-- no block is open
abbrev pub has_none : List OpenBlock → Bool
has_none [] = true
has_none (block ∷ blocks) = false

-- the blocks that are open may be so at this line
abbrev pub ends_rightly : List OpenBlock → Item → Bool
ends_rightly blocks (Script name) = has_none blocks
ends_rightly blocks Else = may_have_else blocks
ends_rightly blocks End = not (has_none blocks)
ends_rightly blocks item = true

-- what the line says, or this fault
abbrev pub or_item : Option LineFault → Item → Result Item LineFault
or_item None item = Ok item
or_item (Some fault) item = Err fault

-- steps 4 to 6
abbrev pub checked_item : List Item → Item → Result Item LineFault
checked_item before item =
    if is_twice before item then Err (Text TextKind.Twice) else
    (or_item (limit_fault before item) item
    >>= (λ item'. if ends_rightly (open_blocks before) item then Ok item' else Err (Text TextKind.End)))

-- what a line says after the lines before it, or its first fault
abbrev pub line_of : List Item → List (List ℕ) → Result Item LineFault
line_of before words = line_item before words >>= checked_item before

-- What it means that a scope says what the lines so far say.
-- Private functions alone cite these words.

-- there was a line
abbrev pub has_lines : List Item → Bool
has_lines [] = false
has_lines (first ∷ before) = true

-- What is known of the lines before.
pub record IsScopeOf (scope : Scope) (before : List Item) : Type 0 where
  pub header : scope.has_header ≡ has_lines before
  pub script : scope.has_script ≡ has_script before
  pub instruction : scope.has_instruction ≡ list_any is_instruction (this_script before)
  pub types : IsPermutation (type_names before) scope.types
  pub globals : IsPermutation (global_names before) scope.globals
  pub scripts : IsPermutation (script_names before) scope.scripts
  pub pointers : IsPermutation (pointer_names (this_script before)) scope.pointers
  pub numbers : IsPermutation (number_names (this_script before)) scope.numbers
  pub blocks : reverse scope.blocks.items ≡ open_blocks before

-- the new scope is the old one where a script of this name begins, but for its blocks
pub record BeginsScript (old : Scope) (name : List ℕ) (new : Scope) : Type 0 where
  pub scripts : IsPermutation (old.scripts ++ name ∷ []) new.scripts
  pub new_is :
      new
      ≡ record old { has_script = true; has_instruction = false; scripts = new.scripts; pointers = []; numbers = [] }

-- a line was read after others: there is its item more, and the scope is of all of them
pub record ReadsLine (before : List Item) (found : Result Item LineFault) (items : List Item) (scope : Scope)
    : Type 0 where
  pub item : Item
  pub is_item : found ≡ Ok item
  pub items_are : items ≡ before ++ item ∷ []
  pub scope_of : IsScopeOf scope items

-- a line has no item, or there was no memory
abbrev pub IsStopOfLine : Result Item LineFault → LineStop → Type 0
IsStopOfLine found (Fault fault) = found ≡ Err fault
IsStopOfLine found NoMemory = Unit {0}

-- a line of which this was found is read, or it is said why not
abbrev pub Reads : {A : Type 0} → List Item → Result Item LineFault → Result A LineStop → List Item → Scope → Type 0
Reads before found (Ok read) items scope = ReadsLine before found items scope
Reads before found (Err stop) items scope = IsStopOfLine found stop
