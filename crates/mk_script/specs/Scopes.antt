-- What the lines before a line say: what is declared, which blocks are open. The lines of each sort.
use Rattle.std.specs.Prelude.{Bool, true, false, ℕ, if◌then◌else◌, fold, not, List, [], ◌∷◌, ◌++◌, Option, Some, None}
use Rattle.std.specs.List.{filter_map}
use Rattle.mk_script.specs.declared.items.Item.{Item, TheVariants.{Heap, TypeLine, Global, Script}}
use Rattle.mk_script.specs.declared.items.Item.TheVariants.{Ptr, Num, New, Free, Getn, Setn, Getp, Setp, Casp, Lea}
use Rattle.mk_script.specs.declared.items.Item.TheVariants.{Move, Clear, Loadg, Storeg, Same, Isnull, Show, Const, Add}
use Rattle.mk_script.specs.declared.items.Item.TheVariants.{Sub, Print, Repeat, If, Else, End}
use Rattle.mk_script.specs.declared.sorts.Sort.{Sort}
pub use Rattle.mk_script.specs.declared.scope.OpenBlock.{OpenBlock}
pub use Rattle.mk_script.specs.declared.scope.OpenBlock.TheVariants.{InRepeat, InFirst, InSecond}

-- lines that declare
abbrev pub is_declaration : Item → Bool
is_declaration (Heap pages resident) = true
is_declaration (TypeLine name words) = true
is_declaration (Global name ty) = true
is_declaration (Script name) = true
is_declaration (Ptr name at) = true
is_declaration (Num name) = true
is_declaration item = false

-- lines that read or write a number after a pointer
abbrev pub is_number_access : Item → Bool
is_number_access (Getn number pointer index) = true
is_number_access (Setn pointer index number) = true
is_number_access item = false

-- lines that read or write a pointer there
abbrev pub is_pointer_access : Item → Bool
is_pointer_access (Getp loaded pointer index) = true
is_pointer_access (Setp pointer index stored) = true
is_pointer_access (Casp number pointer index expected stored) = true
is_pointer_access item = false

-- other lines that change a pointer register, a global or the heap
abbrev pub is_pointer_line : Item → Bool
is_pointer_line (New pointer ty) = true
is_pointer_line (Free pointer) = true
is_pointer_line (Lea moved pointer index) = true
is_pointer_line (Move copied pointer) = true
is_pointer_line (Clear pointer) = true
is_pointer_line (Loadg loaded global) = true
is_pointer_line (Storeg stored global) = true
is_pointer_line item = false

-- other lines that have a number or read registers
abbrev pub is_number_line : Item → Bool
is_number_line (Same number first second) = true
is_number_line (Isnull number pointer) = true
is_number_line (Show pointer) = true
is_number_line (Const number value) = true
is_number_line (Add number left right) = true
is_number_line (Sub number left right) = true
is_number_line (Print number) = true
is_number_line (Repeat rounds) = true
is_number_line (If number) = true
is_number_line item = false

-- the name that a line declares, of this sort
abbrev pub declared_name : Sort → Item → Option (List ℕ)
declared_name Sort.Type (TypeLine name words) = Some name
declared_name Sort.Global (Global name ty) = Some name
declared_name Sort.Script (Script name) = Some name
declared_name Sort.Pointer (Ptr name at) = Some name
declared_name Sort.Number (Num name) = Some name
declared_name s item = None

-- the names of a sort, in the order of their lines
abbrev pub names_of : Sort → List Item → List (List ℕ)
names_of s items = filter_map (declared_name s) items

-- the types that are declared, in order
abbrev pub type_names : List Item → List (List ℕ)
type_names items = names_of Sort.Type items

-- the globals
abbrev pub global_names : List Item → List (List ℕ)
global_names items = names_of Sort.Global items

-- the scripts
abbrev pub script_names : List Item → List (List ℕ)
script_names items = names_of Sort.Script items

-- the pointer registers
abbrev pub pointer_names : List Item → List (List ℕ)
pointer_names items = names_of Sort.Pointer items

-- the number registers
abbrev pub number_names : List Item → List (List ℕ)
number_names items = names_of Sort.Number items

-- the line begins a script
abbrev pub is_script : Item → Bool
is_script (Script name) = true
is_script _ = false

-- whether it is a line of a script, after its declarations
abbrev pub is_instruction : Item → Bool
is_instruction item = not (is_declaration item)

-- the lines of the last script, after its first
abbrev pub this_script : List Item → List Item
this_script items = fold (λ lines item. if is_script item then [] else lines ++ item ∷ []) [] items

-- The open blocks, each a `repeat`, or an `if` in its first or its second branch.

-- the open blocks after an `else`
abbrev pub behind_else : List OpenBlock → List OpenBlock
behind_else [] = []
behind_else (block ∷ blocks) = InSecond ∷ blocks

-- the open blocks after an `end`
abbrev pub behind_end : List OpenBlock → List OpenBlock
behind_end [] = []
behind_end (block ∷ blocks) = blocks

-- the open blocks after a line, the innermost first
abbrev pub open_behind : List OpenBlock → Item → List OpenBlock
open_behind blocks (Script name) = []
open_behind blocks (Repeat rounds) = InRepeat ∷ blocks
open_behind blocks (If number) = InFirst ∷ blocks
open_behind blocks Else = behind_else blocks
open_behind blocks End = behind_end blocks
open_behind blocks _ = blocks

-- the blocks that are open after these lines
abbrev pub open_blocks : List Item → List OpenBlock
open_blocks items = fold open_behind [] items
