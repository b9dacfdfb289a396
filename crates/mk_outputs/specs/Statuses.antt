-- How the program ends.
use Rattle.std.specs.{Prelude.{ℕ, List, [], ◌++◌}, Fmt.decimal}
use Rattle.mk_script.specs.{declared.faults.TextKind.TextKind, declared.faults.Which.Which}
use Rattle.mk_script.specs.declared.faults.Which.TheVariants.{Bytes, Pages, Resident, Scripts, Globals, Types, Words}
use Rattle.mk_script.specs.declared.faults.Which.TheVariants.{Pointers, Numbers, Depth}
use Rattle.mk_check.specs.declared.typing_faults.TypeKind.{TypeKind}
use Rattle.mk_outputs.specs.{declared.statuses.Status.Status, declared.statuses.Status.TheVariants.{Ok, NoMemory}}
use Rattle.mk_outputs.specs.declared.statuses.Status.TheVariants.{Usage, ReadFault, WriteFault, Text, IllTyped, Limit}
use Rattle.mk_outputs.specs.declared.statuses.Status.TheVariants.{NotEnabled}
use lib.Chars.{codes}

-- the number with which the program ends
abbrev pub status_number : Status → ℕ
status_number Ok = 0
status_number NoMemory = 1
status_number Usage = 2
status_number ReadFault = 3
status_number WriteFault = 4
status_number (Text line kind) = 5
status_number (IllTyped line fault) = 6
status_number (Limit line which found) = 7
status_number (NotEnabled line event condition) = 8

-- the words of a text fault
abbrev pub text_words : TextKind → List ℕ
text_words TextKind.Header = codes "header"
text_words TextKind.Word = codes "word"
text_words TextKind.Number = codes "number"
text_words TextKind.Name = codes "name"
text_words TextKind.Twice = codes "twice"
text_words TextKind.End = codes "end"

-- the words of a type fault
abbrev pub typing_words : TypeKind → List ℕ
typing_words TypeKind.NoType = codes "no type"
typing_words TypeKind.NoRegister = codes "no register"
typing_words TypeKind.NoGlobal = codes "no global"
typing_words TypeKind.Offset = codes "offset"
typing_words TypeKind.Kind = codes "kind"
typing_words TypeKind.InteriorFree = codes "interior free"
typing_words (TypeKind.TooLong count) = codes "too long " ++ decimal count

-- the word of a quantity
abbrev pub which_word : Which → List ℕ
which_word Bytes = codes "bytes"
which_word Pages = codes "pages"
which_word Resident = codes "resident"
which_word Scripts = codes "scripts"
which_word Globals = codes "globals"
which_word Types = codes "types"
which_word Words = codes "words"
which_word Pointers = codes "pointers"
which_word Numbers = codes "numbers"
which_word Depth = codes "depth"

-- the words of a limit
abbrev pub limit_words : Which → ℕ → List ℕ
limit_words which found = codes "limit " ++ (which_word which ++ (codes " " ++ decimal found))

-- the words of an event that may not come
abbrev pub not_enabled_words : ℕ → ℕ → List ℕ
not_enabled_words event condition =
    codes "event " ++ (decimal event ++ (codes " not enabled, condition " ++ decimal condition))

-- a line on standard error that names a line
abbrev pub message_at_line : ℕ → List ℕ → List ℕ
message_at_line line words = codes "line " ++ (decimal line ++ (codes ": " ++ (words ++ codes "\n")))

-- the line for standard error
abbrev pub status_line : Status → List ℕ
status_line Ok = []
status_line NoMemory = codes "no memory\n"
status_line Usage = codes "usage: markus run, check, print, replay, gen or trace\n"
status_line ReadFault = codes "read failed\n"
status_line WriteFault = codes "write failed\n"
status_line (Text line kind) = message_at_line line (text_words kind)
status_line (IllTyped line fault) = message_at_line line (typing_words fault)
status_line (Limit line which found) = message_at_line line (limit_words which found)
status_line (NotEnabled line event condition) = message_at_line line (not_enabled_words event condition)

-- the statuses that come before the first write
abbrev pub IsBeforeWriting : Status → Type 0
IsBeforeWriting Ok = ⊥
IsBeforeWriting WriteFault = ⊥
IsBeforeWriting _ = Unit {0}

-- the statuses that say what is wrong with a text
abbrev pub IsRefusal : Status → Type 0
IsRefusal (Text line kind) = Unit {0}
IsRefusal (IllTyped line fault) = Unit {0}
IsRefusal (Limit line which found) = Unit {0}
IsRefusal (NotEnabled line event condition) = Unit {0}
IsRefusal _ = ⊥

-- the statuses that a text may have, but for Ok
abbrev pub IsOfText : Status → Type 0
IsOfText NoMemory = Unit {0}
IsOfText status = IsRefusal status
