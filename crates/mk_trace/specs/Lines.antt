-- What a line of a trace's text says, after those before it, or its first fault: of form and place, numbers and names,
-- slots that are declared twice, limits.
use Rattle.std.specs.Prelude.{ℕ, ◌+◌, ◌==◌, if◌then◌else◌, List, [], ◌∷◌, ◌++◌, length, is_some, Option, Some, None, Ok}
use Rattle.std.specs.{Prelude.{Err, ok_or}, declared.result.Result.Result, List.position, Str.bytes_eq}
use Rattle.std.specs.Option.{option_or}
use Rattle.mk_script.specs.{declared.faults.LineFault.LineFault, declared.faults.LineFault.TheVariants.Text}
use Rattle.mk_script.specs.{Lines.{at_most, heap_limit, within}, Operands.{◌>>=◌, name, number}}
use Rattle.mk_script.specs.{declared.faults.TextKind.TextKind, declared.faults.Which.Which}
use Rattle.mk_trace.specs.{declared.lines.HeapPages.HeapPages, declared.lines.Slot.Slot, declared.lines.Action.Action}
use Rattle.mk_trace.specs.declared.lines.Action.TheVariants.{New, Link, Free, Clear, Write}
use Rattle.mk_trace.specs.{declared.lines.EventLine.EventLine, declared.lines.Line.Line}
use lib.Chars.{codes}

-- what the lines after the first say so far
pub record LinesSoFar : Type 0 where
  pub slots : List Slot
  pub events : List EventLine

-- no slot and no event
abbrev pub nothing_written : LinesSoFar
nothing_written = record { slots = []; events = [] }

-- one line more
abbrev pub with_trace_line : LinesSoFar → Line → LinesSoFar
with_trace_line written (Line.Slot slot) = record written { slots = written.slots ++ slot ∷ [] }
with_trace_line written (Line.Event event) = record written { events = written.events ++ event ∷ [] }

-- this, or the fault
abbrev pub ok_unless : {A : Type 0} → Option LineFault → A → Result A LineFault
ok_unless None x = Ok x
ok_unless (Some fault) x = Err fault

-- what the first line says: `trace PAGES RESIDENT`
abbrev pub header_line_of : List (List ℕ) → Result HeapPages LineFault
header_line_of (word ∷ pages ∷ resident ∷ []) =
    if bytes_eq word (codes "trace")
    then number pages
    >>= (λ p. number resident >>= (λ r. ok_unless (heap_limit p r) (record { pages = p; resident = r })))
    else Err (Text TextKind.Header)
header_line_of words = Err (Text TextKind.Header)

-- Slots are numbered from 0, in the order of their lines.
abbrev pub slot_number : List Slot → List ℕ → Option ℕ
slot_number slots name' = position (λ (slot : Slot). bytes_eq name' slot.name) slots

-- the slot, if its name and size are allowed
abbrev pub checked_slot : List Slot → Slot → Result Slot LineFault
checked_slot before slot =
    if is_some (slot_number before slot.name)
    then Err (Text TextKind.Twice)
    else ok_unless
    (option_or (at_most (length before + 1) 64 Which.Types) (within 1 slot.words 4096 Which.Words)) slot

-- what `slot S WORDS` says, before the first event
abbrev pub slot_line : LinesSoFar → List (List ℕ) → Result Line LineFault
slot_line before (slot ∷ words ∷ []) =
    if length before.events == 0
    then name slot >>= (λ s. number words >>= (λ n. checked_slot before.slots (record { name = s; words = n })
    >>= (λ checked. Ok (Line.Slot checked))))
    else Err (Text TextKind.Word)
slot_line before operands = Err (Text TextKind.Word)

-- the event with this letter
abbrev pub plain_action : List ℕ → Option Action
plain_action word =
    if bytes_eq word (codes "a") then Some New else
    if bytes_eq word (codes "k") then Some Link else
    if bytes_eq word (codes "f") then Some Free else
    if bytes_eq word (codes "c") then Some Clear else None

-- what `a S`, `k S`, `f S`, `c S` or `w S i N` says by itself
abbrev pub event_line_of : List ℕ → List (List ℕ) → Result EventLine LineFault
event_line_of word (slot ∷ []) =
    ok_or (plain_action word) (Text TextKind.Word)
    >>= (λ action'. name slot >>= (λ s. Ok (record { slot = s; action = action' })))
event_line_of word (slot ∷ index ∷ value ∷ []) =
    if bytes_eq word (codes "w")
    then name slot
    >>= (λ s. number index >>= (λ i. number value >>= (λ n. Ok (record { slot = s; action = Write i n }))))
    else Err (Text TextKind.Word)
event_line_of word operands = Err (Text TextKind.Word)

-- the same, after the first slot
abbrev pub event_line : LinesSoFar → List ℕ → List (List ℕ) → Result Line LineFault
event_line before word operands =
    if length before.slots == 0
    then Err (Text TextKind.Word)
    else event_line_of word operands >>= (λ event. Ok (Line.Event event))

-- a line after the first
abbrev pub trace_line_of : LinesSoFar → List (List ℕ) → Result Line LineFault
trace_line_of before [] = Err (Text TextKind.Word)
trace_line_of before (word ∷ operands) =
    if bytes_eq word (codes "slot") then slot_line before operands else event_line before word operands
