-- A text and its trace, or its first fault: its lines one after the other, and the types of their slots.
use Rattle.std.specs.Prelude.{ℕ, ◌==◌, nat_le, if◌then◌else◌, List, [], get_or, Option, Some, None, Ok, Err, ◌+◌, ◌∷◌}
use Rattle.std.specs.{Prelude.{◌++◌, ◌≡◌, length, map}, declared.result.Result.Result, Borrow.Bor}
use Rattle.std.specs.{HashMap.{HashMap, get_by}, Str.bytes_eq}
use Rattle.mk_check.specs.declared.typing_faults.TypeKind.{TypeKind}
use Rattle.mk_trace.specs.{declared.lines.Slot.Slot, declared.lines.Action.Action, declared.lines.EventLine.EventLine}
use Rattle.mk_trace.specs.{declared.trace.TraceEvent.TraceEvent, declared.trace.TraceEvent.TheVariants.{A, K, F, C, W}}
use Rattle.mk_trace.specs.Lines.{slot_number, LinesSoFar, with_trace_line, trace_line_of, nothing_written}
use Rattle.mk_trace.specs.{Lines.header_line_of, declared.faults.TraceStop.TraceStop, declared.lines.Line.Line}
use Rattle.mk_trace.specs.declared.lines.HeapPages.{HeapPages}
use Rattle.mk_script.specs.{declared.faults.LineFault.LineFault, declared.faults.LineFault.TheVariants.{Text, Limit}}
use Rattle.mk_script.specs.Grammar.{words_of_line, longest_text, too_long, lines_of}
use Rattle.mk_script.specs.{declared.faults.TextKind.TextKind, declared.faults.Which.Which}

-- the action on the slot of this number, whose objects have this many words
abbrev pub event_on : ℕ → ℕ → Action → Result TraceEvent TypeKind
event_on slot words Action.New = Ok (A slot)
event_on slot words Action.Link = Ok (K slot)
event_on slot words Action.Free = Ok (F slot)
event_on slot words Action.Clear = Ok (C slot)
event_on slot words (Action.Write index value) =
    if nat_le words index
    then Err TypeKind.Offset
    else if index == 0 then Err TypeKind.Kind else Ok (W slot index value)

-- an event on this slot, or its type fault
abbrev pub on_slot : List Slot → Option ℕ → Action → Result TraceEvent TypeKind
on_slot slots None action' = Err TypeKind.NoGlobal
on_slot slots (Some slot) action' = event_on slot (get_or slots slot (record { name = []; words = 0 })).words action'

-- an event line with its slot's number, or its type fault
abbrev pub typed_event : List Slot → EventLine → Result TraceEvent TypeKind
typed_event slots event = on_slot slots (slot_number slots event.slot) event.action

-- a fault at a line
abbrev pub text_fault_at : ℕ → LineFault → TraceStop
text_fault_at line (Text kind) = TraceStop.Text line kind
text_fault_at line (Limit which found) = TraceStop.Limit line which found

-- goes on with what a line gives, or ends with its fault
abbrev pub go_on : {X Y Fault : Type 0} → (Fault → TraceStop) → Result X Fault → (X → Result Y TraceStop)
    → Result Y TraceStop
go_on told (Ok x) next = next x
go_on told (Err fault) next = Err (told fault)

-- What lines give, the first of which has this number: each is read after what those before it gave, and added to it.
unfoldable pub along : {Line Given Whole Fault : Type 0} → (ℕ → Fault → TraceStop) → (Whole → Line → Result Given Fault)
    → (Whole → Given → Whole) → ℕ → List Line → Whole → Result Whole TraceStop
along told read add number [] before = Ok before
along told read add number (line ∷ lines) before =
    go_on (told number) (read before line) (λ given. along told read add (number + 1) lines (add before given))

-- the slots and the events of lines after others
abbrev pub written_from : ℕ → List (List ℕ) → LinesSoFar → Result LinesSoFar TraceStop
written_from number lines before =
    along text_fault_at (λ written line. trace_line_of written (words_of_line line)) with_trace_line number lines before

-- the events of lines, after others
abbrev pub events_from : List Slot → ℕ → List EventLine → List TraceEvent → Result (List TraceEvent) TraceStop
events_from slots number lines before =
    along TraceStop.IllTyped (λ events line. typed_event slots line) (λ events event. events ++ event ∷ []) number
    lines before

-- What a trace says: the pages of its heap and how many of them may be resident, how many words the objects of each
-- slot have, and what is done with the slots.
pub record Contents : Type 0 where
  pub pages : ℕ
  pub resident : ℕ
  pub slots : List ℕ
  pub events : List TraceEvent

-- the slot of an event
abbrev pub slot_of : TraceEvent → ℕ
slot_of (A slot) = slot
slot_of (K slot) = slot
slot_of (F slot) = slot
slot_of (C slot) = slot
slot_of (W slot index value) = slot

-- a trace of these parts
abbrev pub contents_from : ℕ → ℕ → List ℕ → List TraceEvent → Contents
contents_from pages resident slots events =
    record { pages = pages; resident = resident; slots = slots; events = events }

-- goes on with what was read, or ends with its fault
abbrev pub and_then : {X Y : Type 0} → Result X TraceStop → (X → Result Y TraceStop) → Result Y TraceStop
and_then (Ok x) next = next x
and_then (Err stop') next = Err stop'

-- the words of each slot
abbrev pub words_of_slots : List Slot → List ℕ
words_of_slots slots = map (λ (slot : Slot). slot.words) slots

-- The end of the text, where all lines are of the grammar and within the limits. Without a slot line 1 is the last.
-- Event lines stand after that line and those of the slots.
abbrev pub contents_of : HeapPages → LinesSoFar → Result Contents TraceStop
contents_of heap written =
    if length written.slots == 0
    then Err (TraceStop.Limit 1 Which.Types 0)
    else and_then (events_from written.slots (length written.slots + 2) written.events [])
    (λ events. Ok (contents_from heap.pages heap.resident (words_of_slots written.slots) events))

-- the trace that lines are, or their first fault
abbrev pub trace_of_lines : List (List ℕ) → Result Contents TraceStop
trace_of_lines [] = Err (TraceStop.Text 1 TextKind.Header)
trace_of_lines (first ∷ lines) =
    go_on (text_fault_at 1) (header_line_of (words_of_line first))
    (λ heap. and_then (written_from 2 lines nothing_written) (contents_of heap))

-- The trace of a text, or its first fault. All faults of lines come before those of types.
abbrev pub trace_of : List ℕ → Result Contents TraceStop
trace_of text =
    if nat_le (length text) longest_text then trace_of_lines (lines_of text) else Err (text_fault_at 0 too_long)

-- There is a text of this trace.
abbrev pub IsOfSomeTraceText : Contents → Type 0
IsOfSomeTraceText contents = (text : List ℕ) × (trace_of text ≡ Ok contents)

-- The map has the number of each slot, by its name. Private functions alone cite this.
abbrev pub AreSlotNumbers : {S : Type 0} → HashMap (Bor (List ℕ)) ℕ S → List Slot → Type 0
AreSlotNumbers numbers slots =
    (name : List ℕ) → get_by (λ key. bytes_eq name key.now) numbers ≡ slot_number slots name
