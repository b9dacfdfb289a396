-- A trace has few events, each has few operations, and so few cycles end.
use Rattle.std.proofs.{Common.Result, lemmas.List.{Splits.length-slice_split, Sums.count_by-le-length}}
use Rattle.mk_trace.proofs.Vocabulary.{Contents, Event, HeapPages, IsOfSomeTraceText, LinesSoFar, Ok, Op, TraceEvent}
use Rattle.mk_trace.proofs.Vocabulary.{TraceStop, contents_of, ends, events_from, header_line_of, length-append}
use Rattle.mk_trace.proofs.Vocabulary.{lines_of, nat_tests, nothing_written, ops_of, text_fault_at}
use Rattle.mk_trace.proofs.Vocabulary.{trace_of_lines, typed_event, with_trace_line}
use Rattle.mk_trace.proofs.{Vocabulary.{words_of_line, written_from}, ReadLines.{gone_on, passed_else, then_next}}
use Rattle.mk_heap.proofs.Below.Laws.Vocabulary.{Bool, List, ℕ, ap, arith, drop, if◌then◌else◌, length, nat_le, subst}
use Rattle.mk_heap.proofs.Below.Laws.Vocabulary.{sym, []}
use Rattle.mk_heap.proofs.Below.Laws.Vocabulary.{◌++◌, ◌+◌, ◌==◌, ◌∷◌, ◌≡◌, ◌≤◌}
use Rattle.mk_check.proofs.GrammarLemmas.{passed_then}
use Rattle.mk_script.specs.Grammar.{without_empty_last}
use Rattle.mk_trace.specs.{Grammar.{along, contents_from, words_of_slots}, Lines.trace_line_of}
use Rattle.mk_trace.specs.declared.lines.Line.{Line}

-- before any event
pub none_ended : (es : List Event) → es ≡ [] → ends es ≡ 0
none_ended es empty = ap ends empty

-- operations

pub few_later : (full : Bool) (event : TraceEvent) (ops : List Op) → ops ≡ drop 1 (ops_of full event) → length ops ≤ 5
few_later full event ops is = subst (λ (l : List Op). length l ≤ 5) (sym is) (grind arith)

-- What each line adds at most one to, all add to.
along_grows : {Line Given Whole Fault : Type 0} (told : ℕ → Fault → TraceStop) (read : Whole → Line
    → Result Given Fault) (add : Whole → Given → Whole) (measure : Whole → ℕ) → ((whole : Whole) (given : Given)
    → measure (add whole given) ≤ measure whole + 1) → (number : ℕ) (lines : List Line) (before after : Whole)
    → along told read add number lines before ≡ Ok after → measure after ≤ measure before + length lines
unfolding along
along_grows {Line} {Given} {Whole} told read add measure grows number [] before after h = grind arith
along_grows told read add measure grows number (line ∷ lines) before after h =
    let parts = gone_on (told number) (read before line) _ after h in
    let rest = along_grows told read add measure grows (number + 1) lines (add before parts.value) after parts.behind in
    let one = grows before parts.value in
    omega (arith, rest, one)

line_adds : (before : LinesSoFar) (given : Line)
    → length (with_trace_line before given).events ≤ length before.events + 1
line_adds before (Line.Slot slot) = omega arith
line_adds before (Line.Event event) = let count = length-append before.events (event ∷ []) in omega (arith, count)

event_adds : (before : List TraceEvent) (event : TraceEvent) → length (before ++ event ∷ []) ≤ length before + 1
event_adds before event = let count = length-append before (event ∷ []) in omega (arith, count)

read : (heap : HeapPages) (written : LinesSoFar) (trace : Contents) → contents_of heap written ≡ Ok trace
    → length trace.events ≤ length written.events
read heap written trace h =
    let some = passed_else (length written.slots == 0) _ _ trace h in
    let found = then_next (events_from written.slots (length written.slots + 2) written.events []) _ trace some.1 in
    let count = along_grows TraceStop.IllTyped (λ events line. typed_event written.slots line)
    (λ events event. events ++ event ∷ []) length event_adds (length written.slots + 2) written.events [] found.value
    found.is in
    let made = contents_from heap.pages heap.resident (words_of_slots written.slots) found.value in
    let is : made ≡ trace = cc in
    let few : length found.value ≤ length written.events = omega (arith, count) in
    subst (λ (t : Contents). length t.events ≤ length written.events) is few

of_lines : (lines : List (List ℕ)) (trace : Contents) → trace_of_lines lines ≡ Ok trace
    → length trace.events ≤ length lines
of_lines [] trace h = absurd cc
of_lines (first ∷ lines) trace h =
    let header = gone_on (text_fault_at 1) (header_line_of (words_of_line first)) _ trace h in
    let written = then_next (written_from 2 lines nothing_written) _ trace header.behind in
    let events = along_grows text_fault_at (λ before line. trace_line_of before (words_of_line line)) with_trace_line
    (λ (w : LinesSoFar). length w.events) line_adds 2 lines nothing_written written.value written.is in
    let count = read header.value written.value trace written.behind in
    omega (arith, events, count)

last_by : (b : Bool) (x : List ℕ) → length (if b then [] else x ∷ []) ≤ 1
last_by x0 x = grind arith

no_more : (lines : List (List ℕ)) → length (without_empty_last lines) ≤ length lines
no_more [] = omega arith
no_more (x ∷ []) = last_by (length x == 0) x
no_more (x ∷ y ∷ lines) = let rest = no_more (y ∷ lines) in omega (arith, rest)

pub few_events : (trace : Contents) → IsOfSomeTraceText trace → length trace.events ≤ 1048577
few_events trace (text, h) =
    let parts = passed_then (nat_le (length text) 1048576) _ _ trace h in
    let short : length text ≤ 1048576 = grind (arith, nat_tests, parts.0) in
    let lines : length (lines_of text) ≤ length text + 1 = grind
    (arith, no_more, length-slice_split, count_by-le-length) in
    let events = of_lines (lines_of text) trace parts.1 in
    omega (arith, short, lines, events)
