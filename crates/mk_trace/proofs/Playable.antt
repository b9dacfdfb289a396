-- A trace of some text can be played.
use Rattle.std.proofs.lemmas.List.{get_or-map, Elements.{All-append, All-cons, All-map, All-nil}}
use Rattle.std.proofs.lemmas.List.{FromFn.length-range_with_len, Quantifiers.position-Some}
use Rattle.std.specs.Str.{bytes_eq}
use Rattle.mk_trace.proofs.Vocabulary.{All, Contents, HeapPages, IsBetween, IsEventOf, IsOfSomeTraceText, IsPlayable}
use Rattle.mk_trace.proofs.Vocabulary.{LinesSoFar, Ok, TraceEvent, Which, codes, contents_of, events_from}
use Rattle.mk_trace.proofs.Vocabulary.{TraceStop, header_line_of, length-append, lines_of, nat_tests, nothing_written}
use Rattle.mk_trace.proofs.Vocabulary.{slot_number, text_fault_at, trace_of_lines, typed_event}
use Rattle.mk_trace.proofs.Vocabulary.{types_from, with_trace_line, words_of_line, written_from}
use Rattle.mk_trace.proofs.ReadLines.{along_keeps, bound, gone_on, passed_else, then_next, unless_none}
use Rattle.mk_trace.{proofs.SlotTypes.{length-types_from, range_below, types_among}, specs.declared.lines.Slot.{Slot}}
use Rattle.mk_heap.proofs.Below.Laws.Vocabulary.{Bool, List, None, Option, Some, ℕ, arith, false, get_or, if◌then◌else◌}
use Rattle.mk_heap.proofs.Below.Laws.Vocabulary.{is_some}
use Rattle.mk_heap.proofs.Below.Laws.Vocabulary.{length, length-map, nat_le, refl, subst, true, [], ◌++◌, ◌+◌, ◌<◌}
use Rattle.mk_heap.proofs.Below.Laws.Vocabulary.{◌==◌, ◌∷◌, ◌≡◌}
use Rattle.mk_heap.proofs.Below.Laws.Vocabulary.{◌≤◌}
use Rattle.mk_check.proofs.GrammarLemmas.{at_most-None, passed_then, within-None}
use Rattle.mk_check.proofs.FaultLemmas.{or-None}
use Rattle.mk_script.specs.{Lines.{at_most, heap_limit, within}, Operands.{◌>>=◌, name, number}}
use Rattle.mk_trace.specs.Lines.{checked_slot, event_line, ok_unless, slot_line, trace_line_of}
use Rattle.mk_trace.specs.Grammar.{event_on, on_slot, contents_from, words_of_slots}
use Rattle.mk_trace.specs.declared.lines.{Action.Action, EventLine.EventLine, Line.Line}

-- The slots of lines are within their limits, and so is the heap of a header.

abbrev pub SlotIsWithin : Slot → Type 0
SlotIsWithin slot = IsBetween 1 4096 slot.words

pub record AreWithin (slots : List Slot) : Type 0 where
  pub few : length slots ≤ 64
  pub sizes : All SlotIsWithin slots

one_more : {before : List Slot} (slot found : Slot) → checked_slot before slot ≡ Ok found → AreWithin before
    → AreWithin (before ++ found ∷ [])
one_more {before} slot found h are =
    let fresh = passed_else (is_some (slot_number before slot.name)) _ _ found h in
    let is = unless_none _ slot found fresh.1 in
    let limits = or-None (at_most (length before + 1) 64 Which.Types) (within 1 slot.words 4096 Which.Words) is.0 in
    let count = at_most-None (length before + 1) 64 Which.Types limits.0 in
    let size = within-None 1 slot.words 4096 Which.Words limits.1 in
    record {
      few = omega (arith, count, length-append before (found ∷ []));
      sizes = All-append SlotIsWithin before (found ∷ []) are.sizes
          (All-cons SlotIsWithin found [] (subst SlotIsWithin is.1 size) (All-nil SlotIsWithin));
    }

slot_line_more : (before : LinesSoFar) (operands : List (List ℕ)) (given : Line) → slot_line before operands ≡ Ok given
    → AreWithin before.slots → AreWithin (with_trace_line before given).slots
slot_line_more before (word ∷ words ∷ []) given h are =
    let placed = passed_then (length before.events == 0) _ _ given h in
    let named = bound (name word) _ given placed.1 in
    let counted = bound (number words) _ given named.behind in
    let slot : Slot = record { name = named.value; words = counted.value } in
    let found = bound (checked_slot before.slots slot) _ given counted.behind in
    let is : Line.Slot found.value ≡ given = cc in
    subst (λ (x : Line). AreWithin (with_trace_line before x).slots) is (one_more slot found.value found.is are)
slot_line_more before _ given h are = absurd cc

by_word : (is_slot : Bool) (before : LinesSoFar) (word : List ℕ) (operands : List (List ℕ)) (given : Line)
    → (if is_slot then slot_line before operands else event_line before word operands) ≡ Ok given
    → AreWithin before.slots → AreWithin (with_trace_line before given).slots
by_word true before word operands given h are = slot_line_more before operands given h are
by_word false before word operands given h are = grind (arith, passed_else, bound)

pub record HeapIsWithin (heap : HeapPages) : Type 0 where
  pub pages : IsBetween 1 4096 heap.pages
  pub resident : IsBetween 1 heap.pages heap.resident

heap_within : (pages resident : List ℕ) (heap : HeapPages) → (number pages
    >>= (λ p. number resident >>= (λ r. ok_unless (heap_limit p r) (record { pages = p; resident = r })))) ≡ Ok heap
    → HeapIsWithin heap
heap_within pages resident heap h = grind (arith, bound, unless_none, or-None, within-None)

pub header_within : (words : List (List ℕ)) (heap : HeapPages) → header_line_of words ≡ Ok heap → HeapIsWithin heap
header_within (word ∷ pages ∷ resident ∷ []) heap h =
    heap_within pages resident heap (passed_then (bytes_eq word (codes "trace")) _ _ heap h).1
header_within _ heap h = absurd cc

-- The events of lines are of the slots.

written : (slots : List ℕ) (slot words index value : ℕ) (event : TraceEvent) → slot < length slots
    → get_or slots slot 0 ≡ words → event_on slot words (Action.Write index value) ≡ Ok event → IsEventOf slots event
written slots slot words index value event inside words_are h = grind (arith, passed_else, nat_tests)

on : (slots : List ℕ) (slot words : ℕ) (action : Action) (event : TraceEvent) → slot < length slots
    → get_or slots slot 0 ≡ words → event_on slot words action ≡ Ok event → IsEventOf slots event
on slots slot words x3 event inside words_are h = grind (arith, written)

numbered : (slots : List Slot) (name : List ℕ) (number : Option ℕ) (action : Action) (event : TraceEvent)
    → slot_number slots name ≡ number → on_slot slots number action ≡ Ok event → IsEventOf (words_of_slots slots) event
numbered slots name None action event is h = absurd cc
numbered slots name (Some slot) action event is h =
    let no_slot : Slot = record { name = []; words = 0 } in
    let inside : slot < length slots = (position-Some (λ (x : Slot). bytes_eq name x.name) slots slot no_slot is).0 in
    on (words_of_slots slots) slot (get_or slots slot no_slot).words action event
    (omega (arith, inside, length-map slots (λ (x : Slot). x.words)))
    (get_or-map (λ (x : Slot). x.words) slots slot no_slot 0 inside) h

pub event_more : (slots : List Slot) (before : List TraceEvent) (line : EventLine) (event : TraceEvent)
    → typed_event slots line ≡ Ok event
    → All (IsEventOf (words_of_slots slots)) before → All (IsEventOf (words_of_slots slots)) (before ++ event ∷ [])
event_more slots before line event h are =
    let P = IsEventOf (words_of_slots slots) in
    All-append P before (event ∷ []) are
    (All-cons P event [] (numbered slots line.slot (slot_number slots line.slot) line.action event refl h) (All-nil P))

-- A trace of some text can be played.

read : {heap : HeapPages} (written : LinesSoFar) (trace : Contents) → HeapIsWithin heap → AreWithin written.slots
    → contents_of heap written ≡ Ok trace → IsPlayable trace
read {heap} written trace pages slots h =
    let some = passed_else (length written.slots == 0) _ _ trace h in
    let found = then_next (events_from written.slots (length written.slots + 2) written.events []) _ trace some.1 in
    let are = along_keeps TraceStop.IllTyped (λ events line. typed_event written.slots line)
    (λ events event. events ++ event ∷ []) (All (IsEventOf (words_of_slots written.slots)))
    (λ before line event holds is. event_more written.slots before line event is holds) (length written.slots + 2)
    written.events [] found.value (All-nil (IsEventOf (words_of_slots written.slots))) found.is in
    let made = contents_from heap.pages heap.resident (words_of_slots written.slots) found.value in
    let is : made ≡ trace = cc in
    let count = length-map written.slots (λ (slot : Slot). slot.words) in
    let one : 1 ≤ length written.slots = grind (arith, nat_tests, some.0) in
    let few : length (words_of_slots written.slots) ≤ 64 = omega (arith, count, slots.few) in
    let sizes = All-map (IsBetween 1 4096) (λ (slot : Slot). slot.words) written.slots slots.sizes in
    subst IsPlayable is (record {
      slot_count = (omega (arith, count, one), few);
      slots = sizes;
      events = are;
      heap = let count = length-types_from 0 made.slots in
          record {
            pages = pages.pages;
            resident = pages.resident;
            callers = (omega arith, omega arith);
            markers = omega arith;
            type_count = omega (arith, count, few);
            global_count = omega (arith, few, length-range_with_len 0 (length made.slots));
            types = types_among (types_from 0 made.slots) [] 0 made.slots refl refl sizes;
            globals = range_below 0 (length made.slots) (length (types_from 0 made.slots)) (omega (arith, count));
          };
    })

of_lines : (lines : List (List ℕ)) (trace : Contents) → trace_of_lines lines ≡ Ok trace → IsPlayable trace
of_lines [] trace h = absurd cc
of_lines (first ∷ lines) trace h =
    let header = gone_on (text_fault_at 1) (header_line_of (words_of_line first)) _ trace h in
    let written = then_next (written_from 2 lines nothing_written) _ trace header.behind in
    let slots = along_keeps text_fault_at (λ before line. trace_line_of before (words_of_line line)) with_trace_line
    (λ (w : LinesSoFar). AreWithin w.slots)
    (λ before line given holds is. grind (arith, by_word)) 2 lines nothing_written
    written.value (record { few = omega arith; sizes = All-nil SlotIsWithin }) written.is in
    read written.value trace (header_within (words_of_line first) header.value header.is) slots written.behind

pub is_playable : (trace : Contents) → IsOfSomeTraceText trace → IsPlayable trace
is_playable trace (text, h) = of_lines (lines_of text) trace (passed_then (nat_le (length text) 1048576) _ _ trace h).1
