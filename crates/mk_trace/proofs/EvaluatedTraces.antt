-- Small texts: their traces, and their first faults.
use Rattle.std.proofs.Common.{Err}
use Rattle.mk_heap.proofs.Below.Laws.Vocabulary.{refl, [], ◌∷◌, ◌≡◌}
use Rattle.mk_trace.proofs.Vocabulary.{A, C, F, K, Ok, TraceStop, W, Which, codes}
use Rattle.mk_check.specs.declared.typing_faults.TypeKind.{TypeKind}
use Rattle.mk_script.specs.declared.faults.TextKind.{TextKind}
use Rattle.mk_trace.specs.Grammar.{along, trace_of}

pub each_event : trace_of
    (codes "trace 2 1\nslot x 2\n  slot  long_1   4096 \na x\nk x\nf long_1\nc x\nw long_1 4095 7")
    ≡ Ok (record { pages = 2; resident = 1; slots = 2 ∷ 4096 ∷ []; events = A 0 ∷ K 0 ∷ F 1 ∷ C 0 ∷ W 1 4095 7 ∷ [] })
unfolding along
each_event = refl

-- What line 1 is not.
pub first_lines : (trace_of [] ≡ Err (TraceStop.Text 1 TextKind.Header))
    × (trace_of (codes "\n") ≡ Err (TraceStop.Text 1 TextKind.Header))
    × (trace_of (codes "heap 1 1\nslot x 2\n") ≡ Err (TraceStop.Text 1 TextKind.Header))
    × (trace_of (codes "trace 1\nslot x 2\n") ≡ Err (TraceStop.Text 1 TextKind.Header))
    × (trace_of (codes "trace 01 0\n") ≡ Err (TraceStop.Text 1 TextKind.Number))
    × (trace_of (codes "trace 0 1\n") ≡ Err (TraceStop.Limit 1 Which.Pages 0))
    × (trace_of (codes "trace 4096 4097\n") ≡ Err (TraceStop.Limit 1 Which.Resident 4097))
first_lines = (refl, refl, refl, refl, refl, refl, refl)

-- No slot; an event before the slots, and a slot after an event; a second header; a word too many; an empty last line.
pub lines_out_of_place : (trace_of (codes "trace 1 1") ≡ Err (TraceStop.Limit 1 Which.Types 0))
    × (trace_of (codes "trace 1 1\na x\nslot x 2\n") ≡ Err (TraceStop.Text 2 TextKind.Word))
    × (trace_of (codes "trace 1 1\nslot x 2\na x\nslot y 2\n") ≡ Err (TraceStop.Text 4 TextKind.Word))
    × (trace_of (codes "trace 1 1\nslot x 2\ntrace 1 1\n") ≡ Err (TraceStop.Text 3 TextKind.Word))
    × (trace_of (codes "trace 1 1\nslot x 2\na x x\n") ≡ Err (TraceStop.Text 3 TextKind.Word))
    × (trace_of (codes "trace 1 1\nslot x 2\n\n") ≡ Err (TraceStop.Text 3 TextKind.Word))
unfolding along
lines_out_of_place = (refl, refl, refl, refl, refl, refl)

-- The first word from left to right decides, and a slot that is declared twice comes before its limits.
pub first_words : (trace_of (codes "trace 1 1\nslot 1 x\n") ≡ Err (TraceStop.Text 2 TextKind.Name))
    × (trace_of (codes "trace 1 1\nslot x 2\nw x y z\n") ≡ Err (TraceStop.Text 3 TextKind.Number))
    × (trace_of (codes "trace 1 1\nslot x 2\nslot x 0\n") ≡ Err (TraceStop.Text 3 TextKind.Twice))
    × (trace_of (codes "trace 1 1\nslot x 0\n") ≡ Err (TraceStop.Limit 2 Which.Words 0))
    × (trace_of (codes "trace 1 1\nslot x 4097\n") ≡ Err (TraceStop.Limit 2 Which.Words 4097))
unfolding along
first_words = (refl, refl, refl, refl, refl)

-- Types: an unknown slot; an index that isn't inside; the pointer at word 0. A later line that isn't of the grammar
-- comes before them.
pub types : (trace_of (codes "trace 1 1\nslot x 2\na y\n") ≡ Err (TraceStop.IllTyped 3 TypeKind.NoGlobal))
    × (trace_of (codes "trace 1 1\nslot x 2\na x\nw x 2 5\n") ≡ Err (TraceStop.IllTyped 4 TypeKind.Offset))
    × (trace_of (codes "trace 1 1\nslot x 2\nw x 0 5\n") ≡ Err (TraceStop.IllTyped 3 TypeKind.Kind))
    × (trace_of (codes "trace 1 1\nslot x 2\nw x 0 5\na\n") ≡ Err (TraceStop.Text 4 TextKind.Word))
unfolding along
types = (refl, refl, refl, refl)
