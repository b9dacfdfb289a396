use Rattle.mk_trace.proofs.Vocabulary.{nothing_written, texts_of, written_from}
use Rattle.mk_heap.proofs.Below.Laws.Vocabulary.{drop, ◌+◌, ◌≡◌}
use Rattle.mk_trace.proofs.parsing.read_lines.Given as goal

-- the lines that are left decide
abbrev pub invariant-loop-index : goal.invariant-loop-index
invariant-loop-index l =
    written_from (2 + l.index) (texts_of (drop l.index l.lines)) l.draft
    ≡ written_from 2 (texts_of l.lines) nothing_written
