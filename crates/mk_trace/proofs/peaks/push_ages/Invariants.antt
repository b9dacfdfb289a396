use Rattle.std.specs.String.{string_bytes}
use Rattle.mk_heap.proofs.Below.Laws.Vocabulary.{drop, ◌++◌, ◌≡◌}
use Rattle.mk_trace.specs.Peaks.{text_of_ages}
use Rattle.mk_trace.proofs.peaks.push_ages.Given as goal

-- the lines so far, and those of the ages that are left
abbrev pub invariant-loop-age : goal.invariant-loop-age
invariant-loop-age l =
    string_bytes l.text ++ text_of_ages (drop l.age-index l.ages) ≡ string_bytes l.initial.text ++ text_of_ages l.ages
