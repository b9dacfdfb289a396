use Rattle.mk_replay.{proofs.Vocabulary.{Ok, texts_of}, specs.Schedules.{entries_of_lines, go_on}}
use Rattle.mk_laws.proofs.Vocabulary.{drop, ◌+◌, ◌≡◌}
use Rattle.mk_replay.proofs.schedule_parsing.entries.Given as goal

-- the lines that are left decide
abbrev pub invariant-loop-index : goal.invariant-loop-index
invariant-loop-index l =
    go_on l.first (Ok l.entries.items) (entries_of_lines (l.first + l.index) (texts_of (drop l.index l.lines)))
    ≡ entries_of_lines l.first (texts_of l.lines)
