use Rattle.mk_laws.proofs.Vocabulary.{drop, ◌++◌, ◌+◌, ◌≡◌}
use Rattle.mk_replay.specs.Schedules.{entries_from}
use Rattle.mk_replay.proofs.lines.push_entries.Given as goal

-- the entries so far, and those of the forms that are left
abbrev pub invariant-loop-index : goal.invariant-loop-index
invariant-loop-index l =
    l.entries.items ++ entries_from l.line (l.index + 1) l.seat (drop l.index l.forms)
    ≡ l.initial.entries.items ++ entries_from l.line 1 l.seat l.forms
