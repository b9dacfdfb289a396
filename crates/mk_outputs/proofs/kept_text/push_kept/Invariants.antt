use Rattle.mk_run.proofs.Below.Laws.Vocabulary.{drop, ◌++◌, ◌≡◌}
use Rattle.mk_outputs.specs.RunOutputs.{kept_text}
use Rattle.mk_outputs.proofs.kept_text.push_kept.Given as goal

-- the lines so far, and those of the entries that are left
abbrev pub invariant-loop-entry : goal.invariant-loop-entry
invariant-loop-entry l = l.text.items ++ kept_text l.items (drop l.entry-index l.kept)
    ≡ l.initial.text.items ++ kept_text l.items l.kept
